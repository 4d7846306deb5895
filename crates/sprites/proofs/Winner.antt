-- The sprites that a line shows, in the choice's list and in the row; put one after the other, the first opaque pixel of each column stays.
use Prim.Native.Nat.{ℕ, suc, ◌+◌, ◌-◌, ◌*◌, ◌/◌, ◌%◌, ◌<◌, ◌≤◌}
use mathlib.Core.Path.{◌≡◌, refl, ap, sym, ◌∙◌}
use mathlib.Core.Bool.{Bool, true, false, cond, ◌&&◌, and-false}
use mathlib.Core.Logic.{⊎_elim}
use mathlib.Core.List.{List, [], ◌∷◌, ◌++◌, map}
use native.Mathlib.Omega.{arith}
use borrow.Author.Tests.{ne_eqb, lt-ltb}
use lib.Dec.{eqb, ltb, leb}
use lib.ListN.{length, get_or, take}
use lib.Seq.{take_all, get_or-take}
use Rattle.std.proofs.lemmas.List.{length-take}
use Rattle.model.specs.declared.Sprite.{Sprite}
use Rattle.model.specs.Unit.{bit}
use Rattle.model.specs.Background.{colour_of, number_of}
use Rattle.model.specs.Sprites.{oam_at, covers, places_of, count_of, fetched, chosen, shade, winner, sprite_on, sprite_zero_on}
use Rattle.model.proofs.Scroll.{lt_or_ge}
use Rattle.words.specs.Pack.{pack, byte_of}
use Rattle.pixels.specs.Row.{placed, meets_of}
use Rattle.pixels.proofs.Over.{over_none, placed_shade}
use Rattle.pixels.proofs.Hit.{meets_none, meets_cong}
use Rattle.sprites.specs.Row.{shown_on, Beside}
use Rattle.choice.proofs.Places.{places_at, length_places, count_first}

-- the winner stays under one sprite more
kept : (o v : ℕ) (b : Bool) → eqb o 0 ≡ b → (w r : ℕ) → r ≡ cond (eqb w 0) v w → cond b r o ≡ cond (eqb (cond b w o) 0) v (cond b w o)
kept o v true e w r h = h
kept o v false e w r h = rw e

pub winner_more : (l : List Sprite) (s : Sprite) (p : ℕ) → winner (l ++ (s ∷ [])) p ≡ cond (eqb (winner l p) 0) (shade s p) (winner l p)
unfolding winner
winner_more [] s p = over_none (shade s p)
winner_more (t ∷ l) s p = kept (shade t p) (shade s p) (eqb (shade t p) 0) refl (winner l p) (winner (l ++ (s ∷ [])) p) (winner_more l s p)

none_taken : (l : List ℕ) → take 8 l ≡ [] → l ≡ []
none_taken [] e = refl
none_taken (k ∷ l) e = absurd (no (ap length e))
  where
    no : suc (length (take 7 l)) ≡ 0 → ⊥
    no e = omega arith

-- the winner of the sprites that a line shows
pub winner_shown : (c n : ℕ) (left right o : List ℕ) (p : ℕ) → winner (shown_on c left right o n) p ≡ sprite_on c left right o n p
unfolding sprite_on shown_on winner
winner_shown c n left right o p = by_test (eqb n 0)
  where
    by_test : (b : Bool) → winner (cond b [] (chosen c left right o (n - 1))) p ≡ cond b 0 (winner (chosen c left right o (n - 1)) p)
    by_test true = refl
    by_test false = refl

-- a sprite has no pixel beside its eight columns
beside_shade : (c m : ℕ) (left right o : List ℕ) (p i : ℕ) → (leb (oam_at o i 3) p && ltb p (oam_at o i 3 + 8)) ≡ false → shade (fetched c left right o m i) p ≡ 0
unfolding shade fetched
beside_shade c m left right o p i e = rw e

-- ---- the list that the choice leaves
module _ (c n : ℕ) (o list : List ℕ) (e : list ≡ cond (eqb n 0) [] (take 8 (places_of (covers c o (n - 1)) 64))) where
  pub few : length list ≤ 8
  few = rw e (by_test (eqb n 0) (places_of (covers c o (n - 1)) 64))
    where
      by_test : (b : Bool) (l : List ℕ) → length (cond b [] (take 8 l)) ≤ 8
      by_test true l = omega arith
      by_test false l = omega (arith, length-take 8 l)

  -- on line 0 it is empty
  none : n ≡ 0 → length list ≡ 0
  none z = ap length e ∙ rw z

  some : (j : ℕ) → j < length list → list ≡ take 8 (places_of (covers c o (n - 1)) 64)
  some j lt = e ∙ rw (ne_eqb n 0 (λ z. omega (arith, none z)))

  pub listed_at : (j : ℕ) → j < length list → (get_or list j 0 < 64) × (covers c o (n - 1) (get_or list j 0) ≡ true)
  listed_at j lt =
      let P : List ℕ = places_of (covers c o (n - 1)) 64 in
      let g : get_or list j 0 ≡ get_or P j 0 = ap (λ (l : List ℕ). get_or l j 0) (some j lt) ∙ get_or-take 8 P j 0 (omega (arith, few)) in
      let w : j < length P =
      ⊎_elim
      (λ (h : j < length P). h)
      (λ (h : length P ≤ j). absurd (omega (arith, ap length (some j lt ∙ take_all 8 P (omega (arith, few))))))
      (lt_or_ge j (length P)) in
      rw g (places_at (covers c o (n - 1)) 64 j w)

  module _ (j i : ℕ) (lt : j < length list) (z : i ≡ get_or list j 0) where
    pub listed_small : i < 64
    listed_small = rw z (listed_at j lt).0

    pub listed_covers : (m : ℕ) → m ≡ n - 1 → covers c o m i ≡ true
    listed_covers m d = rw (z, d) (listed_at j lt).1

  -- it has the line's sprites
  pub shown_listed : (left right : List ℕ) → map (fetched c left right o (n - 1)) list ≡ shown_on c left right o n
  unfolding shown_on chosen
  shown_listed left right = rw e (by_test (eqb n 0))
    where
      by_test : (b : Bool) → map (fetched c left right o (n - 1)) (cond b [] (take 8 (places_of (covers c o (n - 1)) 64)))
          ≡ cond b [] (map (fetched c left right o (n - 1)) (take 8 (places_of (covers c o (n - 1)) 64)))
      by_test true = refl
      by_test false = refl

  -- in a column beside all of them no sprite is drawn
  pub beside_none : (left right : List ℕ) (p : ℕ) → Beside o list (length list) p → sprite_on c left right o n p ≡ 0
  unfolding winner
  beside_none left right p h = sym (winner_shown c n left right o p) ∙ rw (← shown_listed left right) (beside_winner left right p list h)
    where
      beside_winner : (left right : List ℕ) (p : ℕ) (l : List ℕ) → Beside o l (length l) p → winner (map (fetched c left right o (n - 1)) l) p ≡ 0
      beside_winner left right p [] h = refl
      beside_winner left right p (k ∷ l) h =
          rw (beside_shade c (n - 1) left right o p k (h 0 (omega arith))) (beside_winner left right p l (λ j lt. h (suc j) (omega arith)))

  -- where it is empty no sprite is drawn, nor is sprite 0
  pub none_on : list ≡ [] → (left right : List ℕ) (p : ℕ) → sprite_on c left right o n p ≡ 0
  unfolding winner
  none_on z left right p = sym (winner_shown c n left right o p) ∙ rw (← shown_listed left right, z)

  pub none_zero : list ≡ [] → (left right : List ℕ) (p : ℕ) → sprite_zero_on c left right o n p ≡ 0
  unfolding sprite_zero_on
  none_zero z left right p =
      ⊎_elim
      (λ (some : 0 < n).
      let P : List ℕ = places_of (covers c o (n - 1)) 64 in
      let w : take 8 P ≡ [] = rw (z, ne_eqb n 0 (λ d. omega arith)) at (sym e) in
      let k : count_of (covers c o (n - 1)) 64 ≡ 0 = sym (length_places (covers c o (n - 1)) 64) ∙ ap length (none_taken P w) in
      rw (count_first (covers c o (n - 1)) 63 k, and-false (ltb 0 n)))
      (λ (none : n ≤ 0). let d : n ≡ 0 = omega arith in rw d)
      (lt_or_ge 0 n)

-- ---- sprite 0's hit: none on line 0, none where it does not cover the line, or by its eight pixels
module _ (c n skip : ℕ) (left right o line : List ℕ) where
  abbrev hits : Bool
  hits = meets_of line (sprite_zero_on c left right o n) skip

  pub zero_1 : n ≡ 0 → false ≡ hits
  unfolding sprite_zero_on
  zero_1 z = meets_none line (sprite_zero_on c left right o n) skip (λ p. rw z)

  module _ (m : ℕ) (b : Bool) (u : n ≡ 0 → ⊥) (d : m ≡ n - 1) (e : b ≡ covers c o m 0) where
    pub zero_2 : b ≡ false → false ≡ hits
    unfolding sprite_zero_on
    zero_2 t = meets_none line (sprite_zero_on c left right o n) skip (λ p. rw (lt-ltb 0 n (omega arith), ← d, sym e ∙ t))

    zero_shade : b ≡ true → (p : ℕ) → shade (fetched c left right o m 0) p ≡ sprite_zero_on c left right o n p
    unfolding sprite_zero_on
    zero_shade t p = rw (lt-ltb 0 n (omega arith), ← d, sym e ∙ t)

    pub zero_3 : b ≡ true → (s : Sprite) (at w : ℕ) (r : Bool) → s ≡ fetched c left right o m 0 → at ≡ s.x
        → w ≡ pack (λ (j : ℕ). number_of (4 + s.attribute % 4 + s.attribute / 32 % 2 * 8) (colour_of s.low s.high (cond (bit 64 s.attribute) j (7 - j)))) 8
        → r ≡ meets_of line (placed (byte_of w) at) skip → r ≡ hits
    zero_3 t s at w r f x g h =
        h ∙ meets_cong line (placed (byte_of w) at) (sprite_zero_on c left right o n) skip (λ p. rw (x, placed_shade s w g p, f) (zero_shade t p))

pub zero_covers : (c : ℕ) (o : List ℕ) (m : ℕ) (b : Bool) → b ≡ covers c o m 0 → b ≡ true → covers c o m 0 ≡ true
zero_covers c o m b e t = sym e ∙ t

pub ruleset zero_cases = (zero_1, zero_2, zero_3, zero_covers)
