-- The loops over the 64 sprites: what holds at their head. Distances, counts, marks, and the list of the marked places.
use Prim.Native.Nat.{ℕ, zero, suc, ◌+◌, ◌*◌, ◌%◌, ◌<◌, ◌≤◌}
use mathlib.Core.Path.{◌≡◌, refl, sym, ◌∙◌}
use mathlib.Core.Bool.{Bool, true, false, cond}
use mathlib.Core.Logic.{⊎_elim}
use mathlib.Core.List.{List}
use native.Mathlib.Omega.{arith}
use native.Mathlib.Numerals.{add-one}
use native.Mathlib.Nat.{add-zero, add-suc}
use lib.Bits.{bit_or, or_add_and, and_le_l, and_le_r}
use lib.Dec.{eqb}
use lib.ListN.{length, get_or, set, take}
use Rattle.model.specs.Sprites.{oam_at, places_of, count_of}
use Rattle.model.proofs.Scroll.{lt_or_ge}
use Rattle.choice.specs.Distance.{is_from, near, Marks, is_marked, or_of}
use Rattle.choice.proofs.Places.{count_le, count_more, count_cong, places_more, places_cong, y_at}

-- the Y byte of a sprite is the lowest of its word
pub word_low : (o : List ℕ) (i a b c d : ℕ) → a ≡ get_or o (4 * i) 0 → a < 256 → (a + b * 256 + c * 65536 + d * 16777216) % 256 ≡ oam_at o i 0
word_low o i a b c d e lt = let z : (a + b * 256 + c * 65536 + d * 16777216) % 256 ≡ a = omega arith in z ∙ e ∙ y_at o i

-- of the first i sprites n are near
pub record Counted (d : List ℕ) (from h n i : ℕ) : Type 0 where
  pub few : n ≤ i
  pub so_far : n ≡ count_of (near d from h) i

pub counted_start : (d : List ℕ) (from h : ℕ) → Counted d from h 0 0
unfolding count_of
counted_start d from h = record { few = omega arith; so_far = refl }

pub counted_more : (d : List ℕ) (from h n i o : ℕ) → Counted d from h n i → o ≡ cond (is_from from h (get_or d i 0)) 1 0 → Counted d from h (n + o) (i + 1)
unfolding near
counted_more d from h n i o m e =
    let k : n + o ≡ count_of (near d from h) (i + 1) = count_more (near d from h) i n o m.so_far e in
    record { few = rw k (count_le (near d from h) (i + 1)); so_far = k }

pub ruleset counted_loop = (counted_start, counted_more)

-- ---- marks
-- the bits of the marks together
or_none : (a b : ℕ) → bit_or a b ≡ 0 → (a ≡ 0) × (b ≡ 0)
or_none a b e = (omega (arith, or_add_and a b, and_le_l a b, and_le_r a b), omega (arith, or_add_and a b, and_le_l a b, and_le_r a b))

pub any_start : (m : List ℕ) (at : ℕ) → 0 ≡ or_of m at 0
unfolding or_of
any_start m at = refl

pub any_more : (m : List ℕ) (at any j : ℕ) → any ≡ or_of m at j → bit_or any (get_or m (at + j) 0) ≡ or_of m at (j + 1)
unfolding or_of
any_more m at any j e = rw (add-one j, e)

pub ruleset any_loop = (any_start, any_more)

-- none of them is marked: no more are counted, no more are listed
module _ (m : List ℕ) (at : ℕ) where
  unmarked : (n : ℕ) → get_or m (at + n) 0 ≡ 0 → is_marked m (at + n) ≡ false
  unfolding is_marked
  unmarked n e = rw e

  none_counted : (n : ℕ) → or_of m at n ≡ 0 → count_of (is_marked m) (at + n) ≡ count_of (is_marked m) at
  unfolding or_of count_of
  none_counted zero e = rw (add-zero at)
  none_counted (suc n) e =
      let both : (or_of m at n ≡ 0) × (get_or m (at + n) 0 ≡ 0) = or_none (or_of m at n) (get_or m (at + n) 0) e in
      rw (add-suc at n, unmarked n both.1) (none_counted n both.0)

  none_listed : (n : ℕ) → or_of m at n ≡ 0 → places_of (is_marked m) (at + n) ≡ places_of (is_marked m) at
  unfolding or_of places_of
  none_listed zero e = rw (add-zero at)
  none_listed (suc n) e =
      let both : (or_of m at n ≡ 0) × (get_or m (at + n) 0 ≡ 0) = or_none (or_of m at n) (get_or m (at + n) 0) e in
      rw (add-suc at n, unmarked n both.1) (none_listed n both.0)

  module _ (n any : ℕ) (e : any ≡ or_of m at 8) (z : any ≡ 0) where
    pub some_1 : n ≡ count_of (is_marked m) at → n ≡ count_of (is_marked m) (at + 8)
    some_1 k = k ∙ sym (none_counted 8 (sym e ∙ z))

    pub some_2 : (l : List ℕ) → take n l ≡ places_of (is_marked m) at → take n l ≡ places_of (is_marked m) (at + 8)
    some_2 l k = k ∙ sym (none_listed 8 (sym e ∙ z))

pub ruleset some_cases = (some_1, some_2)

-- the k marked places below at + j stand at the front of the list
pub record Listed (m : List ℕ) (at : ℕ) (l : List ℕ) (k j : ℕ) : Type 0 where
  pub few : k ≤ at + j
  pub counted : k ≡ count_of (is_marked m) (at + j)
  pub places : take k l ≡ places_of (is_marked m) (at + j)

pub listed_start : (m : List ℕ) (at : ℕ) (l : List ℕ) (k : ℕ) → k ≡ count_of (is_marked m) at → take k l ≡ places_of (is_marked m) at → Listed m at l k 0
listed_start m at l k e p =
    let z : at + 0 ≡ at = add-zero at in
    record { few = omega (arith, e, count_le (is_marked m) at); counted = rw z e; places = rw z p }

module _ (m : List ℕ) (at : ℕ) (l : List ℕ) (k j : ℕ) (s : Listed m at l k j) where
  mark : (v : ℕ) → v ≤ 1 → v ≡ cond (eqb v 1) 1 0
  mark v h = ⊎_elim (λ (lt : v < 1). let z : v ≡ 0 = omega arith in rw z) (λ (ge : 1 ≤ v). let z : v ≡ 1 = omega arith in rw z) (lt_or_ge v 1)

  pub listed_more : (w : ℕ) → Marks m → length l ≡ 65 → at + 8 ≤ 64 → j < 8 → w ≡ get_or m (at + j) 0 → Listed m at (set l k (at + j)) (k + w) (j + 1)
  unfolding is_marked
  listed_more w marks long fits lt e =
      let z : at + (j + 1) ≡ (at + j) + 1 = omega arith in
      let one : get_or m (at + j) 0 ≤ 1 = marks.each (at + j) (omega arith) in
      let o : w ≡ cond (is_marked m (at + j)) 1 0 = rw e (mark (get_or m (at + j) 0) one) in
      record {
        few = omega (arith, s.few, one);
        counted = rw z (count_more (is_marked m) (at + j) k w s.counted o);
        places = rw z (places_more (is_marked m) (at + j) k w l (omega (arith, s.few)) s.places o);
      }

pub ruleset listed_loop = (listed_start, listed_more)

-- b times eight of them
pub record Blocks (m l : List ℕ) (n b : ℕ) : Type 0 where
  pub counted : n ≡ count_of (is_marked m) (8 * b)
  pub places : take n l ≡ places_of (is_marked m) (8 * b)

pub blocks_start : (m l : List ℕ) → Blocks m l 0 0
unfolding count_of places_of
blocks_start m l = record { counted = refl; places = refl }

module _ (m l : List ℕ) (n b : ℕ) where
  pub blocks_more : n ≡ count_of (is_marked m) (8 * b + 8) → take n l ≡ places_of (is_marked m) (8 * b + 8) → Blocks m l n (b + 1)
  blocks_more c p = let z : 8 * (b + 1) ≡ 8 * b + 8 = omega arith in record { counted = rw z c; places = rw z p }

  pub blocks_done : Blocks m l n b → b ≡ 8 → take (count_of (is_marked m) 64) l ≡ places_of (is_marked m) 64
  blocks_done s z =
      let e : n ≡ count_of (is_marked m) 64 = rw z at s.counted in
      rw (sym e) (rw z at s.places)

pub ruleset blocks_loop = (blocks_start, blocks_more, blocks_done)

-- the marks of near distances
module _ (d : List ℕ) (from h : ℕ) (m : List ℕ) (at_mark : (i : ℕ) → i < 64 → get_or m i 0 ≡ cond (near d from h i) 1 0) where
  pub near_marks : Marks m
  near_marks = record { each = λ i lt. rw (at_mark i lt) (low (near d from h i)) }
    where
      low : (b : Bool) → cond b 1 0 ≤ 1
      low true = omega arith
      low false = omega arith

  is_near : (i : ℕ) → i < 64 → is_marked m i ≡ near d from h i
  unfolding is_marked
  is_near i lt = rw (at_mark i lt) (back (near d from h i))
    where
      back : (b : Bool) → eqb (cond b 1 0) 1 ≡ b
      back true = refl
      back false = refl

  pub near_listed : (l : List ℕ) → take (count_of (is_marked m) 64) l ≡ places_of (is_marked m) 64 → take (count_of (near d from h) 64) l ≡ places_of (near d from h) 64
  near_listed l p = rw (← count_cong (is_marked m) (near d from h) 64 is_near, ← places_cong (is_marked m) (near d from h) 64 is_near) p

pub ruleset marks_cases = (near_marks, near_listed)
