-- The row of sprites: filled from the choice's list, and drawn.
use Prim.Native.Nat.{ℕ, suc, ◌+◌, ◌-◌, ◌<◌, ◌≤◌}
use mathlib.Core.Path.{◌≡◌, refl, ap, sym, ◌∙◌}
use mathlib.Core.Bool.{cond}
use mathlib.Core.List.{List, [], ◌∷◌, ◌++◌, map, map-append, append_assoc}
use native.Mathlib.Omega.{arith}
use native.Mathlib.Numerals.{add-one}
use lib.Dec.{eqb}
use lib.ListN.{length, get_or, set, take, drop, length-set, length-map}
use lib.Seq.{take-suc, drop-cons, set_at, take_at, take_all, take-length, length-take-le}
use Rattle.model.specs.declared.Sprite.{Sprite}
use Rattle.model.specs.Sprites.{covers, places_of, fetched, shade, winner, sprite_on}
use Rattle.sprites.specs.Row.{shown_on}
use Rattle.sprites.proofs.Winner.{winner_more, winner_shown, shown_listed}

-- what an empty place has
abbrev pub none : Sprite
none = record { low = 0; high = 0; attribute = 0; x = 0 }

-- ---- the row has the first i sprites of the list, as line m + 1 shows them; past them it is as it was, ys
module _ (c m : ℕ) (left right o list : List ℕ) (ys : List Sprite) where
  pub record Filled (row : List Sprite) (i : ℕ) : Type 0 where
    pub long : length row ≡ 8
    pub here : row ≡ map (fetched c left right o m) (take i list) ++ drop i ys

  pub filled_none : length ys ≡ 8 → Filled ys 0
  filled_none h = record { long = h; here = refl }

  length_put : (i : ℕ) → i ≤ length list → length (map (fetched c left right o m) (take i list)) ≡ i
  length_put i h = length-map (take i list) (fetched c left right o m) ∙ length-take-le i list h

  pub filled_more : (row : List Sprite) (i : ℕ) (s : Sprite) → Filled row i → length ys ≡ 8 → i < 8 → i < length list → s ≡ fetched c left right o m (get_or list i 0) → Filled (set row i s) (i + 1)
  filled_more row i s d y k h e =
      record {
        long = simp length-set d.long;
        here =
            rw (d.here, e, add-one, drop-cons ys i none (omega (arith, y)), set_at (map (fetched c left right o m) (take i list)) (get_or ys i none) (drop (suc i) ys) (fetched c left right o m (get_or list i 0)) i (length_put i (omega arith)), take-suc list i 0 h, map-append (fetched c left right o m) (take i list) (get_or list i 0 ∷ []))
            (sym (append_assoc (map (fetched c left right o m) (take i list)) (fetched c left right o m (get_or list i 0) ∷ []) (drop (suc i) ys)));
      }

-- ---- the pixels with the first i sprites of the row over them
pub record Drawn (row : List Sprite) (pixels : List ℕ) (i : ℕ) : Type 0 where
  pub won : (p : ℕ) → get_or pixels p 0 ≡ winner (take i row) p

pub drawn_none : (row : List Sprite) (pixels : List ℕ) → ((p : ℕ) → get_or pixels p 0 ≡ 0) → Drawn row pixels 0
unfolding winner
drawn_none row pixels e = record { won = e }

pub drawn_more : (row : List Sprite) (pixels next : List ℕ) (i : ℕ) → Drawn row pixels i → i < length row
    → ((p : ℕ) → get_or next p 0 ≡ cond (eqb (get_or pixels p 0) 0) (shade (get_or row i none) p) (get_or pixels p 0)) → Drawn row next (i + 1)
drawn_more row pixels next i d lt e =
    let t : take (i + 1) row ≡ take i row ++ (get_or row i none ∷ []) = rw (add-one i) (take-suc row i none lt) in
    record { won = λ p. rw (e p, d.won p, t) (sym (winner_more (take i row) (get_or row i none) p)) }

pub drawn_all : (row : List Sprite) (pixels : List ℕ) (i : ℕ) → Drawn row pixels i → length row ≤ i → (p : ℕ) → get_or pixels p 0 ≡ winner row p
drawn_all row pixels i d ge p = rw (take_all i row ge) at (d.won p)

pub ruleset drawn_loop = (drawn_none, drawn_more, drawn_all)

-- ---- filled, then drawn: the line's winners
module _ (c n : ℕ) (left right o list : List ℕ) (e : list ≡ cond (eqb n 0) [] (take 8 (places_of (covers c o (n - 1)) 64))) where
  pub filled_shown : (ys row : List Sprite) (i : ℕ) → Filled c (n - 1) left right o list ys row i → i ≡ length list → row ≡ shown_on c left right o n ++ drop (length list) ys
  filled_shown ys row i d z = d.here ∙ rw (z, take-length list, shown_listed c n o list e left right)

  pub drawn_shown : (ys row : List Sprite) (pixels : List ℕ) → row ≡ shown_on c left right o n ++ drop (length list) ys → ((p : ℕ) → get_or pixels p 0 ≡ winner (take (length list) row) p)
      → (p : ℕ) → get_or pixels p 0 ≡ sprite_on c left right o n p
  drawn_shown ys row pixels z w p =
      let k : length (shown_on c left right o n) ≡ length list = ap length (sym (shown_listed c n o list e left right)) ∙ length-map list (fetched c left right o (n - 1)) in
      w p ∙ rw (z, take_at (shown_on c left right o n) (drop (length list) ys) (length list) k) (winner_shown c n left right o p)
