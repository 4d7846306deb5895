-- The ways of each function, for `search`.
use Prim.Native.Nat.{ℕ, ◌-◌, ◌/◌, ◌%◌, ◌<◌, ◌≤◌, min}
use mathlib.Core.Path.{◌≡◌, refl, sym, ◌∙◌}
use mathlib.Core.Bool.{Bool, true, false, cond}
use mathlib.Core.List.{List, []}
use native.Mathlib.Omega.{arith}
use borrow.Author.Tests.{le-leb, lt-leb}
use mir.Val.{bool_byte as from_bool}
use lib.Bits.{bit_and}
use lib.Dec.{eqb, ltb}
use lib.ListN.{take}
use lib.Seq.{take_all}
use Rattle.std.proofs.lemmas.Grind.{and_numeral}
use Rattle.model.specs.Unit.{bit}
use Rattle.model.specs.Sprites.{height, covers, places_of, count_of}
use Rattle.choice.specs.Distance.{Distances, is_from, near}
use Rattle.choice.specs.Overflow.{on_diagonal}
use Rattle.choice.proofs.Places.{distance_in, distance_out, length_places, eight_shown}

module _ (c : ℕ) (b : Bool) (e : b ≡ bit 32 c) where
  pub height_1 : b ≡ true → 16 ≡ height c
  unfolding height
  height_1 t = rw (sym e ∙ t)

  pub height_2 : b ≡ false → 8 ≡ height c
  unfolding height
  height_2 t = rw (sym e ∙ t)

pub ruleset height_cases = (height_1, height_2)

pub ruleset distance_cases = (distance_in, distance_out)

-- a test as 1 or 0
pub one_or_none : (b : Bool) (r : ℕ) → r ≡ from_bool b → (r ≡ cond b 1 0) × (r ≤ 1)
one_or_none true r e = (e, omega (arith, e))
one_or_none false r e = (e, omega (arith, e))

module _ (d from h r : ℕ) (b : Bool) (e : r ≡ from_bool b) where
  pub near_1 : from ≤ d → b ≡ ltb (d - from) h → (r ≡ cond (is_from from h d) 1 0) × (r ≤ 1)
  unfolding is_from
  near_1 p f = rw (le-leb from d p, ← f) (one_or_none b r e)

  pub near_2 : d < from → b ≡ false → (r ≡ cond (is_from from h d) 1 0) × (r ≤ 1)
  unfolding is_from
  near_2 p f = rw (lt-leb from d p) (rw f at (one_or_none b r e))

pub ruleset near_cases = (near_1, near_2)

pub on_diagonal_1 : (j r : ℕ) → r ≡ from_bool (eqb (bit_and (j / 4) 3) (bit_and j 3)) → (r ≡ cond (on_diagonal j) 1 0) × (r ≤ 1)
unfolding on_diagonal
on_diagonal_1 j r e = one_or_none (eqb (j / 4 % 4) (j % 4)) r (e ∙ rw (and_numeral (j / 4) 2 refl, and_numeral j 2 refl))

module _ (c n h : ℕ) (o d : List ℕ) (e : Distances n o d) (g : h ≡ height c) where
  pub listed_1 : (s : ℕ) → s ≡ count_of (near d 1 h) 64 → s ≡ 0 → [] ≡ cond (eqb n 0) [] (take 8 (places_of (covers c o (n - 1)) 64))
  listed_1 s f z =
      let none : 0 ≡ count_of (near d 1 (height c)) 64 = rw g at (sym z ∙ f) in
      eight_shown c n o d e 0 0 [] none (omega arith) (take_all 0 (places_of (near d 1 (height c)) 64) (omega (arith, length_places (near d 1 (height c)) 64)))

  pub listed_2 : (s k : ℕ) (l : List ℕ) → s ≡ count_of (near d 1 h) 64 → take (count_of (near d 1 h) 64) l ≡ places_of (near d 1 h) 64 → k ≡ min s 8
      → take k l ≡ cond (eqb n 0) [] (take 8 (places_of (covers c o (n - 1)) 64))
  listed_2 s k l f z m = eight_shown c n o d e s k l (rw g at f) m (rw g at (rw (sym f) at z))

pub ruleset listed_cases = (listed_1, listed_2)
