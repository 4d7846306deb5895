-- Sprites over a line in eight columns.
use Prim.Native.Nat.{ℕ, ◌+◌, ◌%◌, ◌<◌, ◌≤◌}
use mathlib.Core.Path.{◌≡◌, refl}
use mathlib.Core.Bool.{Bool, true, false, cond, not, ◌&&◌}
use mathlib.Core.List.{List}
use native.Mathlib.Omega.{arith}
use borrow.Author.Tests.{le-leb, lt-leb, lt-ltb, le-ltb}
use lib.Dec.{eqb}
use lib.ListN.{get_or}
use Rattle.model.specs.Unit.{bit}
use Rattle.model.specs.Line.{merged}
use Rattle.pixels.specs.Row.{merged_in}

-- in the columns, and outside
module _ (b s : List ℕ) (at n p : ℕ) where
  pub merged_in_lem : at ≤ p → p < at + n → merged_in b s at n p ≡ merged (get_or b p 0) (get_or s p 0)
  unfolding merged_in
  merged_in_lem h k = rw (le-leb at p h, lt-ltb p (at + n) k)

  pub merged_before : p < at → merged_in b s at n p ≡ get_or b p 0
  unfolding merged_in
  merged_before h = rw (lt-leb at p h)

  pub merged_after : at + n ≤ p → merged_in b s at n p ≡ get_or b p 0
  unfolding merged_in
  merged_after h = rw (le-leb at p (omega arith), le-ltb p (at + n) h)

-- sprites that are merged twice are merged once
pub merged_again : (b s : ℕ) → merged (merged b s) s ≡ merged b s
unfolding merged
merged_again b s = by_test (eqb s 0) (bit 32 s) (eqb b 0) refl
  where
    once : Bool → Bool → Bool → ℕ
    once none behind clear = cond none b (cond (behind && not clear) b (s % 32))

    same : (t : Bool) (x : ℕ) → cond t x x ≡ x
    same true x = refl
    same false x = refl

    by_test : (none behind clear : Bool) → eqb b 0 ≡ clear
        → cond none (once none behind clear) (cond (behind && not (eqb (once none behind clear) 0)) (once none behind clear) (s % 32)) ≡ once none behind clear
    by_test true behind clear e = refl
    by_test false false clear e = refl
    by_test false true true e = same (not (eqb (s % 32) 0)) (s % 32)
    by_test false true false e = rw e
