use Prim.Native.Nat.{ℕ, ◌-◌}
use mathlib.Core.Path.{◌≡◌}
use lib.ListN.{get_or}
use Rattle.pixels.specs.Row.{merged_in}
use Rattle.pixels.proofs.merge8.Given as goal

abbrev pub invariant-loop-p : goal.invariant-loop-p
invariant-loop-p l = (k : ℕ) → get_or l.line k 0 ≡ merged_in l.initial.line l.s l.at (l.p - l.at) k
