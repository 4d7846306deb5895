use Prim.Native.Nat.{ℕ, ◌<◌}
use mathlib.Core.Path.{◌≡◌}
use mathlib.Core.Bool.{cond}
use lib.ListN.{length, get_or}
use Rattle.choice.specs.Distance.{near}
use Rattle.choice.proofs.marks.Given as goal

abbrev pub invariant-loop-i : goal.invariant-loop-i
invariant-loop-i l = (length l.m ≡ 64) × ((k : ℕ) → k < l.i → get_or l.m k 0 ≡ cond (near l.d l.from l.h k) 1 0)
