use Prim.Native.Nat.{ℕ, ◌<◌}
use mathlib.Core.Path.{◌≡◌}
use lib.ListN.{length, get_or}
use Rattle.choice.specs.Distance.{distance_of}
use Rattle.choice.proofs.from_y.Given as goal

abbrev pub invariant-loop-i : goal.invariant-loop-i
invariant-loop-i l = (length l.d ≡ 64) × ((k : ℕ) → k < l.i → get_or l.d k 0 ≡ distance_of l.n (get_or l.y k 0))
