use Prim.Native.Nat.{ℕ, ◌%◌, ◌<◌}
use mathlib.Core.Path.{◌≡◌}
use lib.ListN.{length, get_or}
use Rattle.choice.proofs.y_bytes.Given as goal

abbrev pub invariant-loop-i : goal.invariant-loop-i
invariant-loop-i l = (length l.y ≡ 64) × ((k : ℕ) → k < l.i → get_or l.y k 0 ≡ get_or l.w k 0 % 256)
