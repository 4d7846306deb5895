use Rattle.std.proofs.Common.{◌≡◌, ℕ, ◌<◌, length, get_or}
use Rattle.memory_pairs.specs.Pairs.{pair_at}
use Rattle.memory_pairs.proofs.take.Given as goal

abbrev pub invariant-loop-i : goal.invariant-loop-i
invariant-loop-i l = (length l.numbers ≡ 256) × ((k : ℕ) → k < l.i → get_or l.numbers k 0 ≡ pair_at l.bytes k)
