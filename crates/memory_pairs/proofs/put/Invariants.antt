use Rattle.memory_pairs.specs.Pairs.{number_at}
use Rattle.memory_pairs.proofs.Cases.{Given}
use Rattle.memory_pairs.proofs.put.Given as goal

abbrev pub invariant-loop-i : goal.invariant-loop-i
invariant-loop-i l = Given (number_at l.numbers) l.bytes l.i
