use Rattle.memory_pairs.specs.Pairs.{always}
use Rattle.memory_pairs.proofs.Cases.{Given}
use Rattle.memory_pairs.proofs.put_same.Given as goal

abbrev pub invariant-loop-i : goal.invariant-loop-i
invariant-loop-i l = Given (always l.n) l.bytes l.i
