use Rattle.choice.proofs.Overflow.{Diagonal}
use Rattle.choice.proofs.Evaluation.diagonal.Given as goal

abbrev pub invariant-loop-i : goal.invariant-loop-i
invariant-loop-i l = Diagonal l.self.control l.self.oam.now l.self.n l.i l.b
