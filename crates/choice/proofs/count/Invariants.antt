use Rattle.choice.proofs.Loops.{Counted}
use Rattle.choice.proofs.count.Given as goal

abbrev pub invariant-loop-i : goal.invariant-loop-i
invariant-loop-i l = Counted l.d l.from l.h l.n l.i
