use Rattle.choice.proofs.Overflow.{Sixteen}
use Rattle.choice.proofs.in_sixteen.Given as goal

abbrev pub invariant-loop-i : goal.invariant-loop-i
invariant-loop-i l = Sixteen l.d l.h l.at l.n l.i
