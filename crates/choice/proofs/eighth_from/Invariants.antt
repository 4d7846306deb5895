use Rattle.choice.proofs.Overflow.{Few}
use Rattle.choice.proofs.eighth_from.Given as goal

abbrev pub invariant-loop-i : goal.invariant-loop-i
invariant-loop-i l = Few l.d l.h l.k l.i
