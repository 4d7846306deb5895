use Rattle.choice.proofs.Loops.{Listed}
use Rattle.choice.proofs.list_eight.Given as goal

abbrev pub invariant-loop-j : goal.invariant-loop-j
invariant-loop-j l = Listed l.m l.at l.list l.k l.j
