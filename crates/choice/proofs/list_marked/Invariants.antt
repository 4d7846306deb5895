use Rattle.choice.proofs.Loops.{Blocks}
use Rattle.choice.proofs.list_marked.Given as goal

abbrev pub invariant-loop-b : goal.invariant-loop-b
invariant-loop-b l = Blocks l.m l.list l.n l.b
