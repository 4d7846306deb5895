use Rattle.text.proofs.Loops.{Inverted}
use Rattle.text.proofs.inverse.Given as goal

abbrev pub invariant-loop-i : goal.invariant-loop-i
invariant-loop-i l = Inverted l.table l.tiles l.i
