use Rattle.model.specs.Unit.{state}
use Rattle.model.specs.Colours.{numbers_of}
use Rattle.lent.specs.Cells.{cells_of, drawn_on}
use Rattle.scanline.proofs.Cases.{Running}
use Rattle.scanline.proofs.run.Given as goal

abbrev pub invariant-loop-i : goal.invariant-loop-i
invariant-loop-i l = Running l.reason (state l.initial.next (drawn_on l.m l.initial.line (numbers_of l.initial.colours))) (cells_of l.m) l.next l.line l.colours l.i
