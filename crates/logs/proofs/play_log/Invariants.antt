use Rattle.model.specs.Unit.{state, line_memory}
use Rattle.logs.proofs.Playing.{Playing}
use Rattle.logs.proofs.play_log.Given as goal

abbrev pub invariant-loop-at : goal.invariant-loop-at
invariant-loop-at l = Playing l.log l.initial.out (state l.initial.played.unit (line_memory l.initial.left l.initial.right l.initial.nametables l.initial.oam l.initial.palette l.initial.line l.initial.colours)) l.at l.played (line_memory l.left l.right l.nametables l.oam l.palette l.line l.colours) l.out
