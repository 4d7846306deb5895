use Rattle.sprites.proofs.Merge.{Laid}
use Rattle.sprites.proofs.merge_row.Given as goal

abbrev pub invariant-loop-sprite : goal.invariant-loop-sprite
invariant-loop-sprite l = Laid l.initial.line l.row l.oam l.shown l.line l.sprite-index
