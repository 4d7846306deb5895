use lib.ListN.{take}
use Rattle.sprites.proofs.Row.{Drawn}
use Rattle.sprites.proofs.draw_row.Given as goal

abbrev pub invariant-loop-sprite : goal.invariant-loop-sprite
invariant-loop-sprite l = Drawn (take l.count l.row) l.pixels l.sprite-index
