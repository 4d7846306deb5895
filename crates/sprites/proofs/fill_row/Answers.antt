use Rattle.std.proofs.Common.{rules}
use Rattle.sprites.proofs.Row.{filled_more}
use Rattle.sprites.proofs.fill_row.Goals as goal

pub loop-i-preserved : goal.loop-i-preserved
loop-i-preserved c = filled_more _ _ _ _ _ _ _ _ _ _ c.loop-i.invariant (search rules) (search rules) (search rules) (search rules)
