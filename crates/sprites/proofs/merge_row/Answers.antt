use borrow.Author.Rules.{rules}
use native.Mathlib.Omega.{arith}
use Rattle.sprites.proofs.Merge.{laid_more, laid_done}
use Rattle.sprites.proofs.merge_row.Goals as goal

pub loop-sprite-preserved : goal.loop-sprite-preserved
loop-sprite-preserved c =
    laid_more _ _ _ _ _ _ c.loop-sprite.invariant _ _ _ _ c.min.ensures c.from-x.ensures c.from.ensures c.merge8.ensures (search rules)

pub returns : goal.returns
returns c = laid_done _ _ _ _ _ _ c.loop-sprite.invariant (omega arith) c.requires.1
