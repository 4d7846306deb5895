use Rattle.words.specs.Pack.{pack, spread_of}
use Rattle.words.proofs.Spreads.{spread_is}
use borrow.Author.Rules.{rules}
use Rattle.words.proofs.spread.Goals as goal

pub returns : goal.returns
unfolding pack spread_of
returns c = spread_is _ _ _ (search rules) (search rules)
