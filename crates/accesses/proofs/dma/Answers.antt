use Rattle.std.proofs.Common.{rules}
use Rattle.model.specs.Calls.{plain_refusal, order, refusal_of, done, on_lent}
use Rattle.accesses.proofs.dma.Goals as goal

pub returns : goal.returns
unfolding on_lent refusal_of plain_refusal order done
returns c = search rules
