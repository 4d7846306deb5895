use Rattle.std.proofs.Common.{rules}
use Rattle.model.specs.Calls.{plain_refusal, order, refusal_of, search_done, done, on_lent}
use Rattle.accesses.proofs.search.Goals as goal

pub returns-in-Ok : goal.returns-in-Ok
unfolding on_lent refusal_of plain_refusal order done search_done
returns-in-Ok c = search rules
