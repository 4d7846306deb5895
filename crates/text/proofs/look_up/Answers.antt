use Rattle.std.proofs.Common.{rules}
use Rattle.model.proofs.Tab.{tab_none, tab_more}
use Rattle.text.specs.Passes.{table_byte}
use Rattle.text.proofs.Loops.{filled}
use Rattle.text.proofs.look_up.Goals as goal

pub loop-k-init : goal.loop-k-init
loop-k-init c = tab_none _ _

pub loop-k-preserved : goal.loop-k-preserved
unfolding table_byte
loop-k-preserved c = search (rules, tab_more)

pub returns : goal.returns
returns c = search (rules, filled)
