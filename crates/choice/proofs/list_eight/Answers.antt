use Rattle.choice.proofs.Loops.{listed_loop}
use Rattle.choice.proofs.list_eight.Goals as goal

pub loop-j-init : goal.loop-j-init
loop-j-init c = search listed_loop

pub loop-j-preserved : goal.loop-j-preserved
loop-j-preserved c = search listed_loop
