use Rattle.choice.proofs.Loops.{blocks_loop}
use Rattle.choice.proofs.list_marked.Goals as goal

pub loop-b-init : goal.loop-b-init
loop-b-init c = search blocks_loop
