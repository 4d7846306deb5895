use Rattle.text.proofs.Loops.{inverted_loop}
use Rattle.text.proofs.inverse.Goals as goal

pub loop-i-init : goal.loop-i-init
loop-i-init c = search inverted_loop

pub loop-i-preserved : goal.loop-i-preserved
loop-i-preserved c = search inverted_loop

pub returns : goal.returns
returns c = search inverted_loop
