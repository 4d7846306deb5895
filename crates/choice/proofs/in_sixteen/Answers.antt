use Rattle.choice.proofs.Overflow.{sixteen_loop}
use Rattle.std.proofs.Common.{arith}
use Rattle.choice.proofs.in_sixteen.Goals as goal

pub loop-i-preserved : goal.loop-i-preserved
loop-i-preserved c = search (sixteen_loop, arith)
