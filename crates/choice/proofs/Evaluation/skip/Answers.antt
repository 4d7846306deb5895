use Rattle.choice.proofs.Overflow.{eight_on}
use Rattle.std.proofs.Common.{rules}
use Rattle.choice.proofs.Evaluation.skip.Goals as goal

pub loop-i-preserved : goal.loop-i-preserved
loop-i-preserved c = search (eight_on, rules)
