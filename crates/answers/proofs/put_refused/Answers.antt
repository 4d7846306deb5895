use Rattle.answers.proofs.Text.{refused_cases}
use Rattle.answers.proofs.put_refused.Goals as goal

pub returns : goal.returns
returns c = search refused_cases
