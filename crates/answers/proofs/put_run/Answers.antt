use Rattle.answers.proofs.Text.{run_cases}
use Rattle.answers.proofs.put_run.Goals as goal

pub returns-then-nmi : goal.returns-then-nmi
returns-then-nmi c = search run_cases

pub returns-else-nmi : goal.returns-else-nmi
returns-else-nmi c = search run_cases
