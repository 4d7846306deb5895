use Rattle.runs.proofs.Cases.{undrawn_run}
use Rattle.runs.proofs.undrawn_line.Goals as goal

pub returns : goal.returns
returns c = search undrawn_run
