use Rattle.ports.proofs.Cases.{write_1}
use Rattle.ports.proofs.write_kept.Goals as goal

pub returns : goal.returns
returns c = search write_1
