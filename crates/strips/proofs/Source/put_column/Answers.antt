use Rattle.strips.proofs.Cases.{column_1}
use Rattle.strips.proofs.Source.put_column.Goals as goal

pub returns : goal.returns
returns c = search column_1
