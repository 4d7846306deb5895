use Rattle.text.proofs.Cases.{rows_cases}
use Rattle.text.proofs.put_rows.Goals as goal

pub returns : goal.returns
returns c = record { rows = search rows_cases; count = search rows_cases }
