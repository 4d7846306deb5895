use Rattle.answers.proofs.Text.{spelled, read_digits}
use Rattle.answers.proofs.put_read.Goals as goal

pub returns : goal.returns
returns c = spelled _ _ _ _ _ _ (read_digits _ _ _ c.hex_digit.ensures c.hex_digit-2.ensures) c.put.ensures
