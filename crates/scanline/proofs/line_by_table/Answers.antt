use Rattle.scanline.proofs.Cases.{line_2, line_3}
use Rattle.scanline.proofs.line_by_table.Goals as goal

pub returns-then-draws : goal.returns-then-draws
returns-then-draws c = search line_2

pub returns : goal.returns
returns c = search line_3
