use Rattle.scanline.proofs.Cases.{one_run, line_1, line_3}
use Rattle.scanline.proofs.one_line.Goals as goal

pub returns-then-draws : goal.returns-then-draws
returns-then-draws c = search (one_run, line_1)

pub returns : goal.returns
returns c = search (one_run, line_3)
