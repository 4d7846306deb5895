use borrow.Author.Rules.{rules}
use Rattle.scanline.proofs.Cases.{run_start, run_table, run_again, run_met, run_done_lem}
use Rattle.scanline.proofs.run.Goals as goal

pub loop-i-init : goal.loop-i-init
loop-i-init c = search run_start

pub line_by_table-met-requires : goal.line_by_table-met-requires
line_by_table-met-requires c = (search rules, search rules, search run_table)

pub returns-then-met : goal.returns-then-met
returns-then-met c = search run_met

pub loop-i-preserved : goal.loop-i-preserved
loop-i-preserved c = search run_again

pub returns : goal.returns
returns c = search run_done_lem
