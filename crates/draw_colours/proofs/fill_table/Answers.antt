use native.Mathlib.Omega.{arith}
use Rattle.draw_colours.proofs.Cases.{table_done}
use Rattle.draw_colours.proofs.fill_table.Goals as goal

pub returns : goal.returns
returns c = table_done _ _ _ c.loop-n.n c.loop-n.invariant.0 c.loop-n.invariant.1 (omega arith)
