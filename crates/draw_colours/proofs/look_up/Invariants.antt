use Prim.Native.Nat.{◌*◌}
use Rattle.memory_pairs.proofs.Cases.{Given}
use Rattle.draw_colours.specs.Table.{from_table}
use Rattle.draw_colours.proofs.look_up.Given as goal

abbrev pub invariant-loop-i : goal.invariant-loop-i
invariant-loop-i l = Given (from_table l.table l.line) l.colours (2 * l.i)
