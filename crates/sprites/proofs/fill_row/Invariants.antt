use Prim.Native.Nat.{◌-◌}
use Rattle.sprites.proofs.Row.{Filled}
use Rattle.sprites.proofs.fill_row.Given as goal

abbrev pub invariant-loop-i : goal.invariant-loop-i
invariant-loop-i l = Filled l.control (l.n - 1) l.tables.left.now l.tables.right.now l.oam l.shown l.initial.row l.row l.i
