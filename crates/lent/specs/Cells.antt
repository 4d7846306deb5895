-- Lent memory as the model's.
use Rattle.std.specs.Prelude.{List, [], ℕ}
use Rattle.model.specs.Unit.{Cells, access_cells, Memory}
use Rattle.lent.specs.declared.Lent.{Lent}

abbrev pub cells_of : Lent → Cells
cells_of m = access_cells m.tables.left.now m.tables.right.now m.nametables.now m.oam.now m.palette.now

-- what an access is lent, and with both line buffers what a run is
abbrev pub accessed : Lent → Memory
accessed m = record { cells = cells_of m; line = []; colours = [] }

abbrev pub drawn_on : Lent → List ℕ → List ℕ → Memory
drawn_on m b f = record { cells = cells_of m; line = b; colours = f }
