use mathlib.Core.Path.{◌≡◌}
use Rattle.words.specs.Pack.{byte_of}
use Rattle.pixels.specs.Row.{over_tab}
use Rattle.pixels.proofs.put_over.Given as goal

abbrev pub invariant-loop-j : goal.invariant-loop-j
invariant-loop-j l = l.row ≡ over_tab (byte_of l.n) l.at l.j l.initial.row
