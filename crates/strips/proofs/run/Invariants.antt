use Prim.Native.Nat.{◌*◌}
use mathlib.Core.Path.{◌≡◌}
use Rattle.pixels.specs.Row.{store_tab}
use Rattle.strips.specs.Strips.{strip_pixel}
use Rattle.strips.proofs.run.Given as goal

abbrev pub invariant-loop-t : goal.invariant-loop-t
invariant-loop-t l = l.row ≡ store_tab (strip_pixel l.fn.table l.fn.nametables l.fn.s (4 * l.group)) (32 * l.at) (32 * l.t) l.initial.row
