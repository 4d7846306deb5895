-- When an answer can be printed.
use Rattle.std.specs.Prelude.{◌≡◌, ◌<◌}
use Rattle.model.specs.declared.Access.{Access}
use Rattle.model.specs.declared.Entry.{Entry}
use Rattle.model.specs.declared.Entry.TheVariants.{Read, Write, Run, Refused}

-- a next line that is printed has at most three digits
unfoldable pub Printable : Entry → Access → Type 0
Printable (Read a) x = Unit
Printable (Write a b) x = Unit
Printable (Run n) x = x.answer.number ≡ 0 → x.unit.scanline < 1000
Printable Refused x = Unit
