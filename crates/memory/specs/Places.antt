-- Places by the lengths of what is lent.
use Rattle.std.specs.Prelude.{ℕ, ◌<◌}
use Rattle.model.specs.Unit.{pattern_length, palette_length}
use Rattle.model.specs.declared.Place.{Place}
use Rattle.model.specs.declared.Place.TheVariants.{Pattern, Nametable, Palette}

-- the place lies within pattern tables and a palette of their lengths, and nametable RAM of n bytes
abbrev pub Within : Place → ℕ → Type 0
Within (Pattern right at) n = at < pattern_length
Within (Nametable at) n = at < n
Within (Palette at) n = at < palette_length
