-- What one line does: the background.
use Rattle.std.specs.Prelude.{cond, ◌&&◌, ◌||◌, List, ℕ, ◌+◌, ◌-◌, ◌*◌, ◌/◌, ◌%◌, ◌^◌, leb, eqb, get_or}
use Rattle.model.specs.declared.Wiring.{Wiring}
use Rattle.model.specs.Unit.{bit}
use Rattle.model.specs.Address.{nametable_byte}
use Rattle.model.specs.Scroll.{fine_y, nametable, row, column, right_by}

-- the tile number at $2000 + v mod 4096
unfoldable pub tile_at : Wiring → List ℕ → ℕ → ℕ
tile_at w n v = nametable_byte w n (8192 + v % 4096)

-- the attribute byte's address: $23C0 + nametable bits + 8 (row div 4) + column div 4
unfoldable pub attribute_address : ℕ → ℕ
attribute_address v = 9152 + nametable v * 1024 + 8 * (row v / 4) + column v / 4

-- the attribute byte shifted right by 4 × bit 1 of the row + 2 × bit 1 of the column, low two bits
unfoldable pub attribute_at : Wiring → List ℕ → ℕ → ℕ
attribute_at w n v = nametable_byte w n (attribute_address v) / 2 ^ (4 * (row v / 2 % 2) + 2 * (column v / 2 % 2)) % 4

-- a tile's row: byte fine y, and byte 8 + fine y, of its 16 in the table
unfoldable pub low_at : List ℕ → ℕ → ℕ → ℕ
low_at table tile v = get_or table (16 * tile + fine_y v) 0

unfoldable pub high_at : List ℕ → ℕ → ℕ → ℕ
high_at table tile v = get_or table (16 * tile + fine_y v + 8) 0

-- bit k of the low byte is colour bit 0, of the high byte colour bit 1
unfoldable pub colour_of : ℕ → ℕ → ℕ → ℕ
colour_of low high k = low / 2 ^ k % 2 + 2 * (high / 2 ^ k % 2)

-- opaque if the colour is not 0: the number 4 × q + colour, else 0
unfoldable pub number_of : ℕ → ℕ → ℕ
number_of q colour = cond (eqb colour 0) 0 (4 * q + colour)

-- bit k of the tile that v names
unfoldable pub tile_pixel : Wiring → List ℕ → List ℕ → ℕ → ℕ → ℕ
tile_pixel w n table v k =
    number_of (attribute_at w n v) (colour_of (low_at table (tile_at w n v) v) (high_at table (tile_at w n v) v) k)

-- column p: s = x + p; v stepped right s div 8 times; bit 7 - s mod 8
unfoldable pub background_at : Wiring → List ℕ → List ℕ → ℕ → ℕ → ℕ → ℕ
background_at w n table v x p = tile_pixel w n table (right_by v ((x + p) / 8)) (7 - (x + p) % 8)

-- shown if mask bit 3, and for p below 8 also bit 1. A pixel not shown counts as not opaque
unfoldable pub background_shown : ℕ → ℕ → ℕ → ℕ
background_shown mask p b = cond (bit 8 mask && (leb 8 p || bit 2 mask)) b 0
