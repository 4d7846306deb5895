-- A strip is a row of tiles in one page of nametable RAM: where it lies, and the pixels that its columns show on one line.
use Rattle.std.specs.Prelude.{ℕ, ◌+◌, ◌-◌, ◌*◌, ◌/◌, ◌%◌, ◌^◌, ◌<◌, ◌≤◌, List, get_or}
use Rattle.model.specs.declared.Wiring.{Wiring}
use Rattle.model.specs.Address.{page_at, wiring_number}
use Rattle.model.specs.Scroll.{fine_y, row}
use Rattle.model.specs.Background.{colour_of, number_of}
use Rattle.strips.specs.declared.Strip.{Strip}

-- nine groups of four tiles of eight pixels: a line meets 33 tiles, the first of them any of its group's
abbrev pub row_length : ℕ
row_length = 288

-- v's row of tiles in the page of quarter q
abbrev pub strip_of : Wiring → ℕ → ℕ → Strip
strip_of w q v = record {
  tiles = 1024 * page_at (wiring_number w) q + 32 * row v;
  attributes = 1024 * page_at (wiring_number w) q + 960 + 8 * (row v / 4);
  quadrant = 4 * (row v / 2 % 2);
  fine = fine_y v;
}

-- its 32 tile numbers and eight attribute bytes lie in nametable RAM of length m
pub record Within (s : Strip) (m : ℕ) : Type 0 where
  pub tiles : s.tiles + 32 ≤ m
  pub attributes : s.attributes + 8 ≤ m
  pub quadrant : s.quadrant ≤ 4
  pub fine : s.fine < 8

-- the palette of column c: two bits of its attribute byte
unfoldable pub palette_of : List ℕ → Strip → ℕ → ℕ
palette_of n s c = get_or n (s.attributes + c / 4) 0 / 2 ^ (s.quadrant + 2 * (c / 2 % 2)) % 4

-- pixel j of the tile in column c, from the left
unfoldable pub column_pixel : List ℕ → List ℕ → Strip → ℕ → ℕ → ℕ
column_pixel table n s c j =
    number_of (palette_of n s c)
    (colour_of (get_or table (16 * get_or n (s.tiles + c) 0 + s.fine) 0) (get_or table (16 * get_or n (s.tiles + c) 0 + s.fine + 8) 0) (7 - j))

-- pixel i of the tiles from column c on
unfoldable pub strip_pixel : List ℕ → List ℕ → Strip → ℕ → ℕ → ℕ
strip_pixel table n s c i = column_pixel table n s (c + i / 8) (i % 8)

-- the quarter left or right of q: v's nametable with bit 10 turned
abbrev pub beside_of : ℕ → ℕ
beside_of q = q + 1 - 2 * (q % 2)

-- v in the first column of its group
abbrev pub group_start : ℕ → ℕ
group_start v = v - v % 4
