-- How rows and pages are made, pass by pass.
use Rattle.std.specs.Prelude.{ℕ, ◌%◌, Bool, cond, List, eqb, leb, length, get_or}
use Rattle.model.specs.Text.{table_length, lowest_tile}

-- rows: first the table byte of each tile byte
unfoldable pub table_byte : List ℕ → List ℕ → ℕ → ℕ
table_byte table page k = get_or table (get_or page k 0) 0

-- then a space for each that is 0, which is counted
unfoldable pub is_zero : List ℕ → ℕ → Bool
is_zero l k = eqb (get_or l k 0) 0

unfoldable pub spaced : List ℕ → ℕ → ℕ
spaced l k = cond (is_zero l k) 32 (get_or l k 0)

-- a page: first the tile of each character, 256 for one that is byte 0 or isn't in the table
unfoldable pub tile_for : List ℕ → ℕ → ℕ
tile_for table c = cond (eqb c 0) (length table) (lowest_tile c table)

-- then, from these tiles, the low byte of character k's, and whether it has none
unfoldable pub tile_byte : List ℕ → List ℕ → ℕ → ℕ
tile_byte tiles rows k = get_or tiles (get_or rows k 0) 0 % 256

unfoldable pub no_tile : List ℕ → List ℕ → ℕ → Bool
no_tile tiles rows k = leb table_length (get_or tiles (get_or rows k 0) 0)
