-- The search for overflow as the code makes it.
use Rattle.std.specs.Prelude.{◌≡◌, Bool, false, ◌&&◌, List, ℕ, ◌+◌, ◌*◌, ◌/◌, ◌%◌, ◌≤◌, eqb, get_or}
use Rattle.model.specs.Sprites.{is_in_range, looks_of}

-- byte j behind byte 0 of a sprite is tried after it: byte 1 of the next sprite, 2 and 3 of the ones behind, then 0 again
unfoldable pub on_diagonal : ℕ → Bool
on_diagonal j = eqb (j / 4 % 4) (j % 4)

-- it is, behind byte 0 of sprite i, and in range of line n
unfoldable pub hits : ℕ → ℕ → List ℕ → ℕ → ℕ → Bool
hits h n o i j = is_in_range h n (get_or o (4 * i + j) 0) && on_diagonal j

-- eight are found among the first k sprites, and the search stands at byte 0 of sprite k
pub record Eight (c : ℕ) (o : List ℕ) (n k : ℕ) : Type 0 where
  pub room : k ≤ 64
  pub here : looks_of c o n k ≡ record { looked = k; byte = 0; found = 8; over = false }
