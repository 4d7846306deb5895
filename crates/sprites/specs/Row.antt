-- The sprites of a line, as they stand in the row.
use Rattle.std.specs.Prelude.{◌≡◌, cond, false, ◌&&◌, List, [], ℕ, ◌+◌, ◌-◌, ◌<◌, eqb, leb, ltb, get_or}
use Rattle.model.specs.declared.Sprite.{Sprite}
use Rattle.model.specs.Sprites.{oam_at, chosen}

-- those that line n shows: on line 0 none
unfoldable pub shown_on : ℕ → List ℕ → List ℕ → List ℕ → ℕ → List Sprite
shown_on c l r o n = cond (eqb n 0) [] (chosen c l r o (n - 1))

-- column p is none of the eight columns of each of the list's first n sprites
abbrev pub Beside : List ℕ → List ℕ → ℕ → ℕ → Type 0
Beside o list n p = (k : ℕ) → k < n → (leb (oam_at o (get_or list k 0) 3) p && ltb p (oam_at o (get_or list k 0) 3 + 8)) ≡ false
