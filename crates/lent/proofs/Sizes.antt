-- The lengths that the memory lent has.
use Rattle.std.proofs.Common.{◌≡◌, ◌∙◌, refl, ℕ, Bool, true, ◌&&◌, eqb, eq-eqb, List, length}
use Rattle.model.specs.declared.Board.{Board}
use Rattle.model.specs.Unit.{Cells, access_cells, nametable_length}
use Rattle.model.specs.Calls.{access_sizes}

-- all five are right
pub sizes_right : (d : Board) (l r n o p : ℕ) → l ≡ 4096 → r ≡ 4096 → n ≡ nametable_length d → o ≡ 256 → p ≡ 32 → access_sizes d l r n o p ≡ true
sizes_right d l r n o p h i j k m = simp (eq-eqb l 4096 h, eq-eqb r 4096 i, eq-eqb n (nametable_length d) j, eq-eqb o 256 k, eq-eqb p 32 m)
