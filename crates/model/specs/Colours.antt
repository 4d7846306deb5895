-- Document 02, request 1. Finished colours: how every pixel number of a line becomes a colour, and how C is lent them.
use Rattle.std.specs.Prelude.{Bool, cond, not, ◌&&◌, List, [], ◌∷◌, map, ℕ, ◌+◌, ◌*◌, ◌/◌, ◌%◌, leb, eqb, length, get_or}
use Rattle.model.specs.declared.Ppu.{Ppu}
use Rattle.model.specs.Unit.{is_rendering}
use Rattle.model.specs.Address.{palette_cell}
use Rattle.model.specs.Ports.{greyed}

-- backdrop override: mask bits 3 and 4 are clear and v modulo 16384 is from $3F00
unfoldable pub is_overridden : Ppu → Bool
is_overridden u = not (is_rendering u) && leb 16128 (u.v % 16384)

-- the palette cell that pixel number n shows: cell n; with backdrop override, on the whole line, the one at v
unfoldable pub shown_cell : Ppu → ℕ → ℕ
shown_cell u n = cond (is_overridden u) (palette_cell (u.v % 16384)) n

-- colour emphasis: mask bits 7-5, blue, green, red
unfoldable pub emphasis : Ppu → ℕ
emphasis u = u.mask / 32 % 8

-- the colour of pixel number n: the palette byte modulo 64, masked with $30 if mask bit 0, plus 64 times mask bits 7-5
unfoldable pub colour_at : Ppu → List ℕ → ℕ → ℕ
colour_at u p n = greyed u.mask (get_or p (shown_cell u n) 0 % 64) + 64 * emphasis u

-- a line's colours, of its pixel numbers
unfoldable pub coloured : Ppu → List ℕ → List ℕ → List ℕ
coloured u p l = map (colour_at u p) l

-- FOR C, 512 bytes: two bytes a number, low byte first
unfoldable pub paired : List ℕ → List ℕ
paired [] = []
paired (a ∷ []) = []
paired (a ∷ b ∷ l) = (a + b * 256) ∷ paired l

-- the numbers that lent bytes are; an odd count of bytes, which is refused by its length, stays as it is
unfoldable pub numbers_of : List ℕ → List ℕ
numbers_of l = cond (eqb (length l % 2) 0) (paired l) l
