-- A drawn line's colours by a table of 32, those of the pixel numbers, each in the upper half of a word, so that two colours make one word.
use Rattle.std.specs.Prelude.{◌≡◌, true, List, ℕ, ◌+◌, ◌*◌, ◌/◌, ◌%◌, ◌<◌, get_or}
use Rattle.model.specs.declared.Ppu.{Ppu}
use Rattle.model.specs.Unit.{is_rendering}
use Rattle.model.specs.Ports.{greyed}
use Rattle.model.specs.Line.{tab}
use Rattle.memory_pairs.specs.Pairs.{stored_pair}

-- the colour of pixel number n while mask bit 3 or 4 is set: it needs the mask and the palette only, so that a run has one table
unfoldable pub shade : ℕ → List ℕ → ℕ → ℕ
shade m p n = greyed m (get_or p n 0 % 64) + 64 * (m / 32 % 8)

-- that of the pixel number in column q of line l
unfoldable pub shown : ℕ → List ℕ → List ℕ → ℕ → ℕ
shown m p l q = shade m p (get_or l q 0)

-- its entry in the table
unfoldable pub raised_shade : ℕ → List ℕ → ℕ → ℕ
raised_shade m p n = shade m p n * 65536

-- a table: words whose lower half is 0
pub record Table (t : List ℕ) : Type 0 where
  pub half : (k : ℕ) → get_or t k 0 % 65536 ≡ 0

-- that of a mask and a palette
pub record Shades (m : ℕ) (p t : List ℕ) : Type 0 where
  pub shades : t ≡ tab (raised_shade m p) 32
  pub table : Table t

-- that of a run that begins with unit u; with mask bits 3 and 4 clear no line of it needs one
pub record RunShades (u : Ppu) (p t : List ℕ) : Type 0 where
  pub on : is_rendering u ≡ true → Shades u.mask p t

-- pixel numbers
pub record Pixels (l : List ℕ) : Type 0 where
  pub small : (q : ℕ) → get_or l q 0 < 32

-- the colour of the pixel number in column q, by the table
unfoldable pub from_table : List ℕ → List ℕ → ℕ → ℕ
from_table t l q = get_or t (get_or l q 0) 0 / 65536

-- the bytes after the two halves of word n are stored as numbers 2i and 2i + 1
unfoldable pub stored_two : List ℕ → ℕ → ℕ → List ℕ
stored_two l i n = stored_pair (stored_pair l (2 * i) (n % 65536)) (2 * i + 1) (n / 65536)
