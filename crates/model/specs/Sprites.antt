-- What one line does: the sprites.
use Rattle.std.specs.Prelude.{Bool, false, cond, not, ◌&&◌, ◌||◌, List, [], ◌∷◌, ◌++◌, map, ℕ, zero, suc, ◌+◌, ◌-◌, ◌*◌, ◌/◌, ◌%◌, leb, ltb, eqb, get_or, take}
use Rattle.model.specs.declared.Sprite.{Sprite}
use Rattle.model.specs.Unit.{bit}
use Rattle.model.specs.Address.{table_of}
use Rattle.model.specs.Background.{colour_of, number_of}

-- byte k of sprite i: 0 Y, 1 tile, 2 attribute, 3 X
abbrev pub oam_at : List ℕ → ℕ → ℕ → ℕ
oam_at o i k = get_or o (4 * i + k) 0

-- h is 8, or 16 by control bit 5
unfoldable pub height : ℕ → ℕ
height c = cond (bit 32 c) 16 8

-- with height h the Y byte y is in range of line n: y ≤ n < y + h
abbrev pub is_in_range : ℕ → ℕ → ℕ → Bool
is_in_range h n y = leb y n && ltb n (y + h)

-- sprite i is. On line L it is drawn if this holds of n = L - 1
unfoldable pub covers : ℕ → List ℕ → ℕ → ℕ → Bool
covers c o n i = is_in_range (height c) n (oam_at o i 0)

-- of the sprites below n those that f has, in OAM order; and how many
unfoldable pub places_of : (ℕ → Bool) → ℕ → List ℕ
places_of f zero = []
places_of f (suc n) = cond (f n) (places_of f n ++ (n ∷ [])) (places_of f n)

unfoldable pub count_of : (ℕ → Bool) → ℕ → ℕ
count_of f zero = 0
count_of f (suc n) = cond (f n) (count_of f n + 1) (count_of f n)

-- row r = L-1-y, or h-1-r if attribute bit 7
unfoldable pub row_of : ℕ → List ℕ → ℕ → ℕ → ℕ
row_of c o n i = cond (bit 128 (oam_at o i 2)) (height c - 1 - (n - oam_at o i 0)) (n - oam_at o i 0)

-- height 8: table control bit 3, tile byte 1. Height 16: table byte 1's bit 0, tile byte 1 less that bit, the next tile for r from 8
unfoldable pub second_table : ℕ → List ℕ → ℕ → Bool
second_table c o i = cond (bit 32 c) (bit 1 (oam_at o i 1)) (bit 8 c)

unfoldable pub tile_of : ℕ → List ℕ → ℕ → ℕ → ℕ
tile_of c o r i = cond (bit 32 c) (oam_at o i 1 / 2 * 2 + r / 8) (oam_at o i 1)

-- the place of the row's low byte; its high byte stands 8 further
unfoldable pub pattern_at : ℕ → List ℕ → ℕ → ℕ → ℕ
pattern_at c o n i = 16 * tile_of c o (row_of c o n i) i + row_of c o n i % 8

-- sprite i as line n + 1 shows it
unfoldable pub fetched : ℕ → List ℕ → List ℕ → List ℕ → ℕ → ℕ → Sprite
fetched c l r o n i =
    record {
      low = get_or (table_of (second_table c o i) l r) (pattern_at c o n i) 0;
      high = get_or (table_of (second_table c o i) l r) (pattern_at c o n i + 8) 0;
      attribute = oam_at o i 2;
      x = oam_at o i 3;
    }

-- the first eight in OAM order are taken
unfoldable pub chosen : ℕ → List ℕ → List ℕ → List ℕ → ℕ → List Sprite
chosen c l r o n = map (fetched c l r o n) (take 8 (places_of (covers c o n) 64))

-- columns X to X + 7, bit 7 leftmost, or bit 0 if attribute bit 6. No wrap at the right edge.
-- Opaque: the number 16 + 4 × palette + colour, and 32 more if attribute bit 5 is set; else 0
unfoldable pub shade : Sprite → ℕ → ℕ
shade s p =
    cond (leb s.x p && ltb p (s.x + 8))
    (number_of (4 + s.attribute % 4 + s.attribute / 32 % 2 * 8) (colour_of s.low s.high (cond (bit 64 s.attribute) (p - s.x) (7 - (p - s.x)))))
    0

-- the first with an opaque pixel wins the column
unfoldable pub winner : List Sprite → ℕ → ℕ
winner [] p = 0
winner (s ∷ l) p = cond (eqb (shade s p) 0) (winner l p) (shade s p)

-- on line L from 1: the winner, and sprite 0 by itself
unfoldable pub sprite_on : ℕ → List ℕ → List ℕ → List ℕ → ℕ → ℕ → ℕ
sprite_on c l r o n p = cond (eqb n 0) 0 (winner (chosen c l r o (n - 1)) p)

unfoldable pub sprite_zero_on : ℕ → List ℕ → List ℕ → List ℕ → ℕ → ℕ → ℕ
sprite_zero_on c l r o n p = cond (ltb 0 n && covers c o (n - 1) 0) (shade (fetched c l r o (n - 1) 0) p) 0

-- shown if mask bit 4, and for p below 8 also bit 2. A pixel not shown counts as not opaque
unfoldable pub sprite_shown : ℕ → ℕ → ℕ → ℕ
sprite_shown mask p s = cond (bit 16 mask && (leb 8 p || bit 4 mask)) s 0

-- OVERFLOW on line n, as the chip searches (document 02, request 2). Byte k of sprite i, tried as a Y byte, is in range
unfoldable pub tried : ℕ → List ℕ → ℕ → ℕ → ℕ → Bool
tried c o n i k = is_in_range (height c) n (oam_at o i k)

-- where the search stands: the sprites looked at, and so the number of the next; which of its bytes is tried; the sprites found; the bit
pub record Look : Type 0 where
  pub looked : ℕ
  pub byte : ℕ
  pub found : ℕ
  pub over : Bool

-- one sprite more, in range or not. Until eight are found byte 0 is tried, and one in range is found. Then, in range: the bit is set; not in range: the
-- next sprite and the next of its four bytes, from byte 3 to byte 0
abbrev pub looked_on : Bool → Bool → Look → Look
looked_on within eight s =
    record {
      looked = s.looked + 1;
      byte = cond eight ((s.byte + 1) % 4) 0;
      found = cond (within && not eight) (s.found + 1) s.found;
      over = within && eight;
    }

unfoldable pub look_on : ℕ → List ℕ → ℕ → Look → Look
look_on c o n s = looked_on (tried c o n s.looked s.byte) (leb 8 s.found) s

-- k steps of the search, none after the one that sets the bit
unfoldable pub looks_of : ℕ → List ℕ → ℕ → ℕ → Look
looks_of c o n zero = record { looked = 0; byte = 0; found = 0; over = false }
looks_of c o n (suc k) = let s : Look = looks_of c o n k in cond s.over s (look_on c o n s)

-- it ends past sprite 63: whether it set the bit, and how many sprites it looked at
unfoldable pub overflows : ℕ → List ℕ → ℕ → Bool
overflows c o n = (looks_of c o n 64).over

unfoldable pub looked_at : ℕ → List ℕ → ℕ → ℕ
looked_at c o n = (looks_of c o n 64).looked
