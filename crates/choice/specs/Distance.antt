-- The choice of sprites as the code makes it: by the line's distance from each sprite's Y byte.
use Rattle.std.specs.Prelude.{◌≡◌, Bool, cond, ◌&&◌, List, ℕ, zero, suc, ◌+◌, ◌-◌, ◌%◌, ◌<◌, ◌≤◌, leb, ltb, eqb, get_or}
use Rattle.std.specs.Int.Bits.{bit_or}
use Rattle.model.specs.Sprites.{oam_at}

-- how far line n is below y; 255 if it is above
unfoldable pub distance_of : ℕ → ℕ → ℕ
distance_of n y = cond (leb y n) (n - y) 255

-- the Y byte in word i; and how far line n is below Y byte i
unfoldable pub low_in : List ℕ → ℕ → ℕ
low_in w i = get_or w i 0 % 256

unfoldable pub distance_from : ℕ → List ℕ → ℕ → ℕ
distance_from n y i = distance_of n (get_or y i 0)

-- d has that of each sprite's Y byte
pub record Distances (n : ℕ) (o d : List ℕ) : Type 0 where
  pub each : (i : ℕ) → i < 64 → get_or d i 0 ≡ distance_of n (oam_at o i 0)

-- d is one of the h numbers from `from`
unfoldable pub is_from : ℕ → ℕ → ℕ → Bool
is_from from h d = leb from d && ltb (d - from) h

-- and so is the distance of sprite i
unfoldable pub near : List ℕ → ℕ → ℕ → ℕ → Bool
near d from h i = is_from from h (get_or d i 0)

-- 64 marks: each is 0 or 1
pub record Marks (m : List ℕ) : Type 0 where
  pub each : (i : ℕ) → i < 64 → get_or m i 0 ≤ 1

unfoldable pub is_marked : List ℕ → ℕ → Bool
is_marked m i = eqb (get_or m i 0) 1

-- the bits of the n marks from place at on, together
unfoldable pub or_of : List ℕ → ℕ → ℕ → ℕ
or_of m at zero = 0
or_of m at (suc n) = bit_or (or_of m at n) (get_or m (at + n) 0)
