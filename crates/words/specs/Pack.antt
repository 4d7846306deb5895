-- Bytes packed into a number, the first lowest: eight pixels in a word.
use Rattle.std.specs.Prelude.{ℕ, zero, suc, ◌+◌, ◌-◌, ◌*◌, ◌/◌, ◌%◌, ◌^◌}
use Rattle.std.specs.Int.Bits.{bit_or}

-- f 0 to f (n - 1), as bytes
unfoldable pub pack : (ℕ → ℕ) → ℕ → ℕ
pack f zero = 0
pack f (suc n) = f n * 2 ^ (8 * n) + pack f n

-- byte k of n
unfoldable pub byte_of : ℕ → ℕ → ℕ
byte_of n k = n / 2 ^ (8 * k) % 256

-- the bits of b, one in each byte: bit 7 first, or bit 0 first
unfoldable pub spread_of : ℕ → ℕ
spread_of b = pack (λ (k : ℕ). b / 2 ^ (7 - k) % 2) 8

unfoldable pub back_of : ℕ → ℕ
back_of b = pack (λ (k : ℕ). b / 2 ^ k % 2) 8

-- eight pixel numbers from the colours' low bits and high bits: 4q is added in each byte where either is 1
unfoldable pub pixels_by : ℕ → ℕ → ℕ → ℕ
pixels_by l h q = l + 2 * h + bit_or l h * (4 * q)
