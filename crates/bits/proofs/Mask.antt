-- The mask of n ones, as code makes it, at any width w.
use Prim.Native.Nat.{ℕ, ◌-◌, ◌*◌, ◌%◌, ◌^◌, ◌<◌, ◌≤◌}
use mathlib.Core.Path.{◌≡◌, ◌∙◌}
use native.Mathlib.Nat.{one-mul}
use native.Mathlib.Omega.{arith}
use lib.Dec.{lit<}
use lib.Pow.{shl_exact, pow_pos}
use lib.Bits.{bit_and, and_mask}

one_shl : (n w : ℕ) → n < w → 1 * 2 ^ n % 2 ^ w ≡ 2 ^ n
one_shl n w h = shl_exact {a = 1} 1 n w (lit< tt) (omega arith) ∙ one-mul (2 ^ n)

-- the subtraction does not go below 0
pub one_le_shl : (n w : ℕ) → n < w → 1 ≤ 1 * 2 ^ n % 2 ^ w
one_le_shl n w h = rw (one_shl n w h) (pow_pos n)

-- the mask keeps the low n bits
pub low_is : (x n w : ℕ) → n < w → bit_and x (1 * 2 ^ n % 2 ^ w - 1) ≡ x % 2 ^ n
low_is x n w h = rw (one_shl n w h) (and_mask x n)
