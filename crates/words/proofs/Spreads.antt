-- A byte's eight bits, one in each byte of a word: the constants, and each product tested at all 256 bytes.
use Prim.Native.Nat.{ℕ, zero, suc, ◌+◌, ◌-◌, ◌*◌, ◌/◌, ◌%◌, ◌^◌, ◌<◌, ◌≤◌}
use mathlib.Core.Path.{◌≡◌, refl}
use mathlib.Core.Bool.{Bool, true, false, cond, ◌&&◌}
use mathlib.Core.Logic.{⊎_elim}
use native.Mathlib.Omega.{arith}
use native.Mathlib.Nat.{le_of_suc-le-suc, not-suc-le-zero, eq-or-lt_of_le}
use lib.Dec.{T, eqb, eqb→eq}
use lib.Bits.{bit_and, and_le_r}
use mir.Val.{Fits}
use mir.Syntax.{w64}
use Rattle.words.specs.Pack.{pack, spread_of, back_of}
use Rattle.words.proofs.Pack.{pack_le}

-- 1 at each of the bits f 0 to f (n - 1): times b it is the sum of b moved up by each of them
unfoldable pub moves_by : (ℕ → ℕ) → ℕ → ℕ
moves_by f zero = 0
moves_by f (suc n) = 2 ^ f n + moves_by f n

pub ones : pack (λ (k : ℕ). 1) 8 ≡ 0x0101010101010101
unfolding pack
ones = refl

pub highest : pack (λ (k : ℕ). 128) 8 ≡ 0x8080808080808080
unfolding pack
highest = refl

-- up by 9k, for k from 0 to 6: from bit 7 - k to bit 8k + 7
pub spread_moves : moves_by (λ (k : ℕ). 9 * k) 7 ≡ 0x0040201008040201
unfolding moves_by
spread_moves = refl

-- a test passes at each number below n
abbrev pub all_below : (ℕ → Bool) → ℕ → Bool
all_below f zero = true
all_below f (suc n) = f n && all_below f n

and_left : (a b : Bool) → T (a && b) → T a
and_left true b t = tt
and_left false b t = t

and_right : (a b : Bool) → T (a && b) → T b
and_right true b t = t
and_right false b t = absurd t

all_at : (f : ℕ → Bool) (n : ℕ) → T (all_below f n) → (k : ℕ) → k < n → T (f k)
all_at f zero t k h = absurd (not-suc-le-zero h)
all_at f (suc n) t k h =
    ⊎_elim
    (λ (e : k ≡ n). rw e (and_left (f n) (all_below f n) t))
    (λ (lt : k < n). all_at f n (and_right (f n) (all_below f n) t) k lt)
    (eq-or-lt_of_le (le_of_suc-le-suc h))

-- each byte holds one bit
pub spread_le : (b : ℕ) → spread_of b ≤ 0x0101010101010101
unfolding spread_of
spread_le b = rw (← ones) (pack_le (λ (k : ℕ). b / 2 ^ (7 - k) % 2) (λ (k : ℕ). 1) 8 (λ k lt. omega arith))

-- a product and a mask that give each byte's bits by computing them at every byte; each byte is 0 or 1
abbrev spread_by : ℕ → ℕ → ℕ → ℕ
spread_by s m x = bit_and (x * s + x * 2 ^ 63 % 2 ^ 64) m / 128

pub spread_is : (s m b : ℕ) → T (all_below (λ (k : ℕ). eqb (spread_by s m k) (spread_of k)) 256) → b < 256
    → (spread_by s m b ≡ spread_of b) × (spread_by s m b ≤ 0x0101010101010101)
spread_is s m b t h =
    let d : spread_by s m b ≡ spread_of b = (eqb→eq (spread_by s m b) (spread_of b) (all_at (λ (k : ℕ). eqb (spread_by s m k) (spread_of k)) 256 t b h)) in
    (d, rw d (spread_le b))

-- one bit of b in each byte, by the order o, moved down to the byte's lowest place
abbrev taken : ℕ → ℕ → ℕ
taken o b = bit_and ((bit_and (b * 0x0101010101010101) o + 0x7F7F7F7F7F7F7F7F) / 128) 0x0101010101010101

abbrev order_of : Bool → ℕ
order_of flip = cond flip 0x8040201008040201 0x0102040810204080

taken_all : (flip : Bool) → T (all_below (λ (k : ℕ). eqb (taken (order_of flip) k) (cond flip (back_of k) (spread_of k))) 256)
unfolding pack spread_of back_of
taken_all true = tt
taken_all false = tt

pub taken_is : (flip : Bool) (b o : ℕ) → b < 256 → o ≡ order_of flip → taken o b ≡ cond flip (back_of b) (spread_of b)
taken_is flip b o h d =
    rw d
    (eqb→eq (taken (order_of flip) b) (cond flip (back_of b) (spread_of b)) (all_at (λ (k : ℕ). eqb (taken (order_of flip) k) (cond flip (back_of k) (spread_of k))) 256 (taken_all flip) b h))

pub taken_most : (a : ℕ) → bit_and a 0x0101010101010101 ≤ 0x0101010101010101
taken_most a = and_le_r a 0x0101010101010101

pub taken_fits : (a o : ℕ) → o ≤ 0x8040201008040201 → Fits w64 (bit_and a o + 0x7F7F7F7F7F7F7F7F)
taken_fits a o h = record { fits = omega (arith, and_le_r a o) }

pub ruleset taken_cases = (taken_is, taken_most, taken_fits)
