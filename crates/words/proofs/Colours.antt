-- Eight pixel numbers from eight colours: those of a background tile and of a sprite's row, as the definitions say them.
use Prim.Native.Nat.{ℕ, zero, suc, ◌+◌, ◌-◌, ◌*◌, ◌/◌, ◌%◌, ◌^◌, ◌<◌, ◌≤◌}
use mathlib.Core.Path.{◌≡◌}
use mathlib.Core.Bool.{Bool, true, false, cond}
use native.Mathlib.Omega.{arith}
use native.Mathlib.Nat.{mul_comm, mul-le-mul_right}
use borrow.Author.Tests.{ne_eqb}
use lib.Bits.{bit_or, or_add_and}
use mir.Val.{Fits}
use mir.Syntax.{w64}
use Rattle.model.specs.Background.{colour_of, number_of}
use Rattle.words.specs.Pack.{pack, byte_of, spread_of, back_of, pixels_by}
use Rattle.words.proofs.Pack.{pack_ext, pack_add, pack_mul, pack_or, byte_at_lem}

-- one pixel: 4 is added q times where either bit is 1
one_pixel : (q a b : ℕ) → a < 2 → b < 2 → a + 2 * b + bit_or a b * (4 * q) ≡ number_of q (a + 2 * b)
unfolding number_of
one_pixel q zero zero h i = omega arith
one_pixel q zero (suc zero) h i = omega arith
one_pixel q zero (suc (suc b)) h i = omega arith
one_pixel q (suc zero) zero h i = omega arith
one_pixel q (suc zero) (suc zero) h i = omega arith
one_pixel q (suc zero) (suc (suc b)) h i = omega arith
one_pixel q (suc (suc a)) b h i = omega arith

-- eight: the product and the sum stay in a word
or_le : (a b : ℕ) → bit_or a b ≤ a + b
or_le a b = omega (arith, or_add_and a b)

pub product_fits : (l h q : ℕ) → l ≤ 0x0101010101010101 → h ≤ 0x0101010101010101 → q < 16 → Fits w64 (bit_or l h * (4 * q))
product_fits l h q i j k =
    let a : bit_or l h ≤ 0x0202020202020202 = omega (arith, or_le l h) in
    record { fits = omega (arith, mul-le-mul_right (4 * q) a) }

pub sum_fits : (l h q : ℕ) → l ≤ 0x0101010101010101 → h ≤ 0x0101010101010101 → q < 16 → Fits w64 (l + 2 * h + bit_or l h * (4 * q))
sum_fits l h q i j k =
    let a : bit_or l h ≤ 0x0202020202020202 = omega (arith, or_le l h) in
    record { fits = omega (arith, mul-le-mul_right (4 * q) a) }

pub ruleset numbers_fit = (product_fits, sum_fits)

pub pixels_are : (f g : ℕ → ℕ) (q : ℕ) → ((k : ℕ) → f k < 2) → ((k : ℕ) → g k < 2) → pixels_by (pack f 8) (pack g 8) q ≡ pack (λ (k : ℕ). number_of q (f k + 2 * g k)) 8
unfolding pixels_by
pixels_are f g q h i =
    rw (
      mul_comm 2 (pack g 8),
      pack_mul g 2 8,
      pack_add f (λ (k : ℕ). g k * 2) 8,
      pack_or f g 8 (λ k lt. omega (arith, h k)) (λ k lt. omega (arith, i k)),
      pack_mul (λ (k : ℕ). bit_or (f k) (g k)) (4 * q) 8,
      pack_add (λ (k : ℕ). f k + g k * 2) (λ (k : ℕ). bit_or (f k) (g k) * (4 * q)) 8,
    )
    (pack_ext (λ (k : ℕ). f k + g k * 2 + bit_or (f k) (g k) * (4 * q)) (λ (k : ℕ). number_of q (f k + 2 * g k)) 8 (λ k lt. rw (mul_comm (g k) 2) (one_pixel q (f k) (g k) (h k) (i k))))

pub colour_lt : (low high k : ℕ) → colour_of low high k < 4
unfolding colour_of
colour_lt low high k = omega arith

pub number_lt : (q c : ℕ) → q < 16 → c < 4 → number_of q c < 256
unfolding number_of
number_lt q zero h k = omega arith
number_lt q (suc c) h k = rw (ne_eqb (suc c) 0 (λ e. omega arith)) (omega arith)

-- the numbers of a row whose pixel k has bit s k of the two bytes
numbers_by : (low high q : ℕ) (s : ℕ → ℕ)
    → pixels_by (pack (λ (k : ℕ). low / 2 ^ s k % 2) 8) (pack (λ (k : ℕ). high / 2 ^ s k % 2) 8) q ≡ pack (λ (k : ℕ). number_of q (colour_of low high (s k))) 8
unfolding colour_of
numbers_by low high q s = pixels_are (λ (k : ℕ). low / 2 ^ s k % 2) (λ (k : ℕ). high / 2 ^ s k % 2) q (λ k. omega arith) (λ k. omega arith)

-- from either side: b says that it is flipped
pub sprite_pack : (b : Bool) (low high q : ℕ)
    → pixels_by (cond b (back_of low) (spread_of low)) (cond b (back_of high) (spread_of high)) q ≡ pack (λ (j : ℕ). number_of q (colour_of low high (cond b j (7 - j)))) 8
unfolding spread_of back_of
sprite_pack true low high q = numbers_by low high q (λ (k : ℕ). k)
sprite_pack false low high q = numbers_by low high q (λ (k : ℕ). 7 - k)

-- the bytes of a row's numbers
pub shade_bytes : (low high q : ℕ) (b : Bool) (j : ℕ) → q < 16 → j < 8
    → byte_of (pack (λ (k : ℕ). number_of q (colour_of low high (cond b k (7 - k)))) 8) j ≡ number_of q (colour_of low high (cond b j (7 - j)))
shade_bytes low high q b j h lt =
    byte_at_lem (λ (k : ℕ). number_of q (colour_of low high (cond b k (7 - k)))) 8 j
    (λ k i. number_lt q (colour_of low high (cond b k (7 - k))) h (colour_lt low high (cond b k (7 - k)))) lt

pub tile_bytes : (low high q j : ℕ) → q < 16 → j < 8 → byte_of (pixels_by (spread_of low) (spread_of high) q) j ≡ number_of q (colour_of low high (7 - j))
tile_bytes low high q j h lt = rw (sprite_pack false low high q) (shade_bytes low high q false j h lt)
