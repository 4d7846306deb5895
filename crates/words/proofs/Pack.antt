-- Packed bytes: sums, products and masks go byte by byte, and each byte comes back.
use Prim.Native.Nat.{ℕ, zero, suc, ◌+◌, ◌-◌, ◌*◌, ◌%◌, ◌^◌, ◌<◌, ◌≤◌}
use mathlib.Core.Path.{◌≡◌, refl, ap, sym, ◌∙◌}
use native.Mathlib.Omega.{arith}
use native.Mathlib.Nat.{add-mul, mul_comm, mul_assoc, zero-mul, mul-le-mul_right, mod-eq_of_lt, zero-add, suc-add}
use lib.Dec.{lit<, lit≤}
use lib.Bits.{bit_or, or_block}
use lib.Pow.{pow-add, high, low, field, mod-mod-pow}
use Rattle.words.specs.Pack.{pack, byte_of}

pub pack_ext : (f g : ℕ → ℕ) (n : ℕ) → ((k : ℕ) → k < n → f k ≡ g k) → pack f n ≡ pack g n
unfolding pack
pack_ext f g zero h = refl
pack_ext f g (suc n) h = rw (pack_ext f g n (λ k lt. h k (omega arith)), h n (omega arith))

pub pack_le : (f g : ℕ → ℕ) (n : ℕ) → ((k : ℕ) → k < n → f k ≤ g k) → pack f n ≤ pack g n
unfolding pack
pack_le f g zero h = lit≤ tt
pack_le f g (suc n) h = omega (arith, mul-le-mul_right (2 ^ (8 * n)) (h n (omega arith)), pack_le f g n (λ k lt. h k (omega arith)))

pub pack_add : (f g : ℕ → ℕ) (n : ℕ) → pack f n + pack g n ≡ pack (λ (k : ℕ). f k + g k) n
unfolding pack
pack_add f g zero = refl
pack_add f g (suc n) = omega (arith, pack_add f g n, add-mul (f n) (g n) (2 ^ (8 * n)))

swap_mul : (a p q : ℕ) → a * p * q ≡ a * q * p
swap_mul a p q = mul_assoc a p q ∙ ap (λ (x : ℕ). a * x) (mul_comm p q) ∙ sym (mul_assoc a q p)

pub pack_mul : (f : ℕ → ℕ) (q n : ℕ) → pack f n * q ≡ pack (λ (k : ℕ). f k * q) n
unfolding pack
pack_mul f q zero = zero-mul q
pack_mul f q (suc n) = rw (add-mul (f n * 2 ^ (8 * n)) (pack f n) q, pack_mul f q n, swap_mul (f n) (2 ^ (8 * n)) q)

-- n bytes are below 2 ^ (8 * n)
grow : (a p b : ℕ) → a ≤ 255 → b < p → a * p + b < p * 256
grow a p b h k = omega (arith, mul-le-mul_right p h, mul_comm p 256)

pub pack_lt : (f : ℕ → ℕ) (n : ℕ) → ((k : ℕ) → k < n → f k < 256) → pack f n < 2 ^ (8 * n)
unfolding pack
pack_lt f zero h = lit< tt
pack_lt f (suc n) h =
    let e : 8 * suc n ≡ 8 * n + 8 = omega arith in
    let b : f n < 256 = h n (omega arith) in
    rw (e, pow-add 2 (8 * n) 8) (grow (f n) (2 ^ (8 * n)) (pack f n) (omega arith) (pack_lt f n (λ k lt. h k (omega arith))))

pub pack_or : (f g : ℕ → ℕ) (n : ℕ) → ((k : ℕ) → k < n → f k < 256) → ((k : ℕ) → k < n → g k < 256)
    → bit_or (pack f n) (pack g n) ≡ pack (λ (k : ℕ). bit_or (f k) (g k)) n
unfolding pack
pack_or f g zero h i = refl
pack_or f g (suc n) h i =
    let hf : pack f n < 2 ^ (8 * n) = pack_lt f n (λ k lt. h k (omega arith)) in
    let hg : pack g n < 2 ^ (8 * n) = pack_lt g n (λ k lt. i k (omega arith)) in
    or_block (8 * n) (f n) (g n) (pack f n) (pack g n) hf hg
    ∙ ap (λ (x : ℕ). bit_or (f n) (g n) * 2 ^ (8 * n) + x) (pack_or f g n (λ k lt. h k (omega arith)) (λ k lt. i k (omega arith)))

-- the low n bytes of more
pack_mod : (f : ℕ → ℕ) (d n : ℕ) → ((k : ℕ) → k < d + n → f k < 256) → pack f (d + n) % 2 ^ (8 * n) ≡ pack f n
unfolding pack
pack_mod f zero n h = rw (zero-add n) (mod-eq_of_lt (pack_lt f n (λ k lt. h k (omega arith))))
pack_mod f (suc d) n h =
    let e : 8 * d + 8 * n ≡ 8 * (d + n) = omega arith in
    let b : pack f (d + n) < 2 ^ (8 * (d + n)) = pack_lt f (d + n) (λ k lt. h k (omega arith)) in
    rw (suc-add d n)
    (sym (mod-mod-pow (f (d + n) * 2 ^ (8 * (d + n)) + pack f (d + n)) (8 * d) (8 * n))
    ∙ rw (e, low (f (d + n)) (8 * (d + n)) b) (pack_mod f d n (λ k lt. h k (omega arith))))

pub byte_at_lem : (f : ℕ → ℕ) (n k : ℕ) → ((i : ℕ) → i < n → f i < 256) → k < n → byte_of (pack f n) k ≡ f k
unfolding byte_of pack
byte_at_lem f n k h lt =
    let e : 8 + 8 * k ≡ 8 * suc k = omega arith in
    let d : n ≡ (n - suc k) + suc k = omega arith in
    sym (field (pack f n) 8 (8 * k))
    ∙ rw (e, d, pack_mod f (n - suc k) (suc k) (λ i j. h i (omega arith))) (high (f k) (8 * k) (pack_lt f k (λ i j. h i (omega arith))))
