-- A byte with bit k set, as code sets it.
use Rattle.std.proofs.Common.{◌≡◌, ℕ, ◌+◌, ◌*◌, ◌/◌, ◌%◌, ◌^◌, ◌<◌, ◌≤◌, ◌∙◌, ap, sym, arith}
use lib.Bits.{bit_or, or_zero_r}
use Rattle.std.proofs.Math.Nat.{mul_assoc, div-div-eq-div-mul, mul_comm, add-mul}
use Rattle.std.proofs.lemmas.Nat.{or_block, or_lt, le_or_r, shr_split, one_shl, pow_pos, mod_below}

odd : (x : ℕ) → bit_or x 1 ≡ x / 2 * 2 + 1
odd x =
    let low : x % 2 < 2 = omega arith in
    let most : bit_or (x % 2) 1 < 2 = or_lt 1 (x % 2) 1 low (omega arith) in
    let least : 1 ≤ bit_or (x % 2) 1 = le_or_r (x % 2) 1 in
    let split : x ≡ x / 2 * 2 + x % 2 = omega arith in
    ap (λ z. bit_or z 1) split ∙ or_block 1 (x / 2) 0 (x % 2) 1 low (omega arith) ∙ rw (or_zero_r (x / 2)) (omega arith)

over : (s p : ℕ) → (s / p / 2 * 2 + 1) * p ≡ s / (2 * p) * (2 * p) + p
over s p = rw (div-div-eq-div-mul s p 2, mul_comm p 2, add-mul (s / (2 * p) * 2) 1 p, mul_assoc (s / (2 * p)) 2 p) (omega arith)

pub set_bit : (s k : ℕ) → k < 8 → bit_or s (1 * 2 ^ k % 256) ≡ s / (2 * 2 ^ k) * (2 * 2 ^ k) + 2 ^ k + s % 2 ^ k
set_bit s k h =
    let one : 2 ^ k ≡ 1 * 2 ^ k + 0 = omega arith in
    let parts = or_block k (s / 2 ^ k) 1 (s % 2 ^ k) 0 (mod_below s (2 ^ k) (pow_pos k)) (pow_pos k) in
    let high = ap (λ z. z * 2 ^ k) (odd (s / 2 ^ k)) ∙ over s (2 ^ k) in
    rw (one_shl k 8 h) (ap (λ z. bit_or z (2 ^ k)) (sym (shr_split s k)) ∙ ap (bit_or _) one ∙ parts ∙ omega (arith, high, or_zero_r (s % 2 ^ k)))
