-- A bit turned, as code turns it.
use Rattle.std.proofs.Common.{◌≡◌, ℕ, ◌+◌, ◌-◌, ◌*◌, ◌/◌, ◌%◌, arith}
use lib.Bits.{bit_xor, xor_add_and}
use Rattle.std.proofs.lemmas.Nat.Bits.{and_pow}

pub turned_11 : (v : ℕ) → bit_xor v 2048 ≡ v + 2048 - 4096 * (v / 2048 % 2)
turned_11 v = omega (arith, xor_add_and v 2048, and_pow v 11)
