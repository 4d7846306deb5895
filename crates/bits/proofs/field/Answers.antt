use native.Mathlib.Omega.{arith}
use Rattle.bits.proofs.Mask.{one_le_shl, low_is}
use Rattle.bits.proofs.field.Goals as goal

pub overflow_sub-result : goal.overflow_sub-result
overflow_sub-result c = one_le_shl c.args.n 8 (omega arith)

pub returns : goal.returns
returns c = low_is _ c.args.n 8 (omega arith)
