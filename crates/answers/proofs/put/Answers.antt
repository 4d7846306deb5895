use Rattle.std.proofs.Common.{refl, arith}
use Rattle.answers.proofs.Text.{put_at}
use Rattle.answers.proofs.put.Goals as goal

pub returns : goal.returns
returns c = (put_at _ _ _ _ _ c.requires (omega arith) c.copy_from_slice.ensures.after, refl)
