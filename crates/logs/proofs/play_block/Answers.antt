use Rattle.std.proofs.Common.{refl, ◌∙◌}
use native.Mathlib.Omega.{arith}
use lib.ListN.{length-take}
use Rattle.logs.proofs.Playing.{block_done, front}
use Rattle.logs.proofs.play_block.Goals as goal

pub slice_bounds-play_log-end-2 : goal.slice_bounds-play_log-end-2
slice_bounds-play_log-end-2 c = simp length-take (omega arith)

pub play_log-played-requires : goal.play_log-played-requires
play_log-played-requires c = simp length-take (omega arith)

pub returns : goal.returns
returns c =
    block_done _ _ _ _ _ _ _ _ _ _ _ c.whole-used.ensures.0 c.play_log-played.ensures refl (c.copy_within.ensures.after ∙ front c.whole-used.result c.args.n c.args.block.now)
