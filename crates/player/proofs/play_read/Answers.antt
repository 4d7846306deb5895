use Rattle.std.proofs.Common.{refl}
use Rattle.player.proofs.Cases.{block_turn}
use Rattle.player.proofs.play_read.Goals as goal

pub returns : goal.returns
returns c =
    block_turn _ _ _ _ _ _ _ _ _ _ _ _ _ _
    c.play_block-b.ensures.0 c.play_block-b.ensures.1 c.play_block-b.ensures.2 c.goes_on-going.ensures refl refl
