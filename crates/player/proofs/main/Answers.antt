use Rattle.player.proofs.Start.{begins}
use Rattle.player.proofs.main.Goals as goal

pub play_input-requires : goal.play_input-requires
play_input-requires c = search begins
