use Rattle.draw_colours.proofs.Cases.{show_is}
use Rattle.draw_colours.proofs.show.Goals as goal

pub returns : goal.returns
returns c = search show_is
