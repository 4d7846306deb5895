use Rattle.sprites.proofs.Row.{drawn_shown}
use Rattle.sprites.proofs.sprite_row.Goals as goal

pub returns : goal.returns
returns c = drawn_shown _ _ _ _ _ _ c.requires.1 _ _ _ c.fill_row.ensures c.draw_row.ensures
