use Rattle.std.proofs.Common.{rules, refl}
use Rattle.model.specs.Line.{any_of}
use Rattle.model.proofs.Tab.{tab_none}
use Rattle.text.proofs.Loops.{filled, tile_more, missed_more, missed_all}
use Rattle.text.proofs.put_tiles.Goals as goal

pub loop-k-init : goal.loop-k-init
unfolding any_of
loop-k-init c = record { stored = tab_none _ _; missed = refl }

pub loop-k-preserved : goal.loop-k-preserved
loop-k-preserved c = record { stored = search (rules, tile_more); missed = search (rules, missed_more) }

pub returns : goal.returns
returns c = (search (rules, filled), search (rules, missed_all))
