use Rattle.std.proofs.Common.{rules, refl, arith}
use Rattle.model.specs.Sprites.{count_of}
use Rattle.model.proofs.Tab.{tab_none}
use Rattle.text.proofs.Loops.{filled, spaced_more, counted_more, few_more, counted_all}
use Rattle.text.proofs.put_spaces.Goals as goal

pub loop-b-init : goal.loop-b-init
unfolding count_of
loop-b-init c = record { stored = tab_none _ _; counted = refl; few = omega arith }

pub loop-b-preserved : goal.loop-b-preserved
loop-b-preserved c = record { stored = search (rules, spaced_more); counted = search (rules, counted_more); few = search (rules, few_more) }

pub returns : goal.returns
returns c = record { rows = search (rules, filled); count = search (rules, counted_all) }
