use Rattle.std.proofs.Common.{arith}
use Rattle.player.proofs.Cases.{input_start, input_next, input_last, input_over}
use Rattle.player.proofs.play_input.Goals as goal

pub loop-turn-init : goal.loop-turn-init
loop-turn-init c = input_start _ _ _ _

pub turn-p-requires : goal.turn-p-requires
turn-p-requires c = c.loop-turn.invariant.short

pub loop-turn-preserved : goal.loop-turn-preserved
loop-turn-preserved c = input_next _ _ _ _ _ _ _ _ _ c.loop-turn.invariant _ _ _ _ c.turn-p.ensures c.if-not-going.false

pub returns-then-not-going : goal.returns-then-not-going
returns-then-not-going c = input_last _ _ _ _ _ _ _ _ _ c.loop-turn.invariant _ _ _ _ c.turn-p.ensures c.if-not-going.true

pub returns : goal.returns
returns c = input_over _ _ _ _ _ _ _ _ _ c.loop-turn.invariant (omega arith)
