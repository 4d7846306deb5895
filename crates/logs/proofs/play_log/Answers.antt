use mathlib.Core.Path.{refl}
use native.Mathlib.Omega.{arith}
use Rattle.logs.proofs.Playing.{play_more, play_ended, play_last, play_done}
use Rattle.logs.proofs.play_log.Goals as goal

pub loop-at-preserved : goal.loop-at-preserved
loop-at-preserved c = play_more c.loop-at.invariant c.loop-at-test.true refl c.play_next-played.ensures c.if-played.false

pub returns : goal.returns
returns c = play_done c.loop-at.invariant (omega arith)

pub returns-then-played : goal.returns-then-played
returns-then-played c = play_ended c.loop-at.invariant c.loop-at-test.true refl c.play_next-played.ensures c.if-played.true

pub returns-else-played : goal.returns-else-played
returns-else-played c = play_last c.loop-at.invariant c.loop-at-test.true refl c.play_next-played.ensures c.if-played.false (omega arith)
