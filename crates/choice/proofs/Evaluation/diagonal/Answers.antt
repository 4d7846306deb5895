-- Answered term by term, and not by a search: on code that is wrong here a search for these goals takes more memory than there is.
use Rattle.choice.proofs.Overflow.{diagonal_start, diagonal_more, set_looked, set_over, end_looked, end_over}
use Rattle.std.proofs.Common.{refl, arith, ◌+◌}
use Rattle.std.proofs.lemmas.Grind.{and_numeral}
use Rattle.choice.proofs.Evaluation.diagonal.Goals as goal

pub loop-i-init : goal.loop-i-init
loop-i-init c = diagonal_start _ _ _ _ c.requires

pub returns-then-tried_one-gt0 : goal.returns-then-tried_one-gt0
returns-then-tried_one-gt0 c = (
  set_looked _ _ _ _ _ c.loop-i.invariant _ _ c.height-h.ensures.0 c.tried_one.ensures.0 c.loop-i-test.true c.if-tried_one-gt0.true,
  set_over _ _ _ _ _ c.loop-i.invariant _ _ c.height-h.ensures.0 c.tried_one.ensures.0 c.loop-i-test.true c.if-tried_one-gt0.true,
)

pub loop-i-preserved : goal.loop-i-preserved
loop-i-preserved c =
    diagonal_more _ _ _ _ _ c.loop-i.invariant _ _ c.height-h.ensures.0 c.tried_one.ensures.0 c.loop-i-test.true c.if-tried_one-gt0.false _ (omega (arith, and_numeral (c.loop-i.b + 1) 2 refl)) (omega (arith, and_numeral (c.loop-i.b + 1) 2 refl))

pub returns : goal.returns
returns c = (end_looked _ _ _ _ _ c.loop-i.invariant c.loop-i-test.false, end_over _ _ _ _ _ c.loop-i.invariant c.loop-i-test.false)
