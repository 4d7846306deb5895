use mathlib.Core.Path.{◌≡◌}
use mathlib.Core.Bool.{cond}
use Rattle.model.specs.Line.{any_of}
use Rattle.choice.specs.Overflow.{hits}
use Rattle.choice.proofs.tried_some.Given as goal

abbrev pub invariant-loop-j : goal.invariant-loop-j
invariant-loop-j l = l.any ≡ cond (any_of (hits l.h l.n l.oam l.i) l.j) 1 0
