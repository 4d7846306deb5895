use mathlib.Core.Path.{◌≡◌}
use Rattle.choice.specs.Distance.{or_of}
use Rattle.choice.proofs.any8.Given as goal

abbrev pub invariant-loop-j : goal.invariant-loop-j
invariant-loop-j l = l.any ≡ or_of l.m l.at l.j
