use Prim.Native.Nat.{◌*◌}
use Rattle.choice.proofs.Overflow.{Few}
use Rattle.choice.proofs.eighth.Given as goal

abbrev pub invariant-loop-sixteen : goal.invariant-loop-sixteen
invariant-loop-sixteen l = Few l.d l.h l.found (16 * l.sixteen)
