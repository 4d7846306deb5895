use Prim.Native.Nat.{◌-◌}
use Rattle.choice.specs.Overflow.{Eight}
use Rattle.choice.proofs.Evaluation.skip.Given as goal

abbrev pub invariant-loop-i : goal.invariant-loop-i
invariant-loop-i l = Eight l.self.control l.self.oam.now l.self.n l.i

abbrev pub decreases-loop-i : goal.decreases-loop-i
decreases-loop-i l = 64 - l.i
