use Rattle.words.specs.Pack.{byte_of}
use Rattle.pixels.proofs.Hit.{Met}
use Rattle.pixels.proofs.meets.Given as goal

abbrev pub invariant-loop-p : goal.invariant-loop-p
invariant-loop-p l = Met l.line (byte_of l.n) l.at l.skip l.found l.p
