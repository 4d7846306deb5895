use Rattle.player.specs.Turns.{memory_of}
use Rattle.player.proofs.Cases.{Playing}
use Rattle.player.proofs.play_input.Given as goal

abbrev pub invariant-loop-turn : goal.invariant-loop-turn
invariant-loop-turn l = Playing l.fn.u (memory_of l.fn.m) l.fn.m.out l.fn.m.block l.p l._turn (memory_of l.m) l.m.out l.m.block
