-- The player begins with a fresh unit, board 9, all memory zero.
use Rattle.std.proofs.Common.{◌≡◌, replicate}
use Rattle.model.specs.declared.Access.{Access}
use Rattle.model.specs.Unit.{line_memory, state}
use Rattle.model.specs.Record.{board_ok, wiring_at}
use Rattle.model.specs.Calls.{fresh_call}
use Rattle.model.specs.Log.{start_state}

pub begins : (x : Access) → x ≡ fresh_call 9
    → state x.unit (line_memory (replicate 4096 0) (replicate 4096 0) (replicate 2048 0) (replicate 256 0) (replicate 32 0) (replicate 256 0) (replicate 256 0)) ≡ start_state
unfolding fresh_call board_ok wiring_at start_state
begins x e = rw e
