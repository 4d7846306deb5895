use lib.Bits.{bit_and, and_mask}
use Prim.Native.Nat.{◌/◌}
use Rattle.background.proofs.Cases.{tiles_1}
use Rattle.background.proofs.tiles.Goals as goal

pub returns : goal.returns
returns c = let v = c.args.v in search (tiles_1, and_mask (v / 4) 3, and_mask (v / 1024) 2, and_mask (bit_and (v / 1024) 3) 1)
