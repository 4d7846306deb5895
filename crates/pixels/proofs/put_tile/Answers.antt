use Rattle.pixels.proofs.Cases.{tile_1}
use Rattle.pixels.proofs.put_tile.Goals as goal

pub returns : goal.returns
returns c = let a = c.args in search (tile_1 a.low a.high a.palette)
