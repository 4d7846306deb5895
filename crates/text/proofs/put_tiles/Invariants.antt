use Rattle.std.proofs.Common.{◌≡◌, ◌++◌, drop, leb}
use Rattle.model.specs.Line.{tab, any_of}
use Rattle.text.specs.Passes.{tile_byte, no_tile}
use Rattle.text.proofs.put_tiles.Given as goal

abbrev pub invariant-loop-k : goal.invariant-loop-k
invariant-loop-k l =
    record {
      stored : l.made ≡ tab (tile_byte l.tiles l.rows) l.k ++ drop l.k l.initial.made;
      missed : leb 256 l.most ≡ any_of (no_tile l.tiles l.rows) l.k;
    }
