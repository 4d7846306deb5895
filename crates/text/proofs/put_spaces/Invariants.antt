use Rattle.std.proofs.Common.{◌≡◌, ◌≤◌, ◌++◌, drop}
use Rattle.model.specs.Line.{tab}
use Rattle.model.specs.Sprites.{count_of}
use Rattle.text.specs.Passes.{is_zero, spaced}
use Rattle.text.proofs.put_spaces.Given as goal

abbrev pub invariant-loop-b : goal.invariant-loop-b
invariant-loop-b l =
    record {
      stored : l.b-items ≡ tab (spaced l.initial.b-items) l.b-index ++ drop l.b-index l.initial.b-items;
      counted : l.n ≡ count_of (is_zero l.initial.b-items) l.b-index;
      few : l.n ≤ l.b-index;
    }
