use Rattle.std.proofs.Common.{◌≡◌, ◌++◌, drop}
use Rattle.model.specs.Line.{tab}
use Rattle.text.specs.Passes.{table_byte}
use Rattle.text.proofs.look_up.Given as goal

abbrev pub invariant-loop-k : goal.invariant-loop-k
invariant-loop-k l = l.rows ≡ tab (table_byte l.table l.page) l.k ++ drop l.k l.initial.rows
