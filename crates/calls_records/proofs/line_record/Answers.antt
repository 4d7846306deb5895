use Rattle.std.proofs.Common.{arith}
use Rattle.model.specs.Calls.{exported_call, on_record}
use Rattle.calls_records.proofs.Cases.{line_cases, undrawn_done}
use Rattle.calls_records.proofs.line_record.Goals as goal

pub returns-in_default-as_mut_array-2 : goal.returns-in_default-as_mut_array-2
unfolding exported_call on_record
returns-in_default-as_mut_array-2 c = rw c.in-Some-as_mut_array.ensures.cases.same (grind (arith, line_cases))

pub returns-then-draws : goal.returns-then-draws
unfolding exported_call on_record
returns-then-draws c =
    rw (← c.in-Some-as_mut_array.ensures.cases.same, ← c.in-Some-as_mut_array-2.ensures.cases.same) (grind (arith, line_cases))

pub returns : goal.returns
returns c =
    undrawn_done _ _ _ _ _ _ _ _ _ _ c.in-Ok.ensures c.requires _ _ c.new.ensures c.in-Some.is
    _ _ c.in-Some-as_mut_array.ensures.cases c.in-Some-as_mut_array-2.ensures.cases _ _ _ _ _ c.undrawn_line-a.ensures c.undrawn_buffers.ensures c.finish-packed.ensures.1 c.finish-packed.ensures.0
