-- What a run of one line hands back beside its buffers.
use Rattle.std.specs.Prelude.{ℕ}
use Rattle.model.specs.declared.Access.{Access}
use Rattle.model.specs.Unit.{State}
use Rattle.model.specs.Line.{one_line, meets_reason}
use Rattle.model.specs.Calls.{access, ran_answer}

-- one line, whether it met the reason, and the unit after it
abbrev pub after_line : ℕ → State → Access
after_line why s = access (ran_answer 1 (meets_reason why s.unit (one_line s).unit) (one_line s).unit) (one_line s).unit
