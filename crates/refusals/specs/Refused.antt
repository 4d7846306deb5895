-- A refusal, or what was asked for, as the model's.
use Rattle.std.specs.Prelude.{ℕ, Result, Ok, Err}
use Rattle.model.specs.declared.Ppu.{Ppu}
use Rattle.model.specs.declared.Access.{Access}
use Rattle.model.specs.declared.Refusal.{Refusal}
use Rattle.model.specs.Calls.{refusal_number, made, unmade}

-- the number of the refusal, 0 where there is none
abbrev pub number_in : {A : Type 0} → Result A Refusal → ℕ
number_in (Ok x) = 0
number_in (Err r) = refusal_number r

-- the unit of a record, as it is loaded
abbrev pub loaded : Result Ppu Refusal → Access
loaded (Ok u) = made u
loaded (Err r) = unmade (refusal_number r)
