-- A call by number, for each number.
use Prim.Native.Nat.{ℕ, ◌≤◌}
use mathlib.Core.Path.{◌≡◌, refl}
use native.Mathlib.Omega.{arith}
use borrow.Author.Tests.{le-ltb}
use Rattle.model.specs.declared.Ppu.{Ppu}
use Rattle.model.specs.Unit.{state}
use Rattle.model.specs.Calls.{refusal, Call, Outcome}
use Rattle.model_shared.specs.Shared.{Machine, memory_of, left_by, unit_call, turn, shared_call}

module _ (k : ℕ) (c : Call) (m : Machine Ppu) where
  pub by_0 : k ≡ 0 → shared_call k c m ≡ (let t : Outcome = unit_call c (state m.first.unit (memory_of 0 m)) in turn t.answer (left_by 0 t.after.unit t.after.memory m))
  unfolding shared_call
  by_0 h = rw h refl

  pub by_1 : k ≡ 1 → shared_call k c m ≡ (let t : Outcome = unit_call c (state m.second.unit (memory_of 1 m)) in turn t.answer (left_by 1 t.after.unit t.after.memory m))
  unfolding shared_call
  by_1 h = rw h refl

  pub by_7 : (k ≡ 0 → ⊥) → (k ≡ 1 → ⊥) → shared_call k c m ≡ turn (refusal 7) m
  unfolding shared_call
  by_7 h i = let ge : 2 ≤ k = omega (arith, h, i) in rw (le-ltb k 2 ge) refl

pub ruleset number_cases = (by_0, by_1, by_7)
