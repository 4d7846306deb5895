-- A shared call for C, for each number.
use Prim.Native.Nat.{ℕ, ◌/◌, ◌%◌, ◌≤◌, ◌<◌}
use mathlib.Core.Path.{◌≡◌, refl, sym, ap, ◌∙◌}
use mathlib.Core.Bool.{Bool, true, false, cond, not, ◌&&◌}
use mathlib.Core.List.{List}
use native.Mathlib.Omega.{arith}
use lib.Dec.{eqb, ltb}
use borrow.Author.Tests.{eqb-true, eqb-false, lt-ltb, le-ltb, ltb-true}
use Rattle.model.specs.declared.Ppu.{Ppu}
use Rattle.model.specs.declared.Access.{Access}
use Rattle.model.specs.Unit.{Memory, long, record_length, state}
use Rattle.model.specs.Record.{at, board_at, unit_of}
use Rattle.model.specs.Calls.{refused_access, load_call, Exported, export_of, on_record, exported_call, own, Call, run_call, outcome_on, on_lent}
use Rattle.model.proofs.Accepted.{is_made}
use Rattle.model.proofs.Tests.{and_both, not_true}
use Rattle.model_shared.specs.Shared.{unit_call, unit_on_record, unit_export, Machine, memory_of, turn, left_by, shared_export}
use Rattle.model_shared.proofs.Laws.{run_begins}
use Rattle.calls_shared_unit.specs.Cleared.{record_begins_shown}

-- a run that begins with one of lines 0 to 239 is the plain one, whatever it is refused for
board_low : (b : ℕ) → b < 8 → (board_at b).writable ≡ false
board_low b h = let e : b / 8 % 2 ≡ 0 = omega arith in rw e

pub run_shown : (why n : ℕ) (l : List ℕ) (m : Memory) → record_begins_shown l n ≡ true → unit_export (run_call own why n) l m ≡ exported_call (run_call own why n) l m
unfolding exported_call unit_export on_record unit_on_record record_begins_shown unit_of
run_shown why n l m e = sym (ap (export_of l) (go (ltb why 3) (eqb (load_call l).answer.number 0) refl))
  where
    on : on_lent (run_call own why n) (state (unit_of l) m) ≡ unit_call (run_call own why n) (state (unit_of l) m)
    on =
        let a = and_both (long l record_length) (ltb (at l 15) 8 && (eqb (at l 13) 0 && (ltb (at l 12) 240 && not (eqb n 0)))) e in
        let b = and_both (ltb (at l 15) 8) (eqb (at l 13) 0 && (ltb (at l 12) 240 && not (eqb n 0))) a.1 in
        let d = and_both (eqb (at l 13) 0) (ltb (at l 12) 240 && not (eqb n 0)) b.1 in
        let f = and_both (ltb (at l 12) 240) (not (eqb n 0)) d.1 in
        let next : (unit_of l).scanline < 240 = let x = ltb-true (at l 12) 240 f.0 in let y = eqb-true (at l 13) 0 d.0 in omega (arith, x, y) in
        sym (run_begins own why n (state (unit_of l) m) (board_low (at l 15) (ltb-true (at l 15) 8 b.0)) (lt-ltb (unit_of l).scanline 240 next) (eqb-false n 0 (not_true (eqb n 0) f.1)))

    go : (a b : Bool) → eqb (load_call l).answer.number 0 ≡ b
        → cond a (cond b (on_lent (run_call own why n) (state (load_call l).unit m)) (outcome_on (load_call l) m)) (outcome_on (refused_access 5 (load_call l).unit) m)
        ≡ cond a (cond b (unit_call (run_call own why n) (state (load_call l).unit m)) (outcome_on (load_call l) m)) (outcome_on (refused_access 5 (load_call l).unit) m)
    go true true q =
        let x : (load_call l).unit ≡ unit_of l = ap (λ (y : Access). y.unit) (is_made l (load_call l).answer.number refl (eqb-true (load_call l).answer.number 0 q)) in
        ap (λ (u : Ppu). on_lent (run_call own why n) (state u m)) x ∙ on ∙ ap (λ (u : Ppu). unit_call (run_call own why n) (state u m)) (sym x)
    go true false q = refl
    go false b q = refl

-- BY NUMBER
module _ (k : ℕ) (c : Call) (m : Machine (List ℕ)) where
  pub by_0 : k ≡ 0 → shared_export k c m ≡ (let e : Exported = unit_export c m.first.unit (memory_of 0 m) in turn e.result (left_by 0 e.bytes e.memory m))
  unfolding shared_export
  by_0 h = rw h refl

  pub by_1 : k ≡ 1 → shared_export k c m ≡ (let e : Exported = unit_export c m.second.unit (memory_of 1 m) in turn e.result (left_by 1 e.bytes e.memory m))
  unfolding shared_export
  by_1 h = rw h refl

  pub by_7 : (k ≡ 0 → ⊥) → (k ≡ 1 → ⊥) → shared_export k c m ≡ turn 7 m
  unfolding shared_export
  by_7 h i = let ge : 2 ≤ k = omega (arith, h, i) in rw (le-ltb k 2 ge) refl

pub ruleset number_cases = (by_0, by_1, by_7)
