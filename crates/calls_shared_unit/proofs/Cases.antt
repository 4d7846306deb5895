-- One unit's calls: refused by a writable board, else the plain call, a run on buffers that were cleared.
use Prim.Native.Nat.{ℕ, ◌*◌, ◌≤◌}
use mathlib.Core.Path.{◌≡◌, refl, sym, ap, ◌∙◌}
use mathlib.Core.Bool.{Bool, true, false, true≢false, cond, not, ◌&&◌}
use mathlib.Core.List.{List}
use native.Mathlib.Omega.{arith}
use lib.Dec.{eqb, ltb}
use lib.ListN.{length, replicate}
use borrow.Author.Tests.{eqb-true, eqb-false, eq-eqb, ne_eqb, lt-ltb}
use Rattle.model.specs.declared.Ppu.{Ppu}
use Rattle.model.specs.declared.Access.{Access}
use Rattle.model.specs.Unit.{Memory, State, state, access_memory, line_memory, is_well_formed, is_drawing}
use Rattle.model.specs.Ports.{port_of}
use Rattle.model.specs.Calls.{refused_access, own, Call, run_call, request_ok, outcome_on, write_call, access_sizes, blocked_write, access_refusal, gate, write_done, done, plain_refusal, refusal_of, on_lent}
use Rattle.model.proofs.Accepted.{and_none}
use Rattle.model.proofs.Tests.{and_both, not_true}
use Rattle.model_shared.specs.Shared.{unit_call}
use Rattle.model_shared.proofs.Laws.{unit_writable, unit_unasked, unit_plain, run_begins, run_cleared, run_sized, unit_is}
use Rattle.calls_shared_unit.specs.Cleared.{begins_shown, clears}

-- refused by a writable board, or by its reason
module _ (c : Call) (u : Ppu) (m : Memory) (x : Access) where
  pub barred : request_ok c ≡ true → u.board.writable ≡ true → x ≡ refused_access (cond (is_well_formed u) 6 3) u → outcome_on x m ≡ unit_call c (state u m)
  barred a w e = ap (λ (y : Access). outcome_on y m) e ∙ sym (unit_writable c (state u m) a w)

  pub unasked : request_ok c ≡ false → x ≡ refused_access 5 u → outcome_on x m ≡ unit_call c (state u m)
  unasked a e = ap (λ (y : Access). outcome_on y m) e ∙ sym (unit_unasked c (state u m) a)

-- a write, where it is the plain one
pub write_plain : (u : Ppu) (a b : ℕ) (l r n o p : List ℕ) → u.board.writable ≡ false
    → unit_call (write_call own a b) (state u (access_memory l r n o p))
    ≡ gate (access_refusal (access_sizes u.board (length l) (length r) (length n) (length o) (length p)) u a (blocked_write a)) (write_done (port_of a) b (state u (access_memory l r n o p))) (state u (access_memory l r n o p))
unfolding on_lent refusal_of access_refusal done
write_plain u a b l r n o p w = unit_plain (write_call own a b) (state u (access_memory l r n o p)) refl w

-- A RUN: the plain run, on cleared buffers where it clears them; k is the length of its colours in bytes
module _ (why most : ℕ) (u : Ppu) (l r n o p b f : List ℕ) (k : ℕ) (known : why ≤ 2) (w : u.board.writable ≡ false) (bytes : eqb k 512 ≡ eqb (length f) 256) where
  abbrev run : Call
  run = run_call own why most

  abbrev at : State
  at = state u (line_memory l r n o p b f)

  abbrev number : ℕ
  number = plain_refusal (access_sizes u.board (length l) (length r) (length n) (length o) (length p) && (eqb (length b) 256 && eqb k 512)) u

  same_number : number ≡ refusal_of run at
  unfolding refusal_of plain_refusal
  same_number = rw (bytes, lt-ltb why 3 (omega arith), and_none (is_drawing u)) refl

  abbrev clear : Bool
  clear = clears u most (length l) (length r) (length n) (length o) (length p) (length b) k

  -- whether it is refused, from the clearing
  accepted : (x y : Bool) → cond x false y ≡ true → y ≡ true
  accepted true y e = absurd (true≢false (sym e))
  accepted false y e = e

  none : clear ≡ true → refusal_of run at ≡ 0
  unfolding clears
  none e = sym same_number ∙ eqb-true number 0 (accepted (begins_shown u most) (eqb number 0) e)

  pub run_zeroed : clear ≡ true → unit_call run at ≡ on_lent run (state u (line_memory l r n o p (replicate (length b) 0) (replicate (length f) 0)))
  run_zeroed e = let long = run_sized own why most at (none e) in rw (long.0, long.1) (sym (run_cleared own why most u at.memory w (none e)))

  kept : (x y : Bool) → begins_shown u most ≡ x → eqb number 0 ≡ y → cond x false y ≡ false → unit_call run at ≡ on_lent run at
  unfolding begins_shown
  kept true y ex ey e =
      let z = and_both (ltb u.scanline 240) (not (eqb most 0)) ex in run_begins own why most at w z.0 (eqb-false most 0 (not_true (eqb most 0) z.1))
  kept false true ex ey e = absurd (true≢false e)
  kept false false ex ey e = unit_is run at w (λ (z : refusal_of run at ≡ 0). absurd (eqb-false number 0 ey (same_number ∙ z)))

  pub run_kept : clear ≡ false → unit_call run at ≡ on_lent run at
  unfolding clears
  run_kept e = kept (begins_shown u most) (eqb number 0) refl refl e

-- where the colours are numbers, two bytes each
doubled : (k : ℕ) → eqb (2 * k) 512 ≡ eqb k 256
doubled k = go (eqb k 256) refl
  where
    go : (x : Bool) → eqb k 256 ≡ x → eqb (2 * k) 512 ≡ x
    go true e = let h = eqb-true k 256 e in eq-eqb (2 * k) 512 (omega arith)
    go false e = ne_eqb (2 * k) 512 (λ z. eqb-false k 256 e (omega arith))

module _ (why most : ℕ) (u : Ppu) (l r n o p b f : List ℕ) (known : why ≤ 2) (w : u.board.writable ≡ false) where
  pub numbers_zeroed : clears u most (length l) (length r) (length n) (length o) (length p) (length b) (2 * length f) ≡ true
      → unit_call (run_call own why most) (state u (line_memory l r n o p b f)) ≡ on_lent (run_call own why most) (state u (line_memory l r n o p (replicate (length b) 0) (replicate (length f) 0)))
  numbers_zeroed = run_zeroed why most u l r n o p b f (2 * length f) known w (doubled (length f))

  pub numbers_kept : clears u most (length l) (length r) (length n) (length o) (length p) (length b) (2 * length f) ≡ false
      → unit_call (run_call own why most) (state u (line_memory l r n o p b f)) ≡ on_lent (run_call own why most) (state u (line_memory l r n o p b f))
  numbers_kept = run_kept why most u l r n o p b f (2 * length f) known w (doubled (length f))

pub ruleset numbers_cases = (barred, unasked, numbers_zeroed, numbers_kept)
