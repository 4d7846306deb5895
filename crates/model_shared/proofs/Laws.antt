-- One unit's call and the plain call: the same but for 6, and for the line buffers of a run with none of lines 0 to 239.
use mathlib.Core.Path.{◌≡◌, refl, sym, ap, ◌∙◌}
use mathlib.Core.Bool.{Bool, true, false, true≢false, cond, ◌&&◌}
use mathlib.Core.List.{List}
use Prim.Native.Nat.{ℕ, zero, suc}
use native.Mathlib.Omega.{arith}
use lib.Dec.{eqb, ltb}
use lib.ListN.{length, replicate, length-replicate}
use borrow.Author.Tests.{eqb-true}
use Rattle.model.specs.declared.Ppu.{Ppu}
use Rattle.model.specs.Unit.{Memory, with_lines, State, state, line_length, colours_length, is_well_formed, is_drawing}
use Rattle.model.specs.Line.{lines_run, line_count, reason_met}
use Rattle.model.specs.Calls.{Lent, Call, read_call, write_call, dma_call, run_call, search_call, ran_answer, Outcome, outcome, refusal, request_ok, long_for, in_range, blocked, access_long, order, refusal_of, gate, run_done, done, on_lent}
use Rattle.model.proofs.Accepted.{is_done, order_sized}
use Rattle.model.proofs.Tests.{and_both}
use Rattle.model_shared.specs.Shared.{unit_order, unit_refusal, pictures_any, zeroed, unit_done, unit_call}
use Rattle.model_shared.specs.Sequence.{is_run}
use Rattle.model_shared.proofs.Lines.{relined, lines_or, lines_relined, count_relined, met_relined, begins, counts}

-- WHERE THE BOARD IS WRITABLE: 5, 3, 6
order_writable : (a w f r s : Bool) → unit_order a w true f r s ≡ cond a (cond w 6 3) 5
unfolding unit_order
order_writable true true f r s = refl
order_writable true false f r s = refl
order_writable false w f r s = refl

pub writable_refusal : (c : Call) (s : State) → s.unit.board.writable ≡ true → unit_refusal c s ≡ cond (request_ok c) (cond (is_well_formed s.unit) 6 3) 5
unfolding unit_refusal
writable_refusal c s e =
    ap (λ (w : Bool). unit_order (request_ok c) (is_well_formed s.unit) w (long_for c s.unit s.memory) (in_range c) (is_drawing s.unit && blocked c)) e
    ∙ order_writable (request_ok c) (is_well_formed s.unit) (long_for c s.unit s.memory) (in_range c) (is_drawing s.unit && blocked c)

-- WHERE IT IS NOT: the plain call's number
order_plain : (a w f r s : Bool) → unit_order a w false f r s ≡ order a w f r s
unfolding unit_order order
order_plain true true f r s = refl
order_plain true false f r s = refl
order_plain false w f r s = refl

pub plain_refusal_lem : (c : Call) (s : State) → s.unit.board.writable ≡ false → unit_refusal c s ≡ refusal_of c s
unfolding unit_refusal refusal_of
plain_refusal_lem c s e =
    ap (λ (w : Bool). unit_order (request_ok c) (is_well_formed s.unit) w (long_for c s.unit s.memory) (in_range c) (is_drawing s.unit && blocked c)) e
    ∙ order_plain (request_ok c) (is_well_formed s.unit) (long_for c s.unit s.memory) (in_range c) (is_drawing s.unit && blocked c)

-- refused, or done
gate_refused : (k : ℕ) (y : Outcome) (s : State) → (k ≡ 0 → ⊥) → gate k y s ≡ outcome (refusal k) s
gate_refused zero y s h = absurd (h refl)
gate_refused (suc k) y s h = refl

module _ (c : Call) (s : State) (k : ℕ) (e : unit_refusal c s ≡ k) where
  pub unit_refused : (k ≡ 0 → ⊥) → unit_call c s ≡ outcome (refusal k) s
  unfolding unit_call
  unit_refused h = ap (λ (i : ℕ). gate i (unit_done c s) s) e ∙ gate_refused k (unit_done c s) s h

  pub unit_done_lem : k ≡ 0 → unit_call c s ≡ unit_done c s
  unfolding unit_call
  unit_done_lem h = ap (λ (i : ℕ). gate i (unit_done c s) s) (e ∙ h)

-- with a writable board each call is refused
pub unit_writable : (c : Call) (s : State) → request_ok c ≡ true → s.unit.board.writable ≡ true → unit_call c s ≡ outcome (refusal (cond (is_well_formed s.unit) 6 3)) s
unit_writable c s a e = unit_refused c s _ (writable_refusal c s e ∙ (λ i. cond (a i) (cond (is_well_formed s.unit) 6 3) 5)) (go (is_well_formed s.unit))
  where
    go : (x : Bool) → ◌≡◌ {A = ℕ} (cond x 6 3) 0 → ⊥
    go true z = omega (arith, z)
    go false z = omega (arith, z)

-- 5, whatever else holds
pub unit_unasked : (c : Call) (s : State) → request_ok c ≡ false → unit_call c s ≡ outcome (refusal 5) s
unfolding unit_refusal unit_order
unit_unasked c s h = unit_refused c s 5 (rw h) (λ (z : 5 ≡ 0). omega (arith, z))

-- a call that is no run is the plain call
same_done : (c : Call) (s : State) → is_run c ≡ false → unit_done c s ≡ done c s
unfolding unit_done
same_done (read_call l a) s e = refl
same_done (write_call l a b) s e = refl
same_done (dma_call l p) s e = refl
same_done (run_call l why n) s e = absurd (true≢false e)
same_done (search_call l n) s e = refl

same_gate : (k : ℕ) (x y : Outcome) (s : State) → (k ≡ 0 → x ≡ y) → gate k x s ≡ gate k y s
same_gate zero x y s h = h refl
same_gate (suc k) x y s h = refl

-- done alike, the calls are alike
pub unit_is : (c : Call) (s : State) → s.unit.board.writable ≡ false → (refusal_of c s ≡ 0 → unit_done c s ≡ done c s) → unit_call c s ≡ on_lent c s
unfolding unit_call on_lent
unit_is c s w h = ap (λ (i : ℕ). gate i (unit_done c s) s) (plain_refusal_lem c s w) ∙ same_gate (refusal_of c s) (unit_done c s) (done c s) s h

pub unit_plain : (c : Call) (s : State) → is_run c ≡ false → s.unit.board.writable ≡ false → unit_call c s ≡ on_lent c s
unit_plain c s r w = unit_is c s w (λ (z : refusal_of c s ≡ 0). same_done c s r)

-- A RUN that has one of lines 0 to 239 is done as the plain run is
pub run_drawn : (l : Lent) (why n : ℕ) (s : State) → pictures_any (line_count why n s) s ≡ true → unit_done (run_call l why n) s ≡ done (run_call l why n) s
unfolding unit_done
run_drawn l why n s e = rw e

-- one that begins with such a line
pub run_begins : (l : Lent) (why n : ℕ) (s : State) → s.unit.board.writable ≡ false → ltb s.unit.scanline 240 ≡ true → (n ≡ 0 → ⊥)
    → unit_call (run_call l why n) s ≡ on_lent (run_call l why n) s
run_begins l why zero s w b h = absurd (h refl)
run_begins l why (suc n) s w b h =
    let j = counts why n s in
    unit_is (run_call l why (suc n)) s w (λ (z : refusal_of (run_call l why (suc n)) s ≡ 0). run_drawn l why (suc n) s (ap (λ (k : ℕ). pictures_any k s) j.1 ∙ begins j.0 s b))

-- any other is the plain run on buffers that were zeroed, if it is not refused
run_relined : (l : Lent) (why n : ℕ) (s : State) (b f : List ℕ)
    → done (run_call l why n) (relined b f s)
    ≡ (let k : ℕ = line_count why n s in let t : State = lines_run k s in outcome (ran_answer k (reason_met why n s) t.unit) (lines_or (pictures_any k s) t b f))
unfolding done run_done
run_relined l why n s b f =
    (λ i. let t : State = lines_run (count_relined why n s b f i) (relined b f s) in outcome (ran_answer (count_relined why n s b f i) (met_relined why n s b f i) t.unit) t)
    ∙ (λ i. let t : State = lines_relined (line_count why n s) s b f i in outcome (ran_answer (line_count why n s) (reason_met why n s) t.unit) t)

pub done_zeroed : (l : Lent) (why n : ℕ) (s : State) → unit_done (run_call l why n) s ≡ done (run_call l why n) (state s.unit (zeroed s.memory))
unfolding unit_done done run_done
done_zeroed l why n s =
    let k : ℕ = line_count why n s in
    go (pictures_any k s) (lines_run k s)
    ∙ sym (unfold done in run_relined l why n s (replicate line_length 0) (replicate colours_length 0))
  where
    go : (x : Bool) (t : State)
        → cond x (outcome (ran_answer (line_count why n s) (reason_met why n s) t.unit) t) (outcome (ran_answer (line_count why n s) (reason_met why n s) t.unit) (state t.unit (zeroed t.memory)))
        ≡ outcome (ran_answer (line_count why n s) (reason_met why n s) t.unit) (lines_or x t (replicate line_length 0) (replicate colours_length 0))
    go true t = refl
    go false t = refl

-- what an accepted run is lent
pub run_sized : (l : Lent) (why n : ℕ) (s : State) → refusal_of (run_call l why n) s ≡ 0 → (length s.memory.line ≡ line_length) × (length s.memory.colours ≡ colours_length)
unfolding refusal_of
run_sized l why n s e =
    let z = and_both (access_long s.unit s.memory) (eqb (length s.memory.line) line_length && eqb (length s.memory.colours) colours_length) (order_sized _ _ _ _ _ e) in
    let y = and_both (eqb (length s.memory.line) line_length) (eqb (length s.memory.colours) colours_length) z.1 in
    (eqb-true (length s.memory.line) line_length y.0, eqb-true (length s.memory.colours) colours_length y.1)

-- lengths alone are refused
pub long_relined : (c : Call) (u : Ppu) (m : Memory) (b f : List ℕ) → length b ≡ length m.line → length f ≡ length m.colours → long_for c u (with_lines m b f) ≡ long_for c u m
long_relined (read_call l a) u m b f h k = refl
long_relined (write_call l a x) u m b f h k = refl
long_relined (dma_call l p) u m b f h k = refl
long_relined (run_call l why n) u m b f h k = λ i. access_long u m && (eqb (h i) line_length && eqb (k i) colours_length)
long_relined (search_call l n) u m b f h k = refl

pub refusal_relined : (c : Call) (u : Ppu) (m : Memory) (b f : List ℕ) → length b ≡ length m.line → length f ≡ length m.colours
    → unit_refusal c (state u (with_lines m b f)) ≡ unit_refusal c (state u m)
unfolding unit_refusal
refusal_relined c u m b f h k = ap (λ (x : Bool). unit_order (request_ok c) (is_well_formed u) u.board.writable x (in_range c) (is_drawing u && blocked c)) (long_relined c u m b f h k)

pub run_cleared : (l : Lent) (why n : ℕ) (u : Ppu) (m : Memory) → u.board.writable ≡ false → refusal_of (run_call l why n) (state u m) ≡ 0
    → on_lent (run_call l why n) (state u (zeroed m)) ≡ unit_call (run_call l why n) (state u m)
run_cleared l why n u m w e =
    let c : Call = run_call l why n in
    let z = run_sized l why n (state u m) e in
    let r : unit_refusal c (state u m) ≡ 0 = plain_refusal_lem c (state u m) w ∙ e in
    let r' : refusal_of c (state u (zeroed m)) ≡ 0 =
    sym (plain_refusal_lem c (state u (zeroed m)) w)
    ∙ refusal_relined c u m (replicate line_length 0) (replicate colours_length 0) (length-replicate {A = ℕ} line_length 0 ∙ sym z.0) (length-replicate {A = ℕ} colours_length 0 ∙ sym z.1) ∙ r
    in
    sym (is_done c (state u (zeroed m)) 0 (sym r') refl) ∙ sym (done_zeroed l why n (state u m)) ∙ sym (unit_done_lem c (state u m) 0 r refl)
