-- The statements of specs/Theorems.antt, proved.
use mathlib.Core.Path.{◌≡◌, refl, sym, ap, ◌∙◌, subst}
use mathlib.Core.Bool.{Bool, true, false, cond, ◌&&◌, ◌||◌}
use mathlib.Core.List.{List}
use mathlib.Core.Logic.{◌⊎◌, inl, inr, ⊎_elim}
use Prim.Native.Nat.{ℕ, zero, suc, ◌%◌, ◌≤◌, ◌<◌}
use native.Mathlib.Nat.{not-suc-le-zero, le_of_suc-le-suc, eq-or-lt_of_le}
use native.Mathlib.Omega.{arith}
use lib.Dec.{ltb, eqb}
use lib.ListN.{length, replicate}
use borrow.Author.Tests.{eq-eqb, ne_eqb, lt-ltb, le-ltb}
use Rattle.model.specs.declared.Ppu.{Ppu}
use Rattle.model.specs.declared.Answer.{Answer}
use Rattle.model.specs.declared.Access.{Access}
use Rattle.model.specs.Unit.{Memory, State, state, record_length, line_length, colours_length, is_well_formed, is_drawing}
use Rattle.model.specs.Record.{unit_of, record_ok}
use Rattle.model.specs.Line.{any_of, lines_run, line_count}
use Rattle.model.specs.Calls.{Lent, Call, read_call, write_call, dma_call, run_call, search_call, refused_access, load_call, Outcome, outcome, outcome_on, refusal, request_ok, long_for, in_range, blocked, read_done, write_done, dma_done, run_done, search_done, done, on_lent, Exported, exported, export_of}
use Rattle.model.specs.Theorems.{lent_to, restored, restores}
use Rattle.model.proofs.Accepted.{and_none}
use Rattle.model.proofs.Good.{lines_cells, lent_formed}
use Rattle.model.proofs.Record.{load_is}
use Rattle.model_shared.specs.Shared.{unit_order, unit_refusal, pictures_line, pictures_any, unit_done, unit_call, unit_on_record, unit_export, Machine, own_of, memory_of, left_by, by_value, by_record, Turn, turn, shared_call, shared_export}
use Rattle.model_shared.specs.Theorems.{SharedRefusals, SharedCalls, SharedTheorems}
use Rattle.model_shared.proofs.Laws.{unit_refused, unit_done_lem, unit_is, unit_plain, run_drawn}
use Rattle.model_shared.proofs.Seen.{value_blind, record_blind, unit_number, export_number, unit_still, unit_export_refused}
use Rattle.model_shared.proofs.Alone.{unseen, turns}
use Rattle.model_shared.proofs.Reloads.{like, writable_stays, shared_reload}

-- DEMAND 1
is_7 : {k : ℕ} → 2 ≤ k → ltb k 2 ≡ false
is_7 {k} h = le-ltb k 2 h

module _ (c : Call) (s : State) (a : request_ok c ≡ true) (f : is_well_formed s.unit ≡ true) where
  is_6 : s.unit.board.writable ≡ true → unit_refusal c s ≡ 6
  unfolding unit_refusal unit_order
  is_6 w = (λ i. unit_order (a i) (f i) (w i) (long_for c s.unit s.memory) (in_range c) (is_drawing s.unit && blocked c))

  module _ (w : s.unit.board.writable ≡ false) where
    is_2 : long_for c s.unit s.memory ≡ false → unit_refusal c s ≡ 2
    unfolding unit_refusal unit_order
    is_2 h = λ i. unit_order (a i) (f i) (w i) (h i) (in_range c) (is_drawing s.unit && blocked c)

    module _ (h : long_for c s.unit s.memory ≡ true) where
      is_1 : in_range c ≡ false → unit_refusal c s ≡ 1
      unfolding unit_refusal unit_order
      is_1 r = λ i. unit_order (a i) (f i) (w i) (h i) (r i) (is_drawing s.unit && blocked c)

      is_4 : in_range c ≡ true → is_drawing s.unit ≡ true → blocked c ≡ true → unit_refusal c s ≡ 4
      unfolding unit_refusal unit_order
      is_4 r d b = λ i. unit_order (a i) (f i) (w i) (h i) (r i) (d i && b i)

      is_0 : in_range c ≡ true → (is_drawing s.unit ≡ false) ⊎ (blocked c ≡ false) → unit_refusal c s ≡ 0
      unfolding unit_refusal unit_order
      is_0 r d =
          ⊎_elim (λ (e : is_drawing s.unit ≡ false). λ i. unit_order (a i) (f i) (w i) (h i) (r i) (e i && blocked c))
          (λ (e : blocked c ≡ false). (λ i. unit_order (a i) (f i) (w i) (h i) (r i) (is_drawing s.unit && e i)) ∙ ap (unit_order true true false true true) (and_none (is_drawing s.unit))) d

module _ (c : Call) (l : List ℕ) (m : Memory) (a : request_ok c ≡ true) where
  record_2 : (length l ≡ record_length → ⊥) → (unit_on_record c l m).answer.number ≡ 2
  unfolding unit_on_record load_call
  record_2 h = rw (a, ne_eqb (length l) record_length h)

  record_3 : length l ≡ record_length → record_ok l ≡ false → (unit_on_record c l m).answer.number ≡ 3
  unfolding unit_on_record load_call
  record_3 h e = rw (a, eq-eqb (length l) record_length h, e)

  record_call_lem : length l ≡ record_length → record_ok l ≡ true → unit_on_record c l m ≡ unit_call c (state (unit_of l) m)
  unfolding unit_on_record
  record_call_lem h e = rw (a, load_is l h e)

-- by a unit's number
same_machine : {U : Type 0} (k : ℕ) (m : Machine U) → left_by k (own_of k m).unit (memory_of k m) m ≡ m
same_machine zero m = refl
same_machine (suc k) m = refl

by_unit : (k : ℕ) (c : Call) (m : Machine Ppu) → k < 2
    → shared_call k c m ≡ (let o : Outcome = unit_call c (state (own_of k m).unit (memory_of k m)) in turn o.answer (left_by k o.after.unit o.after.memory m))
unfolding shared_call
by_unit k c m h = rw (lt-ltb k 2 h)

record_by_unit : (k : ℕ) (c : Call) (m : Machine (List ℕ)) → k < 2
    → shared_export k c m ≡ (let e : Exported = unit_export c (own_of k m).unit (memory_of k m) in turn e.result (left_by k e.bytes e.memory m))
unfolding shared_export
record_by_unit k c m h = rw (lt-ltb k 2 h)

-- a unit's number, or another
numbered : (k : ℕ) → (k < 2) ⊎ (2 ≤ k)
numbered zero = inl (omega arith)
numbered (suc zero) = inl (omega arith)
numbered (suc (suc k)) = inr (omega arith)

still_7 : (k : ℕ) (c : Call) (m : Machine Ppu) → 2 ≤ k → shared_call k c m ≡ turn (refusal 7) m
unfolding shared_call
still_7 k c m h = rw (is_7 {k = k} h)

record_still_7 : (k : ℕ) (c : Call) (m : Machine (List ℕ)) → 2 ≤ k → shared_export k c m ≡ turn 7 m
unfolding shared_export
record_still_7 k c m h = rw (is_7 {k = k} h)

nothing_changes : (k : ℕ) (c : Call) (m : Machine Ppu) → ((shared_call k c m).answer.number ≡ 0 → ⊥) → shared_call k c m ≡ turn (refusal (shared_call k c m).answer.number) m
nothing_changes k c m h =
    ⊎_elim
    (λ (lt : k < 2).
    let s : State = state (own_of k m).unit (memory_of k m) in
    let e = by_unit k c m lt in
    let n : (unit_call c s).answer.number ≡ (shared_call k c m).answer.number = ap (λ (t : Turn Answer Ppu). t.answer.number) (sym e) in
    e ∙ ap (λ (o : Outcome). turn o.answer (left_by k o.after.unit o.after.memory m)) (unit_still c s (λ (z : (unit_call c s).answer.number ≡ 0). h (sym n ∙ z)))
    ∙ (λ i. turn (refusal (n i)) (same_machine k m i)))
    (λ (ge : 2 ≤ k). still_7 k c m ge ∙ ap (λ (t : Turn Answer Ppu). turn (refusal t.answer.number) m) (sym (still_7 k c m ge))) (numbered k)

record_nothing_changes : (k : ℕ) (c : Call) (m : Machine (List ℕ)) → ((shared_export k c m).answer % 256 ≡ 0 → ⊥) → shared_export k c m ≡ turn ((shared_export k c m).answer % 256) m
record_nothing_changes k c m h =
    ⊎_elim
    (λ (lt : k < 2).
    let l : List ℕ = (own_of k m).unit in
    let a : Memory = memory_of k m in
    let e = record_by_unit k c m lt in
    let n : (unit_on_record c l a).answer.number ≡ (shared_export k c m).answer % 256 = sym (export_number c l a) ∙ ap (λ (t : Turn ℕ (List ℕ)). t.answer % 256) (sym e) in
    e ∙ ap (λ (x : Exported). turn x.result (left_by k x.bytes x.memory m)) (unit_export_refused c l a (λ (z : (unit_on_record c l a).answer.number ≡ 0). h (sym n ∙ z)))
    ∙ (λ i. turn (n i) (same_machine k m i)))
    (λ (ge : 2 ≤ k). record_still_7 k c m ge ∙ ap (λ (t : Turn ℕ (List ℕ)). turn (t.answer % 256) m) (sym (record_still_7 k c m ge))) (numbered k)

refusals : SharedRefusals
unfolding unit_refusal unit_order unit_on_record
refusals =
    record {
      is_7 = still_7;
      record_7 = record_still_7;
      number = unit_number;
      is_5 = λ c s a. rw a;
      is_3 = λ c s a f. rw (a, f);
      is_6 = is_6;
      is_2 = is_2;
      is_1 = is_1;
      is_4 = is_4;
      is_0 = is_0;
      record_5 = λ c l m a. rw a;
      record_2 = record_2;
      record_3 = record_3;
      record_call_lem = record_call_lem;
      by_unit = by_unit;
      record_by_unit = record_by_unit;
      nothing_changes = nothing_changes;
      record_nothing_changes = record_nothing_changes;
      refused = unit_still;
      record_refused = unit_export_refused;
    }

-- ONE UNIT'S CALL
-- one of the lines that a run ran is 0 to 239, or none is
some : (j k : ℕ) (s : State) → j < k → (lines_run j s).unit.scanline < 240 → pictures_any k s ≡ true
unfolding pictures_any any_of pictures_line
some j zero s h e = absurd (not-suc-le-zero h)
some j (suc k) s h e =
    ⊎_elim (λ (q : j ≡ k). let z : ltb (lines_run k s).unit.scanline 240 ≡ true = ap (λ (i : ℕ). ltb (lines_run i s).unit.scanline 240) (sym q) ∙ lt-ltb _ 240 e in rw z (last (any_of (pictures_line s) k)))
    (λ (lt : j < k). ap (λ (b : Bool). b || ltb (lines_run k s).unit.scanline 240) (some j k s lt e)) (eq-or-lt_of_le (le_of_suc-le-suc h))
  where
    last : (b : Bool) → b || true ≡ true
    last true = refl
    last false = refl

none : (k : ℕ) (s : State) → ((j : ℕ) → j < k → 240 ≤ (lines_run j s).unit.scanline) → pictures_any k s ≡ false
unfolding pictures_any any_of pictures_line
none zero s h = refl
none (suc k) s h = λ i. none k s (λ j lt. h j (omega arith)) i || le-ltb (lines_run k s).unit.scanline 240 (h k (omega arith)) i

-- the lines that an answered run reports
count_is : (l : Lent) (why n : ℕ) (s : State) → unit_refusal (run_call l why n) s ≡ 0 → (unit_call (run_call l why n) s).answer.lines ≡ line_count why n s
count_is l why n s e = ap (λ (o : Outcome). o.answer.lines) (unit_done_lem (run_call l why n) s 0 e refl) ∙ go (pictures_any (line_count why n s) s) refl
  where
    go : (x : Bool) → pictures_any (line_count why n s) s ≡ x → (unit_done (run_call l why n) s).answer.lines ≡ line_count why n s
    go true q = unfold unit_done done run_done in rw q
    go false q = unfold unit_done done run_done in rw q

picture_run : (l : Lent) (why n : ℕ) (s : State) → s.unit.board.writable ≡ false → (j : ℕ) → j < (unit_call (run_call l why n) s).answer.lines → (lines_run j s).unit.scanline < 240
    → unit_call (run_call l why n) s ≡ on_lent (run_call l why n) s
picture_run l why n s w j lt e = go (unit_refusal (run_call l why n) s) refl
  where
    go : (r : ℕ) → unit_refusal (run_call l why n) s ≡ r → unit_call (run_call l why n) s ≡ on_lent (run_call l why n) s
    go zero q =
        let k : pictures_any (line_count why n s) s ≡ true = some j (line_count why n s) s (subst (λ (i : ℕ). j < i) (count_is l why n s q) lt) e in
        unit_is (run_call l why n) s w (λ z. run_drawn l why n s k)
    go (suc r) q =
        let z : (unit_call (run_call l why n) s).answer.lines ≡ 0 = ap (λ (o : Outcome). o.answer.lines) (unit_refused (run_call l why n) s (suc r) q (λ (y : suc r ≡ 0). omega (arith, y))) in
        absurd (not-suc-le-zero (subst (λ (i : ℕ). j < i) z lt))

run_zeros : (l : Lent) (why n : ℕ) (s : State) → pictures_any (line_count why n s) s ≡ false
    → ((unit_done (run_call l why n) s).after.memory.line ≡ replicate line_length 0) × ((unit_done (run_call l why n) s).after.memory.colours ≡ replicate colours_length 0)
unfolding unit_done
run_zeros l why n s k = rw k (refl, refl)

blank_run : (l : Lent) (why n : ℕ) (s : State) → (unit_call (run_call l why n) s).answer.number ≡ 0
    → ((j : ℕ) → j < (unit_call (run_call l why n) s).answer.lines → 240 ≤ (lines_run j s).unit.scanline)
    → ((unit_call (run_call l why n) s).after.memory.line ≡ replicate line_length 0) × ((unit_call (run_call l why n) s).after.memory.colours ≡ replicate colours_length 0)
blank_run l why n s e h =
    let q : unit_refusal (run_call l why n) s ≡ 0 = sym (unit_number (run_call l why n) s) ∙ e in
    let k : pictures_any (line_count why n s) s ≡ false = none (line_count why n s) s (λ j lt. h j (subst (λ (i : ℕ). j < i) (sym (count_is l why n s q)) lt)) in
    let o = unit_done_lem (run_call l why n) s 0 q refl in
    let z = run_zeros l why n s k in
    (ap (λ (x : Outcome). x.after.memory.line) o ∙ z.0, ap (λ (x : Outcome). x.after.memory.colours) o ∙ z.1)

run_cells : (l : Lent) (why n : ℕ) (s : State) → (unit_call (run_call l why n) s).after.memory.cells ≡ s.memory.cells
run_cells l why n s = go (unit_refusal (run_call l why n) s) refl
  where
    done_cells : (x : Bool) → pictures_any (line_count why n s) s ≡ x → (unit_done (run_call l why n) s).after.memory.cells ≡ s.memory.cells
    done_cells true q = unfold unit_done done run_done in rw q (lines_cells (line_count why n s) s)
    done_cells false q = unfold unit_done done run_done in rw q (lines_cells (line_count why n s) s)

    go : (r : ℕ) → unit_refusal (run_call l why n) s ≡ r → (unit_call (run_call l why n) s).after.memory.cells ≡ s.memory.cells
    go zero q = ap (λ (o : Outcome). o.after.memory.cells) (unit_done_lem (run_call l why n) s 0 q refl) ∙ done_cells (pictures_any (line_count why n s) s) refl
    go (suc r) q = ap (λ (o : Outcome). o.after.memory.cells) (unit_refused (run_call l why n) s (suc r) q (λ (y : suc r ≡ 0). omega (arith, y)))

-- what is not lent
put_back : (c : Call) (m : Memory) → m ≡ restored c m (lent_to c m)
put_back (read_call l a) m = refl
put_back (write_call l a b) m = refl
put_back (dma_call l p) m = refl
put_back (run_call l why n) m = refl
put_back (search_call l n) m = refl

frame : (c : Call) (u : Ppu) (m : Memory) → unit_call c (state u m) ≡ restores c m (unit_call c (state u (lent_to c m)))
frame c u m = go (unit_refusal c (state u m)) refl
  where
    same_refusal : (c : Call) → unit_refusal c (state u (lent_to c m)) ≡ unit_refusal c (state u m)
    same_refusal (read_call l a) = unfold unit_refusal in refl
    same_refusal (write_call l a b) = unfold unit_refusal in refl
    same_refusal (dma_call l p) = unfold unit_refusal in refl
    same_refusal (run_call l why n) = refl
    same_refusal (search_call l n) = unfold unit_refusal in refl

    same_done : (c : Call) → unit_done c (state u m) ≡ restores c m (unit_done c (state u (lent_to c m)))
    same_done (read_call l a) = unfold unit_done done read_done in refl
    same_done (write_call l a b) = unfold unit_done done write_done in refl
    same_done (dma_call l p) = unfold unit_done done dma_done in refl
    same_done (run_call l why n) = refl
    same_done (search_call l n) = unfold unit_done done search_done in refl

    go : (r : ℕ) → unit_refusal c (state u m) ≡ r → unit_call c (state u m) ≡ restores c m (unit_call c (state u (lent_to c m)))
    go zero q = unit_done_lem c (state u m) 0 q refl ∙ same_done c ∙ ap (restores c m) (sym (unit_done_lem c (state u (lent_to c m)) 0 (same_refusal c ∙ q) refl))
    go (suc r) q =
        let n : suc r ≡ 0 → ⊥ = λ (y : suc r ≡ 0). omega (arith, y) in
        unit_refused c (state u m) (suc r) q n ∙ (λ i. outcome (refusal (suc r)) (state u (put_back c m i)))
        ∙ ap (restores c m) (sym (unit_refused c (state u (lent_to c m)) (suc r) (same_refusal c ∙ q) n))

record_frame : (c : Call) (l : List ℕ) (m : Memory)
    → unit_export c l m ≡ (let e : Exported = unit_export c l (lent_to c m) in exported e.result e.bytes (restored c m e.memory))
unfolding unit_export unit_on_record
record_frame c l m = go (request_ok c) (load_call l) (eqb (load_call l).answer.number 0)
  where
    stays : (x : Access) → export_of l (outcome_on x m) ≡ export_of l (restores c m (outcome_on x (lent_to c m)))
    stays x = λ i. export_of l (outcome_on x (put_back c m i))

    go : (a : Bool) (x : Access) (b : Bool)
        → export_of l (cond a (cond b (unit_call c (state x.unit m)) (outcome_on x m)) (outcome_on (refused_access 5 x.unit) m))
        ≡ export_of l (restores c m (cond a (cond b (unit_call c (state x.unit (lent_to c m))) (outcome_on x (lent_to c m))) (outcome_on (refused_access 5 x.unit) (lent_to c m))))
    go true x true = ap (export_of l) (frame c x.unit m)
    go true x false = stays x
    go false x b = stays (refused_access 5 x.unit)

stays_formed : (c : Call) (s : State) → is_well_formed s.unit ≡ true → is_well_formed (unit_call c s).after.unit ≡ true
stays_formed c s h = go s.unit.board.writable refl
  where
    go : (x : Bool) → s.unit.board.writable ≡ x → is_well_formed (unit_call c s).after.unit ≡ true
    go true w = ap (λ (o : Outcome). is_well_formed o.after.unit) (writable_stays c s w) ∙ h
    go false w = ap is_well_formed (sym (like c s w).unit) ∙ lent_formed c s ∙ h

calls : SharedCalls
calls =
    record {
      plain = unit_plain;
      plain_run = λ l why n s w. let z = like (run_call l why n) s w in (sym z.answer, sym z.unit, run_cells l why n s);
      picture_run = picture_run;
      blank_run = blank_run;
      stays_formed = stays_formed;
      frame = frame;
      record_frame = record_frame;
    }

pub theorems : SharedTheorems
theorems =
    record {
      refusals = refusals;
      calls = calls;
      turns = turns by_value value_blind;
      record_turns = turns by_record record_blind;
      unseen = unseen by_value value_blind;
      record_unseen = unseen by_record record_blind;
      reload_theorem = shared_reload;
    }
