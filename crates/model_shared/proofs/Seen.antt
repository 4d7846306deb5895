-- What one unit's call sees of the line buffers it is lent: their lengths alone. And what it leaves: the tables, and those lengths.
use mathlib.Core.Path.{◌≡◌, refl, sym, ap, ◌∙◌, subst}
use mathlib.Core.Bool.{Bool, true, false, true≢false, cond, ◌&&◌}
use mathlib.Core.List.{List}
use Prim.Native.Nat.{ℕ, zero, suc, ◌%◌, ◌<◌}
use native.Mathlib.Omega.{arith}
use lib.Dec.{eqb}
use lib.ListN.{length, replicate, length-replicate}
use borrow.Author.Tests.{eqb-true, eqb-false, ne_eqb}
use Rattle.model.specs.declared.Ppu.{Ppu}
use Rattle.model.specs.declared.Access.{Access}
use Rattle.model.specs.declared.Place.{Place}
use Rattle.model.specs.declared.Place.TheVariants.{Pattern, Nametable, Palette}
use Rattle.model.specs.Unit.{Cells, Memory, with_lines, State, state, line_length, colours_length, record_length, long, zero_unit, is_well_formed, is_drawing}
use Rattle.model.specs.Address.{stored, place_of, with_oam}
use Rattle.model.specs.Record.{record_ok, unit_of}
use Rattle.model.specs.Ports.{port_of, wrote_memory, wrote_video, wrote_oam_bytes}
use Rattle.model.specs.Line.{line_count}
use Rattle.model.specs.Calls.{Call, read_call, write_call, dma_call, run_call, search_call, access, made, unmade, Outcome, outcome, outcome_on, refusal, refused_access, load_call, request_ok, long_for, in_range, blocked, refusal_of, read_done, write_done, dma_done, run_done, search_done, done, packed, saved_bytes, Exported, exported, export_of}
use Rattle.model.proofs.Tests.{cond_both}
use Rattle.model.proofs.Kept.{done_num}
use Rattle.model.proofs.Good.{lent_long, lines_cells}
use Rattle.model.proofs.Accepted.{is_made, is_unmade}
use Rattle.model.proofs.Records.{refused_bytes}
use Rattle.model.proofs.Theorems.{theorems}
use Rattle.model_shared.specs.Shared.{unit_order, unit_refusal, pictures_any, unit_done, unit_call, unit_on_record, unit_export, zeroed, left, Units, by_value, by_record}
use Rattle.model_shared.specs.Sequence.{is_run}
use Rattle.model_shared.proofs.Laws.{plain_refusal_lem, unit_refused, unit_done_lem, unit_plain, done_zeroed, run_sized, run_cleared, refusal_relined}

-- a memory with zeros in its line buffers, as long as they were
abbrev pub blank : Memory → Memory
blank m = with_lines m (replicate (length m.line) 0) (replicate (length m.colours) 0)

-- what a call left of a blank memory, with the line buffers of m put back unless it ran
abbrev pub relines : Bool → Memory → Memory → Memory
relines x m a = with_lines a (cond x a.line m.line) (cond x a.colours m.colours)

-- what a call leaves of the tables and of the lengths of the line buffers
pub record Stays (m m' : Memory) : Type 0 where
  pub left : m'.cells.left ≡ m.cells.left
  pub right : m'.cells.right ≡ m.cells.right
  pub line : length m'.line ≡ length m.line
  pub colours : length m'.colours ≡ length m.colours

pub stays : (m : Memory) → Stays m m
stays m = record { left = refl; right = refl; line = refl; colours = refl }

-- the two facts on which all that follows rests
pub record Blind {A U : Type 0} (p : Units A U) : Type 0 where
  pub sees : (c : Call) (u : U) (m : Memory)
      → p.leaves c u m ≡ (let z = p.leaves c u (blank m) in left z.answer z.unit (relines (is_run c && eqb (p.number z.answer) 0) m z.memory))
  pub keeps : (c : Call) (u : U) (m : Memory) → Stays m (p.leaves c u m).memory

-- UNITS BY VALUE
abbrev pub relined : Call → Memory → Outcome → Outcome
relined c m o = outcome o.answer (state o.after.unit (relines (is_run c && eqb o.answer.number 0) m o.after.memory))

done_sees : (c : Call) (u : Ppu) (m : Memory) → unit_done c (state u m) ≡ relined c m (unit_done c (state u (blank m)))
unfolding unit_done done read_done write_done dma_done search_done
done_sees (read_call l a) u m = refl
done_sees (write_call l a b) u m = refl
done_sees (dma_call l p) u m = refl
done_sees (run_call l why n) u m =
    done_zeroed l why n (state u m)
    ∙ unfold done run_done in refl
    ∙ ap (relined (run_call l why n) m) (sym (done_zeroed l why n (state u (blank m))))
done_sees (search_call l n) u m = refl

no_run : (x : Bool) (k : ℕ) → x && eqb (suc k) 0 ≡ false
no_run true k = ne_eqb (suc k) 0 (λ (z : suc k ≡ 0). omega (arith, z))
no_run false k = refl

same_refusal : (c : Call) (u : Ppu) (m : Memory) → unit_refusal c (state u (blank m)) ≡ unit_refusal c (state u m)
same_refusal c u m =
    refusal_relined c u m (replicate (length m.line) 0) (replicate (length m.colours) 0) (length-replicate {A = ℕ} (length m.line) 0) (length-replicate {A = ℕ} (length m.colours) 0)

refused_sees : (c : Call) (u : Ppu) (m : Memory) (k : ℕ) → outcome (refusal (suc k)) (state u m) ≡ relined c m (outcome (refusal (suc k)) (state u (blank m)))
refused_sees c u m k = λ i. outcome (refusal (suc k)) (state u (relines (sym (no_run (is_run c) k) i) m (blank m)))

pub call_sees : (c : Call) (u : Ppu) (m : Memory) → unit_call c (state u m) ≡ relined c m (unit_call c (state u (blank m)))
call_sees c u m = go (unit_refusal c (state u m)) refl
  where
    go : (r : ℕ) → unit_refusal c (state u m) ≡ r → unit_call c (state u m) ≡ relined c m (unit_call c (state u (blank m)))
    go zero e =
        unit_done_lem c (state u m) 0 e refl ∙ done_sees c u m
        ∙ ap (relined c m) (sym (unit_done_lem c (state u (blank m)) 0 (same_refusal c u m ∙ e) refl))
    go (suc k) e =
        let ne : suc k ≡ 0 → ⊥ = λ (z : suc k ≡ 0). omega (arith, z) in
        unit_refused c (state u m) (suc k) e ne ∙ refused_sees c u m k
        ∙ ap (relined c m) (sym (unit_refused c (state u (blank m)) (suc k) (same_refusal c u m ∙ e) ne))

-- the tables stay where pattern memory is not writable
stored_left : (p : Place) (b : ℕ) (m : Cells) → ((stored p false b m).left ≡ m.left) × ((stored p false b m).right ≡ m.right)
unfolding stored
stored_left (Pattern right at) b m = (refl, refl)
stored_left (Nametable at) b m = (refl, refl)
stored_left (Palette at) b m = (refl, refl)

abbrev Tables : Cells → Cells → Type 0
Tables m m' = (m'.left ≡ m.left) × (m'.right ≡ m.right)

write_tables : (p b : ℕ) (u : Ppu) (m : Cells) → u.board.writable ≡ false → Tables m (wrote_memory p u b m)
unfolding wrote_memory wrote_video
write_tables p b u m e =
    let t : Tables m (stored (place_of u.board u.v) u.board.writable b m) =
    subst (λ (w : Bool). Tables m (stored (place_of u.board u.v) w b m)) (sym e) (stored_left (place_of u.board u.v) b m)
    in
    cond_both (λ (z : Cells). Tables m (with_oam z (wrote_oam_bytes p u b m.oam))) (eqb p 7) (stored (place_of u.board u.v) u.board.writable b m) m (t.0, t.1) (refl, refl)

done_tables : (c : Call) (s : State) → s.unit.board.writable ≡ false → Tables s.memory.cells (done c s).after.memory.cells
unfolding done read_done write_done dma_done run_done search_done
done_tables (read_call l a) s e = (refl, refl)
done_tables (write_call l a b) s e = write_tables (port_of a) b s.unit s.memory.cells e
done_tables (dma_call l p) s e = (refl, refl)
done_tables (run_call l why n) s e = subst (Tables s.memory.cells) (sym (lines_cells (line_count why n s) s)) (refl, refl)
done_tables (search_call l n) s e = (refl, refl)

order_kept : (a w x f r s : Bool) → unit_order a w x f r s ≡ 0 → x ≡ false
unfolding unit_order
order_kept true true true f r s e = absurd (omega (arith, e))
order_kept true true false f r s e = refl
order_kept true false x f r s e = absurd (omega (arith, e))
order_kept false w x f r s e = absurd (omega (arith, e))

pub not_writable : (c : Call) (s : State) → unit_refusal c s ≡ 0 → s.unit.board.writable ≡ false
unfolding unit_refusal
not_writable c s e = order_kept (request_ok c) (is_well_formed s.unit) s.unit.board.writable (long_for c s.unit s.memory) (in_range c) (is_drawing s.unit && blocked c) e

plain_lines : (c : Call) (s : State) → s.unit.board.writable ≡ false → is_run c ≡ false → (length (unit_call c s).after.memory.line ≡ length s.memory.line) × (length (unit_call c s).after.memory.colours ≡ length s.memory.colours)
plain_lines c s w r =
    let l = lent_long c s in
    let e = unit_plain c s r w in
    (ap (λ (o : Outcome). length o.after.memory.line) e ∙ l.line, ap (λ (o : Outcome). length o.after.memory.colours) e ∙ l.colours)

-- an accepted call leaves the tables as the plain one, and line buffers of the same lengths
same_cells : (c : Call) (s : State) → (unit_done c s).after.memory.cells ≡ (done c s).after.memory.cells
unfolding unit_done
same_cells (read_call l a) s = refl
same_cells (write_call l a b) s = refl
same_cells (dma_call l p) s = refl
same_cells (run_call l why n) s =
    let o : Outcome = done (run_call l why n) s in
    cond_both (λ (x : Outcome). x.after.memory.cells ≡ o.after.memory.cells) (pictures_any (line_count why n s) s) o (outcome o.answer (state o.after.unit (zeroed o.after.memory))) refl refl
same_cells (search_call l n) s = refl

abbrev SameLines : Memory → Memory → Type 0
SameLines m m' = (length m'.line ≡ length m.line) × (length m'.colours ≡ length m.colours)

same_lines : (c : Call) (s : State) → s.unit.board.writable ≡ false → refusal_of c s ≡ 0 → SameLines s.memory (unit_call c s).after.memory
same_lines (run_call l why n) s w e =
    let sized = run_sized l why n s e in
    let long = lent_long (run_call l why n) (state s.unit (zeroed s.memory)) in
    subst (λ (o : Outcome). SameLines s.memory o.after.memory) (run_cleared l why n s.unit s.memory w e)
    (long.line ∙ length-replicate {A = ℕ} line_length 0 ∙ sym sized.0, long.colours ∙ length-replicate {A = ℕ} colours_length 0 ∙ sym sized.1)
same_lines (read_call l a) s w e = plain_lines (read_call l a) s w refl
same_lines (write_call l a b) s w e = plain_lines (write_call l a b) s w refl
same_lines (dma_call l p) s w e = plain_lines (dma_call l p) s w refl
same_lines (search_call l n) s w e = plain_lines (search_call l n) s w refl

pub call_keeps : (c : Call) (u : Ppu) (m : Memory) → Stays m (unit_call c (state u m)).after.memory
call_keeps c u m = go (unit_refusal c (state u m)) refl
  where
    go : (r : ℕ) → unit_refusal c (state u m) ≡ r → Stays m (unit_call c (state u m)).after.memory
    go zero e =
        let s : State = state u m in
        let w : u.board.writable ≡ false = not_writable c s e in
        let l = same_lines c s w (sym (plain_refusal_lem c s w) ∙ e) in
        let t : Tables m.cells (unit_call c s).after.memory.cells =
        subst (Tables m.cells) (sym (ap (λ (o : Outcome). o.after.memory.cells) (unit_done_lem c s 0 e refl) ∙ same_cells c s)) (done_tables c s w)
        in
        record { left = t.0; right = t.1; line = l.0; colours = l.1 }
    go (suc k) e = subst (λ (o : Outcome). Stays m o.after.memory) (sym (unit_refused c (state u m) (suc k) e (λ (z : suc k ≡ 0). omega (arith, z)))) (stays m)

pub value_blind : Blind by_value
value_blind = record { sees = λ c u m. ap (λ (o : Outcome). left o.answer o.after.unit o.after.memory) (call_sees c u m); keeps = call_keeps }

-- UNITS AS RECORDS: a refused record, or the call on its unit
pub on_record_sees : (c : Call) (l : List ℕ) (m : Memory) → unit_on_record c l m ≡ relined c m (unit_on_record c l (blank m))
unfolding unit_on_record
on_record_sees c l m = go (request_ok c) (load_call l) (eqb (load_call l).answer.number 0) refl
  where
    back : (n : ℕ) → eqb n 0 ≡ false → is_run c && eqb n 0 ≡ false
    back n e = rw e (none (is_run c))
      where
        none : (x : Bool) → x && false ≡ false
        none true = refl
        none false = refl

    refused : (x : Access) → eqb x.answer.number 0 ≡ false → outcome_on x m ≡ relined c m (outcome_on x (blank m))
    refused x e = λ i. outcome x.answer (state x.unit (relines (sym (back x.answer.number e) i) m (blank m)))

    go : (a : Bool) (x : Access) (b : Bool) → eqb x.answer.number 0 ≡ b
        → cond a (cond b (unit_call c (state x.unit m)) (outcome_on x m)) (outcome_on (refused_access 5 x.unit) m)
        ≡ relined c m (cond a (cond b (unit_call c (state x.unit (blank m))) (outcome_on x (blank m))) (outcome_on (refused_access 5 x.unit) (blank m)))
    go true x true e = call_sees c x.unit m
    go true x false e = refused x e
    go false x b e = refused (refused_access 5 x.unit) refl

on_record_keeps : (c : Call) (l : List ℕ) (m : Memory) → Stays m (unit_on_record c l m).after.memory
unfolding unit_on_record
on_record_keeps c l m =
    let x : Access = load_call l in
    let P : Outcome → Type 0 = λ o. Stays m o.after.memory in
    cond_both P (request_ok c) _ (outcome_on (refused_access 5 x.unit) m)
    (cond_both P (eqb x.answer.number 0) (unit_call c (state x.unit m)) (outcome_on x m) (call_keeps c x.unit m) (stays m)) (stays m)

-- the number of a packed answer
order_small : (a w x f r s : Bool) → unit_order a w x f r s < 256
unfolding unit_order
order_small true true true f r s = omega arith
order_small true true false true true true = omega arith
order_small true true false true true false = omega arith
order_small true true false true false s = omega arith
order_small true true false false r s = omega arith
order_small true false x f r s = omega arith
order_small false w x f r s = omega arith

done_number : (c : Call) (s : State) → (unit_done c s).answer.number ≡ 0
unfolding unit_done
done_number (read_call l a) s = done_num (read_call l a) s
done_number (write_call l a b) s = done_num (write_call l a b) s
done_number (dma_call l p) s = done_num (dma_call l p) s
done_number (run_call l why n) s =
    let o : Outcome = done (run_call l why n) s in
    cond_both (λ (x : Outcome). x.answer.number ≡ 0) (pictures_any (line_count why n s) s) o (outcome o.answer (state o.after.unit (zeroed o.after.memory))) (done_num (run_call l why n) s) (done_num (run_call l why n) s)
done_number (search_call l n) s = done_num (search_call l n) s

pub unit_number : (c : Call) (s : State) → (unit_call c s).answer.number ≡ unit_refusal c s
unit_number c s = go (unit_refusal c s) refl
  where
    go : (r : ℕ) → unit_refusal c s ≡ r → (unit_call c s).answer.number ≡ r
    go zero e = ap (λ (o : Outcome). o.answer.number) (unit_done_lem c s 0 e refl) ∙ done_number c s
    go (suc k) e = ap (λ (o : Outcome). o.answer.number) (unit_refused c s (suc k) e (λ (z : suc k ≡ 0). omega (arith, z)))

load_small : (l : List ℕ) → (load_call l).answer.number < 256
unfolding load_call
load_small l =
    let P : Access → Type 0 = λ x. x.answer.number < 256 in
    cond_both P (long l record_length) _ (unmade 2) (cond_both P (record_ok l) (made (unit_of l)) (unmade 3) (omega arith) (omega arith)) (omega arith)

number_small : (c : Call) (l : List ℕ) (m : Memory) → (unit_on_record c l m).answer.number < 256
unfolding unit_on_record unit_refusal
number_small c l m =
    let x : Access = load_call l in
    let P : Outcome → Type 0 = λ o. o.answer.number < 256 in
    cond_both P (request_ok c) _ (outcome_on (refused_access 5 x.unit) m)
    (cond_both P (eqb x.answer.number 0) (unit_call c (state x.unit m)) (outcome_on x m)
    (subst (λ (n : ℕ). n < 256) (sym (unit_number c (state x.unit m))) (order_small _ _ _ _ _ _)) (load_small l)) (omega arith)

pub export_number : (c : Call) (l : List ℕ) (m : Memory) → (unit_export c l m).result % 256 ≡ (unit_on_record c l m).answer.number
unfolding unit_export
export_number c l m = (theorems.packed_parts (unit_on_record c l m).answer).number_at_lem (number_small c l m)

record_sees : (c : Call) (l : List ℕ) (m : Memory)
    → by_record.leaves c l m ≡ (let z = by_record.leaves c l (blank m) in left z.answer z.unit (relines (is_run c && eqb (by_record.number z.answer) 0) m z.memory))
unfolding unit_export
record_sees c l m =
    let o : Outcome = unit_on_record c l (blank m) in
    let same : packed o.answer % 256 ≡ o.answer.number = export_number c l (blank m) in
    (λ i. let z : Exported = export_of l (on_record_sees c l m i) in left z.result z.bytes z.memory)
    ∙ (λ i. left (packed o.answer) (saved_bytes (access o.answer o.after.unit) l) (relines (is_run c && eqb (sym same i) 0) m o.after.memory))

pub record_blind : Blind by_record
unfolding unit_export
record_blind = record { sees = record_sees; keeps = on_record_keeps }

-- A REFUSED CALL on a record changes nothing, and its packed answer is its number
pub unit_still : (c : Call) (s : State) → ((unit_call c s).answer.number ≡ 0 → ⊥) → unit_call c s ≡ outcome (refusal (unit_call c s).answer.number) s
unit_still c s h = unit_refused c s (unit_call c s).answer.number (sym (unit_number c s)) h

export_still : (l : List ℕ) (m : Memory) (u : Ppu) (n : ℕ) → (n ≡ 0 → ⊥) → export_of l (outcome (refusal n) (state u m)) ≡ exported n l m
export_still l m u n h =
    let e : packed (refusal n) ≡ n = omega arith in
    (λ i. exported (e i) (refused_bytes (refused_access n u) l h i) m)

pub unit_export_refused : (c : Call) (l : List ℕ) (m : Memory) → ((unit_on_record c l m).answer.number ≡ 0 → ⊥) → unit_export c l m ≡ exported (unit_on_record c l m).answer.number l m
unfolding unit_export unit_on_record
unit_export_refused c l m = go (request_ok c) (eqb (load_call l).answer.number 0) refl
  where
    go : (a b : Bool) → eqb (load_call l).answer.number 0 ≡ b
        → (let o : Outcome = cond a (cond b (unit_call c (state (load_call l).unit m)) (outcome_on (load_call l) m)) (outcome_on (refused_access 5 (load_call l).unit) m) in (o.answer.number ≡ 0 → ⊥) → export_of l o ≡ exported o.answer.number l m)
    go true true e h = ap (export_of l) (unit_still c (state (load_call l).unit m) h) ∙ export_still l m (load_call l).unit (unit_call c (state (load_call l).unit m)).answer.number h
    go true false e h =
        let x = is_unmade l (load_call l).answer.number refl (eqb-false (load_call l).answer.number 0 e) in
        (λ i. export_of l (outcome_on (x i) m)) ∙ export_still l m zero_unit (load_call l).answer.number h
    go false b e h = export_still l m (load_call l).unit 5 h

-- a record with a writable board is refused
pub writable_number : (c : Call) (l : List ℕ) (m : Memory) → (unit_of l).board.writable ≡ true → (unit_on_record c l m).answer.number ≡ 0 → ⊥
unfolding unit_on_record
writable_number c l m w = go (request_ok c) (eqb (load_call l).answer.number 0) refl
  where
    go : (a b : Bool) → eqb (load_call l).answer.number 0 ≡ b
        → (cond a (cond b (unit_call c (state (load_call l).unit m)) (outcome_on (load_call l) m)) (outcome_on (refused_access 5 (load_call l).unit) m)).answer.number ≡ 0 → ⊥
    go true true e z =
        let x : (load_call l).unit ≡ unit_of l = ap (λ (y : Access). y.unit) (is_made l (load_call l).answer.number refl (eqb-true (load_call l).answer.number 0 e)) in
        let f : (unit_of l).board.writable ≡ false = ap (λ (u : Ppu). u.board.writable) (sym x) ∙ not_writable c (state (load_call l).unit m) (sym (unit_number c (state (load_call l).unit m)) ∙ z) in
        true≢false (sym w ∙ f)
    go true false e z = eqb-false (load_call l).answer.number 0 e z
    go false b e z = absurd (omega (arith, z))
