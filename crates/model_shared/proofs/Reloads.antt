-- Demand 3 for each unit by itself, the other's calls taken out.
use mathlib.Core.Path.{◌≡◌, refl, sym, ap, ◌∙◌, subst}
use mathlib.Core.Bool.{Bool, true, false, cond}
use mathlib.Core.List.{List, [], ◌∷◌, ◌++◌}
use Prim.Native.Nat.{ℕ, zero, suc, ◌<◌}
use native.Mathlib.Omega.{arith}
use lib.Dec.{eqb}
use lib.ListN.{length, replicate, length-replicate}
use borrow.Author.Tests.{eqb-true, eqb-false}
use Rattle.model.specs.declared.Board.{Board}
use Rattle.model.specs.declared.Ppu.{Ppu}
use Rattle.model.specs.declared.Answer.{Answer}
use Rattle.model.specs.declared.Access.{Access}
use Rattle.model.specs.Unit.{Memory, with_lines, State, state, line_length, colours_length, record_length, long, is_well_formed}
use Rattle.model.specs.Record.{unit_of, record_of}
use Rattle.model.specs.Line.{lines_run, line_count}
use Rattle.model.specs.Calls.{Lent, own, other, Call, read_call, write_call, dma_call, run_call, search_call, access, Outcome, outcome, outcome_on, refusal, refused_access, load_call, request_ok, refusal_of, done, on_lent, lent_of, lent_memory, own_memory, call, saved_bytes, export_of, on_record, exported_call}
use Rattle.model.specs.Reload.{end, end_of, plain, data_call, Places, Bytes, reload, without, PairOf, Pair, Held, Needed}
use Rattle.model.specs.RecordLog.{RecordState, record_state, record_call, record_system, RecordPairOf, RecordPair, RecordNeeded}
use Rattle.model.proofs.Tests.{cond_both}
use Rattle.model.proofs.Accepted.{is_done, is_made}
use Rattle.model.proofs.Record.{unit_record_unit}
use Rattle.model.proofs.Good.{lent_board, lent_long}
use Rattle.model.proofs.Records.{refused_bytes}
use Rattle.model.proofs.Reloaded.{own_same as own_back}
use Rattle.model.proofs.Theorems.{theorems}
use Rattle.model_shared.specs.Shared.{owned, Machine, machine, own_of, memory_of, unit_refusal, pictures_any, zeroed, unit_done, unit_call, unit_on_record, unit_export, Units, by_value, by_record}
use Rattle.model_shared.specs.Sequence.{Entry, left_of, own_after, Shown, shown_of, after_all, shown_to, calls_of, all_by, state_of, unit_given, alone, record_state_of, unit_record_call, alone_record, SharedNeeded, SharedRecordNeeded}
use Rattle.model_shared.specs.Theorems.{SharedReload}
use Rattle.model_shared.proofs.Lines.{lines_relined}
use Rattle.model_shared.proofs.Laws.{writable_refusal, plain_refusal_lem, unit_refused, unit_done_lem, unit_is, unit_plain, run_sized}
use Rattle.model_shared.proofs.Seen.{blank, Blind, value_blind, record_blind, on_record_sees, unit_export_refused, writable_number}
use Rattle.model_shared.proofs.Alone.{calls_all, shown_same, own_same, unit_same, unit_end, memory_end, Near, ends, near_own, common, whatever}
use Rattle.model_shared.proofs.Follows.{Following, follow_ends, follow_totals, follow_quiet}

-- ONE UNIT'S CALL AND THE PLAIN ONE, on a board that is not writable: alike but for what the line buffers hold
pub record LikeOut (o o' : Outcome) : Type 0 where
  pub answer : o.answer ≡ o'.answer
  pub unit : o.after.unit ≡ o'.after.unit
  pub memory : blank o.after.memory ≡ blank o'.after.memory

like_same : {o o' : Outcome} → o ≡ o' → LikeOut o o'
like_same e = record { answer = ap (λ (x : Outcome). x.answer) e; unit = ap (λ (x : Outcome). x.after.unit) e; memory = ap (λ (x : Outcome). blank x.after.memory) e }

like_run : (l : Lent) (why n : ℕ) (s : State) → s.unit.board.writable ≡ false → LikeOut (on_lent (run_call l why n) s) (unit_call (run_call l why n) s)
unfolding unit_done
like_run l why n s w = go (refusal_of (run_call l why n) s) refl
  where
    done_like : refusal_of (run_call l why n) s ≡ 0 → LikeOut (done (run_call l why n) s) (unit_done (run_call l why n) s)
    done_like e =
        let c : Call = run_call l why n in
        let o : Outcome = done c s in
        let z = run_sized l why n s e in
        let d : done c s ≡ on_lent c s = is_done c s 0 (sym e) refl in
        let b : length o.after.memory.line ≡ length (replicate {A = ℕ} line_length 0) =
        ap (λ (x : Outcome). length x.after.memory.line) d ∙ (lent_long c s).line ∙ z.0 ∙ sym (length-replicate {A = ℕ} line_length 0)
        in
        let f : length o.after.memory.colours ≡ length (replicate {A = ℕ} colours_length 0) =
        ap (λ (x : Outcome). length x.after.memory.colours) d ∙ (lent_long c s).colours ∙ z.1 ∙ sym (length-replicate {A = ℕ} colours_length 0)
        in
        cond_both (LikeOut o) (pictures_any (line_count why n s) s) o (outcome o.answer (state o.after.unit (zeroed o.after.memory))) (like_same refl)
        (record { answer = refl; unit = refl; memory = λ i. with_lines o.after.memory (replicate (b i) 0) (replicate (f i) 0) })

    go : (r : ℕ) → refusal_of (run_call l why n) s ≡ r → LikeOut (on_lent (run_call l why n) s) (unit_call (run_call l why n) s)
    go zero e =
        subst (λ (x : Outcome). LikeOut x (unit_call (run_call l why n) s)) (is_done (run_call l why n) s 0 (sym e) refl)
        (subst (LikeOut (done (run_call l why n) s)) (sym (unit_done_lem (run_call l why n) s 0 (plain_refusal_lem (run_call l why n) s w ∙ e) refl)) (done_like e))
    go (suc k) e =
        like_same (sym (unit_is (run_call l why n) s w (λ (z : refusal_of (run_call l why n) s ≡ 0). let q : suc k ≡ 0 = sym e ∙ z in absurd (omega (arith, q)))))

pub like : (c : Call) (s : State) → s.unit.board.writable ≡ false → LikeOut (on_lent c s) (unit_call c s)
like (read_call l a) s w = like_same (sym (unit_plain (read_call l a) s refl w))
like (write_call l a b) s w = like_same (sym (unit_plain (write_call l a b) s refl w))
like (dma_call l p) s w = like_same (sym (unit_plain (dma_call l p) s refl w))
like (run_call l why n) s w = like_run l why n s w
like (search_call l n) s w = like_same (sym (unit_plain (search_call l n) s refl w))

own_blank : (l : Lent) (m a b : Memory) → blank a ≡ blank b → blank (own_memory l m a) ≡ blank (own_memory l m b)
own_blank own m a b e = e
own_blank (other y) m a b e = refl

lent_blank : (l : Lent) (m m' : Memory) → blank m ≡ blank m' → blank (lent_memory l m) ≡ blank (lent_memory l m')
lent_blank own m m' e = e
lent_blank (other y) m m' e = refl

-- lines do not see them
lines_unit : (j : ℕ) (u : Ppu) (m m' : Memory) → blank m ≡ blank m' → (lines_run j (state u m)).unit ≡ (lines_run j (state u m')).unit
lines_unit j u m m' e =
    let side : (n : Memory) → (lines_run j (state u n)).unit ≡ (lines_run j (state u (blank n))).unit = λ n. ap (λ (s : State). s.unit) (lines_relined j (state u (blank n)) n.line n.colours) in
    side m ∙ (λ i. (lines_run j (state u (e i))).unit) ∙ sym (side m')

-- UNITS BY VALUE
record Like (s t : State) : Type 0 where
  unit : s.unit ≡ t.unit
  memory : blank s.memory ≡ blank t.memory
  kept : s.unit.board.writable ≡ false

like_next : (c : Call) (s t : State) → Like s t → Like (call c s).after (unit_given c t).after
unfolding call unit_given
like_next c s t r =
    let l : Lent = lent_of c in
    let a = like c (state s.unit (lent_memory l s.memory)) r.kept in
    record {
      unit = a.unit ∙ unit_same by_value value_blind c s.unit s.memory t.memory r.memory ∙ ap (λ (u : Ppu). (left_of by_value c u t.memory).unit) r.unit;
      memory = own_blank l s.memory _ _ a.memory ∙ own_same by_value value_blind c s.unit s.memory t.memory r.memory ∙ ap (λ (u : Ppu). blank (own_after by_value c u t.memory)) r.unit;
      kept = ap (λ (d : Board). d.writable) (lent_board c (state s.unit (lent_memory l s.memory))) ∙ r.kept;
    }

like_reply : (c : Call) (s t : State) → Like s t → (call c s).answer ≡ (unit_given c t).answer
unfolding call unit_given shown_of
like_reply c s t r =
    (like c (state s.unit (lent_memory (lent_of c) s.memory)) r.kept).answer
    ∙ ap (λ (x : Shown Answer Ppu). x.answer) (shown_same by_value value_blind c s.unit s.memory t.memory r.memory)
    ∙ ap (λ (u : Ppu). (left_of by_value c u t.memory).answer) r.unit

like_lends : (c : Call) (s t : State) → Like s t → (j : ℕ) → (lines_run j (state s.unit (lent_memory (lent_of c) s.memory))).unit ≡ (lines_run j (state t.unit (lent_memory (lent_of c) t.memory))).unit
like_lends c s t r j =
    lines_unit j s.unit (lent_memory (lent_of c) s.memory) (lent_memory (lent_of c) t.memory) (lent_blank (lent_of c) s.memory t.memory r.memory)
    ∙ ap (λ (u : Ppu). (lines_run j (state u (lent_memory (lent_of c) t.memory))).unit) r.unit

forth : Following plain alone Like
forth = record { next = like_next; reply = like_reply; lends = like_lends; rests = λ s t r. r.unit }

back : Following alone plain (λ s t. Like t s)
back = record { next = λ c s t r. like_next c t s r; reply = λ c s t r. sym (like_reply c t s r); lends = λ c s t r j. sym (like_lends c t s r j); rests = λ s t r. sym r.unit }

-- two logs for the one are two for the other
itself : (s : State) → s.unit.board.writable ≡ false → Like s s
itself s w = record { unit = refl; memory = refl; kept = w }

to_plain : (s : State) (la lb : List Call) → s.unit.board.writable ≡ false → PairOf alone data_call s la lb → Pair data_call s la lb
to_plain s la lb w p =
    let r = itself s w in
    record {
      warm = p.warm;
      lengths = p.lengths;
      quiet_a = follow_quiet alone plain (λ s t. Like t s) back data_call la s s r p.quiet_a;
      quiet_b = follow_quiet alone plain (λ s t. Like t s) back data_call lb s s r p.quiet_b;
      lines_run_lem = sym (follow_totals alone plain (λ s t. Like t s) back la s s r) ∙ p.lines_run_lem ∙ follow_totals alone plain (λ s t. Like t s) back lb s s r;
    }

to_alone : (s : State) (la lb : List Call) → s.unit.board.writable ≡ false → Pair data_call s la lb → PairOf alone data_call s la lb
to_alone s la lb w p =
    let r = itself s w in
    record {
      warm = p.warm;
      lengths = p.lengths;
      quiet_a = follow_quiet plain alone Like forth data_call la s s r p.quiet_a;
      quiet_b = follow_quiet plain alone Like forth data_call lb s s r p.quiet_b;
      lines_run_lem = sym (follow_totals plain alone Like forth la s s r) ∙ p.lines_run_lem ∙ follow_totals plain alone Like forth lb s s r;
    }

ends_like : (cs ds : List Call) (s : State) → s.unit.board.writable ≡ false → Like (end ds (end cs s)) (end_of alone ds (end_of alone cs s))
ends_like cs ds s w = follow_ends plain alone Like forth ds (end cs s) (end_of alone cs s) (follow_ends plain alone Like forth cs s s (itself s w))

-- with a writable board every call is refused, and all stays
not_none : (c : Call) (s : State) → cond (request_ok c) (cond {A = ℕ} (is_well_formed s.unit) 6 3) 5 ≡ 0 → ⊥
not_none c s = go (request_ok c) (is_well_formed s.unit)
  where
    go : (a w : Bool) → cond a (cond {A = ℕ} w 6 3) 5 ≡ 0 → ⊥
    go true true z = omega (arith, z)
    go true false z = omega (arith, z)
    go false w z = omega (arith, z)

pub writable_stays : (c : Call) (s : State) → s.unit.board.writable ≡ true → unit_call c s ≡ outcome (refusal (unit_refusal c s)) s
writable_stays c s w = unit_refused c s (unit_refusal c s) refl (λ (z : unit_refusal c s ≡ 0). not_none c s (sym (writable_refusal c s w) ∙ z))

stuck : (cs : List Call) (s : State) → s.unit.board.writable ≡ true → end_of alone cs s ≡ s
unfolding end_of unit_given
stuck [] s w = refl
stuck (c ∷ cs) s w =
    let t : State = state s.unit (lent_memory (lent_of c) s.memory) in
    (λ i. let o : Outcome = writable_stays c t w i in end_of alone cs (state o.after.unit (own_memory (lent_of c) s.memory o.after.memory)))
    ∙ (λ i. end_of alone cs (state s.unit (own_back (lent_of c) s.memory i)))
    ∙ stuck cs s w

-- DEMAND 3 for one unit
abbrev Ends : State → State → Type 0
Ends s t = (s.unit ≡ t.unit) × (blank s.memory ≡ blank t.memory)

unit_reload : (s : State) (la lb : List Call) → PairOf alone data_call s la lb → (pa pb : Places) (b : Bytes)
    → Ends (end_of alone (reload pa b) (end_of alone la s)) (end_of alone (reload pb b) (end_of alone lb s))
unit_reload s la lb p pa pb b = go s.unit.board.writable refl
  where
    go : (x : Bool) → s.unit.board.writable ≡ x → Ends (end_of alone (reload pa b) (end_of alone la s)) (end_of alone (reload pb b) (end_of alone lb s))
    go true w =
        let f : (cs ds : List Call) → end_of alone ds (end_of alone cs s) ≡ s = λ cs ds. ap (end_of alone ds) (stuck cs s w) ∙ stuck ds s w in
        let e : end_of alone (reload pa b) (end_of alone la s) ≡ end_of alone (reload pb b) (end_of alone lb s) = f la (reload pa b) ∙ sym (f lb (reload pb b)) in
        (ap (λ (t : State). t.unit) e, ap (λ (t : State). blank t.memory) e)
    go false w =
        let d = theorems.reload_theorem.demand3 s la lb (to_plain s la lb w p) pa pb b in
        let x = ends_like la (reload pa b) s w in
        let y = ends_like lb (reload pb b) s w in
        (sym x.unit ∙ d.units ∙ y.unit, sym x.memory ∙ ap blank d.memories ∙ y.memory)

-- ON THE MACHINE
end_is : (cs : List Call) (u : Ppu) (m : Memory) → end_of alone cs (state u m) ≡ state (unit_end by_value value_blind cs u m) (memory_end by_value value_blind cs u m)
unfolding end_of unit_given unit_end memory_end
end_is [] u m = refl
end_is (c ∷ cs) u m = end_is cs (left_of by_value c u m).unit (own_after by_value c u m)

joined_alone : (a b : List Call) (s : State) → end_of alone (a ++ b) s ≡ end_of alone b (end_of alone a s)
unfolding end_of
joined_alone [] b s = refl
joined_alone (c ∷ a) b s = joined_alone a b (unit_given c s).after

-- UNITS AS RECORDS
like_record : (c : Call) (l : List ℕ) (m : Memory) → (unit_of l).board.writable ≡ false → LikeOut (on_record c l m) (unit_on_record c l m)
unfolding on_record unit_on_record
like_record c l m w = go (request_ok c) (eqb (load_call l).answer.number 0) refl
  where
    go : (a b : Bool) → eqb (load_call l).answer.number 0 ≡ b
        → LikeOut (cond a (cond b (on_lent c (state (load_call l).unit m)) (outcome_on (load_call l) m)) (outcome_on (refused_access 5 (load_call l).unit) m))
        (cond a (cond b (unit_call c (state (load_call l).unit m)) (outcome_on (load_call l) m)) (outcome_on (refused_access 5 (load_call l).unit) m))
    go true true e =
        let x : (load_call l).unit ≡ unit_of l = ap (λ (y : Access). y.unit) (is_made l (load_call l).answer.number refl (eqb-true (load_call l).answer.number 0 e)) in
        like c (state (load_call l).unit m) (ap (λ (u : Ppu). u.board.writable) x ∙ w)
    go true false e = like_same refl
    go false b e = like_same refl

-- the board of a record stays
record_board : (c : Call) (l : List ℕ) (m : Memory) → (unit_of (exported_call c l m).bytes).board ≡ (unit_of l).board
unfolding exported_call on_record
record_board c l m = go (request_ok c) (eqb (load_call l).answer.number 0) refl
  where
    P : Outcome → Type 0
    P o = (unit_of (export_of l o).bytes).board ≡ (unit_of l).board

    same : (o : Outcome) → o.after.unit.board ≡ (unit_of l).board → (unit_of (export_of l o).bytes).board ≡ (unit_of l).board
    same o e =
        unfold saved_bytes in
        cond_both (λ (b : List ℕ). (unit_of b).board ≡ (unit_of l).board) (long l record_length) _ l
        (cond_both (λ (b : List ℕ). (unit_of b).board ≡ (unit_of l).board) (eqb o.answer.number 0) (record_of o.after.unit) l (ap (λ (u : Ppu). u.board) (unit_record_unit o.after.unit) ∙ e) refl) refl

    kept : (x : Access) → (x.answer.number ≡ 0 → ⊥) → (unit_of (export_of l (outcome_on x m)).bytes).board ≡ (unit_of l).board
    kept x h = ap (λ (b : List ℕ). (unit_of b).board) (refused_bytes x l h)

    go : (a b : Bool) → eqb (load_call l).answer.number 0 ≡ b
        → (unit_of (export_of l (cond a (cond b (on_lent c (state (load_call l).unit m)) (outcome_on (load_call l) m)) (outcome_on (refused_access 5 (load_call l).unit) m))).bytes).board ≡ (unit_of l).board
    go true true e =
        let x : (load_call l).unit ≡ unit_of l = ap (λ (y : Access). y.unit) (is_made l (load_call l).answer.number refl (eqb-true (load_call l).answer.number 0 e)) in
        same (on_lent c (state (load_call l).unit m)) (lent_board c (state (load_call l).unit m) ∙ ap (λ (u : Ppu). u.board) x)
    go true false e = kept (load_call l) (eqb-false (load_call l).answer.number 0 e)
    go false b e = kept (refused_access 5 (load_call l).unit) (λ (z : 5 ≡ 0). omega (arith, z))

record RecordLike (s t : RecordState) : Type 0 where
  bytes : s.bytes ≡ t.bytes
  memory : blank s.memory ≡ blank t.memory
  kept : (unit_of s.bytes).board.writable ≡ false

record_next : (c : Call) (s t : RecordState) → RecordLike s t → RecordLike (record_call c s).after (unit_record_call c t).after
unfolding record_call unit_record_call
record_next c s t r =
    let l : Lent = lent_of c in
    let a = like_record c s.bytes (lent_memory l s.memory) r.kept in
    record {
      bytes = unfold exported_call unit_export in
          (λ i. saved_bytes (access (a.answer i) (a.unit i)) s.bytes)
          ∙ unit_same by_record record_blind c s.bytes s.memory t.memory r.memory ∙ ap (λ (b : List ℕ). (left_of by_record c b t.memory).unit) r.bytes;
      memory = unfold exported_call unit_export in
          own_blank l s.memory _ _ a.memory ∙ own_same by_record record_blind c s.bytes s.memory t.memory r.memory ∙ ap (λ (b : List ℕ). blank (own_after by_record c b t.memory)) r.bytes;
      kept = ap (λ (d : Board). d.writable) (record_board c s.bytes (lent_memory l s.memory)) ∙ r.kept;
    }

-- what an exported call answers does not hang on the line buffers
on_record_blind : (c : Call) (l : List ℕ) (m m' : Memory) → blank m ≡ blank m' → (unit_on_record c l m).answer ≡ (unit_on_record c l m').answer
on_record_blind c l m m' e = ap (λ (o : Outcome). o.answer) (on_record_sees c l m) ∙ (λ i. (unit_on_record c l (e i)).answer) ∙ sym (ap (λ (o : Outcome). o.answer) (on_record_sees c l m'))

record_reply : (c : Call) (s t : RecordState) → RecordLike s t → record_system.reply c s ≡ alone_record.reply c t
record_reply c s t r =
    (like_record c s.bytes (lent_memory (lent_of c) s.memory) r.kept).answer
    ∙ on_record_blind c s.bytes _ _ (lent_blank (lent_of c) s.memory t.memory r.memory)
    ∙ ap (λ (b : List ℕ). (unit_on_record c b (lent_memory (lent_of c) t.memory)).answer) r.bytes

record_lends : (c : Call) (s t : RecordState) → RecordLike s t → (j : ℕ) → (lines_run j (record_system.lends c s)).unit ≡ (lines_run j (alone_record.lends c t)).unit
record_lends c s t r j =
    lines_unit j (unit_of s.bytes) (lent_memory (lent_of c) s.memory) (lent_memory (lent_of c) t.memory) (lent_blank (lent_of c) s.memory t.memory r.memory)
    ∙ ap (λ (b : List ℕ). (lines_run j (state (unit_of b) (lent_memory (lent_of c) t.memory))).unit) r.bytes

record_forth : Following record_system alone_record RecordLike
record_forth = record { next = record_next; reply = record_reply; lends = record_lends; rests = λ s t r. ap unit_of r.bytes }

record_back : Following alone_record record_system (λ s t. RecordLike t s)
record_back =
    record { next = λ c s t r. record_next c t s r; reply = λ c s t r. sym (record_reply c t s r); lends = λ c s t r j. sym (record_lends c t s r j); rests = λ s t r. ap unit_of (sym r.bytes) }

record_itself : (s : RecordState) → (unit_of s.bytes).board.writable ≡ false → RecordLike s s
record_itself s w = record { bytes = refl; memory = refl; kept = w }

-- with a writable board, or a record that is refused, all stays
record_stuck : (c : Call) (s : RecordState) → (unit_of s.bytes).board.writable ≡ true → (unit_record_call c s).after ≡ s
unfolding unit_record_call
record_stuck c s w =
    let m : Memory = lent_memory (lent_of c) s.memory in
    let e = unit_export_refused c s.bytes m (writable_number c s.bytes m w) in
    (λ i. record_state (e i).bytes (own_memory (lent_of c) s.memory (e i).memory)) ∙ (λ i. record_state s.bytes (own_back (lent_of c) s.memory i))

records_stuck : (cs : List Call) (s : RecordState) → (unit_of s.bytes).board.writable ≡ true → end_of alone_record cs s ≡ s
unfolding end_of
records_stuck [] s w = refl
records_stuck (c ∷ cs) s w = ap (end_of alone_record cs) (record_stuck c s w) ∙ records_stuck cs s w

abbrev RecordEnds : RecordState → RecordState → Type 0
RecordEnds s t = (s.bytes ≡ t.bytes) × (blank s.memory ≡ blank t.memory)

record_reload : (s : RecordState) (la lb : List Call) → RecordPairOf alone_record s la lb → (pa pb : Places) (b : Bytes)
    → RecordEnds (end_of alone_record (reload pa b) (end_of alone_record la s)) (end_of alone_record (reload pb b) (end_of alone_record lb s))
record_reload s la lb p pa pb b = go (unit_of s.bytes).board.writable refl
  where
    go : (x : Bool) → (unit_of s.bytes).board.writable ≡ x
        → RecordEnds (end_of alone_record (reload pa b) (end_of alone_record la s)) (end_of alone_record (reload pb b) (end_of alone_record lb s))
    go true w =
        let f : (cs ds : List Call) → end_of alone_record ds (end_of alone_record cs s) ≡ s = λ cs ds. ap (end_of alone_record ds) (records_stuck cs s w) ∙ records_stuck ds s w in
        let e : end_of alone_record (reload pa b) (end_of alone_record la s) ≡ end_of alone_record (reload pb b) (end_of alone_record lb s) = f la (reload pa b) ∙ sym (f lb (reload pb b)) in
        (ap (λ (t : RecordState). t.bytes) e, ap (λ (t : RecordState). blank t.memory) e)
    go false w =
        let r = record_itself s w in
        let R : RecordState → RecordState → Type 0 = λ s t. RecordLike t s in
        let q : RecordPair s la lb =
        record {
          small = p.small;
          pair = record {
            warm = p.pair.warm;
            lengths = p.pair.lengths;
            quiet_a = follow_quiet alone_record record_system R record_back data_call la s s r p.pair.quiet_a;
            quiet_b = follow_quiet alone_record record_system R record_back data_call lb s s r p.pair.quiet_b;
            lines_run_lem = sym (follow_totals alone_record record_system R record_back la s s r) ∙ p.pair.lines_run_lem ∙ follow_totals alone_record record_system R record_back lb s s r;
          };
        }
        in
        let d = theorems.reload_theorem.record_demand3 s la lb q pa pb b in
        let side : (cs ds : List Call) → RecordLike (end_of record_system ds (end_of record_system cs s)) (end_of alone_record ds (end_of alone_record cs s)) =
        λ cs ds. follow_ends record_system alone_record RecordLike record_forth ds _ _ (follow_ends record_system alone_record RecordLike record_forth cs s s r)
        in
        let x = side la (reload pa b) in
        let y = side lb (reload pb b) in
        (sym x.bytes ∙ d.records ∙ y.bytes, sym x.memory ∙ ap blank d.memories ∙ y.memory)

record_end_is : (cs : List Call) (l : List ℕ) (m : Memory) → end_of alone_record cs (record_state l m) ≡ record_state (unit_end by_record record_blind cs l m) (memory_end by_record record_blind cs l m)
unfolding end_of unit_record_call unit_end memory_end
record_end_is [] l m = refl
record_end_is (c ∷ cs) l m = record_end_is cs (left_of by_record c l m).unit (own_after by_record c l m)

joined_record : (a b : List Call) (s : RecordState) → end_of alone_record (a ++ b) s ≡ end_of alone_record b (end_of alone_record a s)
unfolding end_of
joined_record [] b s = refl
joined_record (c ∷ a) b s = joined_record a b (unit_record_call c s).after

-- ON THE MACHINE: two sequences in which unit k's calls are a log and the reload, the other's calls anywhere
module _ {A U : Type 0} (p : Units A U) (blind : Blind p) (k : ℕ) (hk : k < 2) where
  -- what they leave, and what is shown of further ones, by what unit k's calls leave of it alone
  both : (m : Machine U) (ea eb : List Entry)
      → (let u : U = (own_of k m).unit in let a : Memory = memory_of k m in
      (unit_end p blind (calls_of k ea) u a ≡ unit_end p blind (calls_of k eb) u a) × (blank (memory_end p blind (calls_of k ea) u a) ≡ blank (memory_end p blind (calls_of k eb) u a)))
      → (own_of k (after_all p ea m) ≡ own_of k (after_all p eb m)) × ((fa fb : List Entry) → calls_of k fa ≡ calls_of k fb → shown_to p k fa (after_all p ea m) ≡ shown_to p k fb (after_all p eb m))
  both m ea eb e =
      let u : U = (own_of k m).unit in
      let a : Memory = memory_of k m in
      let n : Near p blind k m u a = record { unit = refl; memory = refl } in
      let na = ends p blind k hk ea m u a n in
      let nb = ends p blind k hk eb m u a n in
      let nc : Near p blind k (after_all p ea m) (unit_end p blind (calls_of k eb) u a) (memory_end p blind (calls_of k eb) u a) = record { unit = na.unit ∙ e.0; memory = na.memory ∙ e.1 } in
      let o : own_of k (after_all p ea m) ≡ own_of k (after_all p eb m) = near_own p blind k hk (after_all p ea m) (after_all p eb m) _ _ nc nb in
      let ca = common p blind ea m in
      let cb = common p blind eb m in (
        o,
        λ fa fb c.
            (whatever p blind k hk fa fb (after_all p ea m) (after_all p eb m) c o (ca.left ∙ sym cb.left) (ca.right ∙ sym cb.right) (ca.line ∙ sym cb.line) (ca.colours ∙ sym cb.colours)).0,
      )

reloads : (k : ℕ) → k < 2 → (m : Machine Ppu) (ea eb : List Entry) (la lb : List Call) (pa pb : Places) (b : Bytes)
    → calls_of k ea ≡ la ++ reload pa b → calls_of k eb ≡ lb ++ reload pb b → PairOf alone data_call (state_of k m) la lb
    → (own_of k (after_all by_value ea m) ≡ own_of k (after_all by_value eb m))
    × ((fa fb : List Entry) → calls_of k fa ≡ calls_of k fb → shown_to by_value k fa (after_all by_value ea m) ≡ shown_to by_value k fb (after_all by_value eb m))
reloads k hk m ea eb la lb pa pb b ca cb p =
    let s : State = state_of k m in
    let d = unit_reload s la lb p pa pb b in
    let side : (es : List Entry) (ls : List Call) (a : Places) → calls_of k es ≡ ls ++ reload a b
    → state (unit_end by_value value_blind (calls_of k es) s.unit s.memory) (memory_end by_value value_blind (calls_of k es) s.unit s.memory) ≡ end_of alone (reload a b) (end_of alone ls s) =
    λ es ls a e. sym (end_is (calls_of k es) s.unit s.memory) ∙ ap (λ (cs : List Call). end_of alone cs s) e ∙ joined_alone ls (reload a b) s
    in
    let x = side ea la pa ca in
    let y = side eb lb pb cb in
    both by_value value_blind k hk m ea eb (ap (λ (t : State). t.unit) x ∙ d.0 ∙ sym (ap (λ (t : State). t.unit) y), ap (λ (t : State). blank t.memory) x ∙ d.1 ∙ sym (ap (λ (t : State). blank t.memory) y))

record_reloads : (k : ℕ) → k < 2 → (m : Machine (List ℕ)) (ea eb : List Entry) (la lb : List Call) (pa pb : Places) (b : Bytes)
    → calls_of k ea ≡ la ++ reload pa b → calls_of k eb ≡ lb ++ reload pb b → RecordPairOf alone_record (record_state_of k m) la lb
    → (own_of k (after_all by_record ea m) ≡ own_of k (after_all by_record eb m))
    × ((fa fb : List Entry) → calls_of k fa ≡ calls_of k fb → shown_to by_record k fa (after_all by_record ea m) ≡ shown_to by_record k fb (after_all by_record eb m))
record_reloads k hk m ea eb la lb pa pb b ca cb p =
    let s : RecordState = record_state_of k m in
    let d = record_reload s la lb p pa pb b in
    let side : (es : List Entry) (ls : List Call) (a : Places) → calls_of k es ≡ ls ++ reload a b
    → record_state (unit_end by_record record_blind (calls_of k es) s.bytes s.memory) (memory_end by_record record_blind (calls_of k es) s.bytes s.memory) ≡ end_of alone_record (reload a b) (end_of alone_record ls s) =
    λ es ls a e. sym (record_end_is (calls_of k es) s.bytes s.memory) ∙ ap (λ (cs : List Call). end_of alone_record cs s) e ∙ joined_record ls (reload a b) s
    in
    let x = side ea la pa ca in
    let y = side eb lb pb cb in
    both by_record record_blind k hk m ea eb
    (ap (λ (t : RecordState). t.bytes) x ∙ d.0 ∙ sym (ap (λ (t : RecordState). t.bytes) y), ap (λ (t : RecordState). blank t.memory) x ∙ d.1 ∙ sym (ap (λ (t : RecordState). blank t.memory) y))

-- NO STEP CAN BE SPARED: a machine of two such units
unfoldable twice : {U : Type 0} → U → Memory → Machine U
twice u m =
    let o = owned u m.cells.nametables m.cells.oam m.cells.palette in
    machine o o m.cells.left m.cells.right m.line m.colours

twice_state : (k : ℕ) (s : State) → state_of k (twice s.unit s.memory) ≡ s
unfolding twice
twice_state zero s = refl
twice_state (suc k) s = refl

twice_record : (k : ℕ) (s : RecordState) → record_state_of k (twice s.bytes s.memory) ≡ s
unfolding twice
twice_record zero s = refl
twice_record (suc k) s = refl

-- unit k's after a sequence of its calls alone
own_end : (k : ℕ) → k < 2 → (m : Machine Ppu) (ca cb : List Call) → (own_of k (after_all by_value (all_by k (ca ++ cb)) m)).unit ≡ (end_of alone cb (end_of alone ca (state_of k m))).unit
own_end k hk m ca cb =
    let n = ends by_value value_blind k hk (all_by k (ca ++ cb)) m (own_of k m).unit (memory_of k m) (record { unit = refl; memory = refl }) in
    n.unit ∙ ap (λ (cs : List Call). unit_end by_value value_blind cs (own_of k m).unit (memory_of k m)) (calls_all k (ca ++ cb))
    ∙ sym (ap (λ (t : State). t.unit) (end_is (ca ++ cb) (own_of k m).unit (memory_of k m))) ∙ ap (λ (t : State). t.unit) (joined_alone ca cb (state_of k m))

own_record_end : (k : ℕ) → k < 2 → (m : Machine (List ℕ)) (ca cb : List Call)
    → (own_of k (after_all by_record (all_by k (ca ++ cb)) m)).unit ≡ (end_of alone_record cb (end_of alone_record ca (record_state_of k m))).bytes
own_record_end k hk m ca cb =
    let n = ends by_record record_blind k hk (all_by k (ca ++ cb)) m (own_of k m).unit (memory_of k m) (record { unit = refl; memory = refl }) in
    n.unit ∙ ap (λ (cs : List Call). unit_end by_record record_blind cs (own_of k m).unit (memory_of k m)) (calls_all k (ca ++ cb))
    ∙ sym (ap (λ (t : RecordState). t.bytes) (record_end_is (ca ++ cb) (own_of k m).unit (memory_of k m))) ∙ ap (λ (t : RecordState). t.bytes) (joined_record ca cb (record_state_of k m))

needed : (d : Board) → d.writable ≡ false → (k : ℕ) → k < 2 → (i : ℕ) → i < 7 → SharedNeeded d k i
needed d w k hk i hi =
    let n : Needed d i = theorems.reload_theorem.needed d i hi in
    let s : State = n.start in
    let m : Machine Ppu = twice s.unit s.memory in
    let e : state_of k m ≡ s = twice_state k s in
    let w' : s.unit.board.writable ≡ false = ap (λ (x : Board). x.writable) n.board ∙ w in
    let side : (ls : List Call) (a : Places) → (own_of k (after_all by_value (all_by k (ls ++ without i a n.bytes)) m)).unit ≡ (end (without i a n.bytes) (end ls s)).unit =
    λ ls a. own_end k hk m ls (without i a n.bytes) ∙ ap (λ (t : State). (end_of alone (without i a n.bytes) (end_of alone ls t)).unit) e ∙ sym (ends_like ls (without i a n.bytes) s w').unit
    in
    record {
      start = m;
      board = ap (λ (t : State). t.unit.board) e ∙ n.board;
      log_a = n.log_a;
      log_b = n.log_b;
      pair = subst (λ (t : State). PairOf alone data_call t n.log_a n.log_b) (sym e) (to_alone s n.log_a n.log_b w' n.pair);
      held = subst Held (sym e) n.held;
      fit_a = n.fit_a;
      fit_b = n.fit_b;
      at_a = n.at_a;
      at_b = n.at_b;
      bytes = n.bytes;
      fit = n.fit;
      differ = λ z. n.differ (ap record_of (sym (side n.log_a n.at_a)) ∙ z ∙ ap record_of (side n.log_b n.at_b));
    }

record_needed : (d : Board) → d.writable ≡ false → (k : ℕ) → k < 2 → (i : ℕ) → i < 7 → SharedRecordNeeded d k i
record_needed d w k hk i hi =
    let n : RecordNeeded d i = theorems.reload_theorem.record_needed d i hi in
    let s : RecordState = n.start in
    let m : Machine (List ℕ) = twice s.bytes s.memory in
    let e : record_state_of k m ≡ s = twice_record k s in
    let w' : (unit_of s.bytes).board.writable ≡ false = ap (λ (x : Board). x.writable) n.board ∙ w in
    let r = record_itself s w' in
    let side : (ls : List Call) (a : Places) → (own_of k (after_all by_record (all_by k (ls ++ without i a n.bytes)) m)).unit ≡ (end_of record_system (without i a n.bytes) (end_of record_system ls s)).bytes =
    λ ls a. own_record_end k hk m ls (without i a n.bytes) ∙ ap (λ (t : RecordState). (end_of alone_record (without i a n.bytes) (end_of alone_record ls t)).bytes) e
    ∙ sym (follow_ends record_system alone_record RecordLike record_forth (without i a n.bytes) _ _ (follow_ends record_system alone_record RecordLike record_forth ls s s r)).bytes
    in
    record {
      start = m;
      board = ap (λ (t : RecordState). (unit_of t.bytes).board) e ∙ n.board;
      log_a = n.log_a;
      log_b = n.log_b;
      pair = subst (λ (t : RecordState). RecordPairOf alone_record t n.log_a n.log_b) (sym e)
          (record {
            small = n.pair.small;
            pair = record {
              warm = n.pair.pair.warm;
              lengths = n.pair.pair.lengths;
              quiet_a = follow_quiet record_system alone_record RecordLike record_forth data_call n.log_a s s r n.pair.pair.quiet_a;
              quiet_b = follow_quiet record_system alone_record RecordLike record_forth data_call n.log_b s s r n.pair.pair.quiet_b;
              lines_run_lem = sym (follow_totals record_system alone_record RecordLike record_forth n.log_a s s r) ∙ n.pair.pair.lines_run_lem ∙ follow_totals record_system alone_record RecordLike record_forth n.log_b s s r;
            };
          });
      held = subst (λ (t : RecordState). Held (state (unit_of t.bytes) t.memory)) (sym e) n.held;
      taken = ap (λ (t : RecordState). (load_call t.bytes).answer.number) e ∙ n.taken;
      fit_a = n.fit_a;
      fit_b = n.fit_b;
      at_a = n.at_a;
      at_b = n.at_b;
      bytes = n.bytes;
      fit = n.fit;
      differ = λ z. n.differ (sym (side n.log_a n.at_a) ∙ z ∙ side n.log_b n.at_b);
    }

pub shared_reload : SharedReload
shared_reload = record { reloads = reloads; record_reloads = record_reloads; needed = needed; record_needed = record_needed }
