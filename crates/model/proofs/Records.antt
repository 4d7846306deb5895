-- Demand 3 for the exported calls, on records.
use mathlib.Core.Path.{◌≡◌, refl, sym, ap, ◌∙◌, subst}
use mathlib.Core.Bool.{Bool, true, false, cond}
use mathlib.Core.List.{List, [], ◌∷◌}
use Prim.Native.Nat.{ℕ, suc, ◌+◌, ◌≤◌, ◌<◌}
use native.Mathlib.Omega.{arith}
use lib.Dec.{eqb}
use borrow.Author.Tests.{eqb-true, eqb-false, ne_eqb}
use Rattle.model.specs.declared.Ppu.{Ppu}
use Rattle.model.specs.declared.Answer.{Answer}
use Rattle.model.specs.declared.Access.{Access}
use Rattle.model.specs.Unit.{Memory, Lengths, State, state, record_length, long, is_well_formed}
use Rattle.model.specs.Record.{at, unit_of, record_of}
use Rattle.model.specs.Line.{lines_run}
use Rattle.model.specs.Calls.{access, load_call, Call, Outcome, outcome, outcome_on, refusal, refused_access, request_ok, order, refusal_of, done, on_lent, lent_of, lent_memory, own_memory, call, packed, saved_bytes, Exported, exported, export_of, on_record, exported_call}
use Rattle.model.specs.Reload.{end, end_of, total, total_of, Within, data_call, QuietLog, Quiet, Places, Bytes, reload, Pair}
use Rattle.model.specs.RecordLog.{RecordState, record_state, record_call, record_trace, record_system, RecordPair, RecordAlike}
use Rattle.model.proofs.Record.{unit_record_unit, record_unit_record, record_long, load_save, loaded, unit_well}
use Rattle.model.proofs.Tests.{cond_both}
use Rattle.model.proofs.Kept.{done_num}
use Rattle.model.proofs.Good.{by_gate, call_good}
use Rattle.model.proofs.Reloaded.{own_same, demand3}

-- AN EXPORTED CALL ON A UNIT'S RECORD IS THE CALL ON THE UNIT, saved
unknown : (c : Call) (s : State) → request_ok c ≡ false → on_lent c s ≡ outcome (refusal 5) s
unfolding on_lent refusal_of order
unknown c s e = rw e

pub on_record_lem : (c : Call) (u : Ppu) (m : Memory) → is_well_formed u ≡ true → on_record c (record_of u) m ≡ on_lent c (state u m)
unfolding on_record
on_record_lem c u m h = rw (load_save u h) (go (request_ok c) refl)
  where
    go : (k : Bool) → request_ok c ≡ k → cond k (on_lent c (state u m)) (outcome_on (refused_access 5 u) m) ≡ on_lent c (state u m)
    go true f = refl
    go false f = sym (unknown c (state u m) f)

-- the outcome of a call, with the unit saved
abbrev pub saves : Outcome → Exported
saves o = exported (packed o.answer) (record_of o.after.unit) o.after.memory

saved_done : (o : Outcome) (u : Ppu) → o.answer.number ≡ 0 → export_of (record_of u) o ≡ saves o
unfolding saved_bytes
saved_done o u e = rw (record_long u, e)

saved_refused : (k : ℕ) (u : Ppu) (m : Memory) → export_of (record_of u) (outcome (refusal (suc k)) (state u m)) ≡ saves (outcome (refusal (suc k)) (state u m))
unfolding saved_bytes
saved_refused k u m = rw (record_long u, ne_eqb (suc k) 0 (λ (z : suc k ≡ 0). absurd (omega (arith, z))))

pub exported_call_lem : (c : Call) (u : Ppu) (m : Memory) → is_well_formed u ≡ true → exported_call c (record_of u) m ≡ saves (on_lent c (state u m))
unfolding exported_call
exported_call_lem c u m h =
    ap (export_of (record_of u)) (on_record_lem c u m h)
    ∙ by_gate (λ (o : Outcome). export_of (record_of u) o ≡ saves o) c (state u m) (λ a. saved_done (done c (state u m)) u (done_num c (state u m))) (λ k. saved_refused k u m)

-- LOGS
abbrev pub kept : State → RecordState
kept s = record_state (record_of s.unit) s.memory

next_kept : (c : Call) (s : State) → is_well_formed s.unit ≡ true → (record_call c (kept s)).after ≡ kept (call c s).after
unfolding record_call call
next_kept c s h =
    ap (λ (e : Exported). record_state e.bytes (own_memory (lent_of c) s.memory e.memory)) (exported_call_lem c s.unit (lent_memory (lent_of c) s.memory) h)

reply_kept : (c : Call) (s : State) → is_well_formed s.unit ≡ true → record_system.reply c (kept s) ≡ (call c s).answer
unfolding call
reply_kept c s h = ap (λ (o : Outcome). o.answer) (on_record_lem c s.unit (lent_memory (lent_of c) s.memory) h)

end_kept : (cs : List Call) (s : State) → is_well_formed s.unit ≡ true → end_of record_system cs (kept s) ≡ kept (end cs s)
unfolding end_of
end_kept [] s h = refl
end_kept (c ∷ cs) s h = ap (end_of record_system cs) (next_kept c s h) ∙ end_kept cs (call c s).after (call_good c s h)

total_kept : (cs : List Call) (s : State) → is_well_formed s.unit ≡ true → total_of record_system cs (kept s) ≡ total cs s
unfolding total_of
total_kept [] s h = refl
total_kept (c ∷ cs) s h =
    (λ i. (reply_kept c s h i).lines + total_of record_system cs (next_kept c s h i))
    ∙ ap (λ (n : ℕ). (call c s).answer.lines + n) (total_kept cs (call c s).after (call_good c s h))

end_good : (cs : List Call) (s : State) → is_well_formed s.unit ≡ true → is_well_formed (end cs s).unit ≡ true
unfolding end_of
end_good [] s h = h
end_good (c ∷ cs) s h = end_good cs (call c s).after (call_good c s h)

-- the state after two logs
pub ends_kept : (cs ds : List Call) (s : State) → is_well_formed s.unit ≡ true → end_of record_system ds (end_of record_system cs (kept s)) ≡ kept (end ds (end cs s))
ends_kept cs ds s h = ap (end_of record_system ds) (end_kept cs s h) ∙ end_kept ds (end cs s) (end_good cs s h)

within_kept : (s : State) → Within (record_system.rests (kept s)) → Within s
within_kept s = subst (λ (u : Ppu). Within (state u s.memory)) (unit_record_unit s.unit)

within_back : (s : State) → Within s → Within (record_system.rests (kept s))
within_back s = subst (λ (u : Ppu). Within (state u s.memory)) (sym (unit_record_unit s.unit))

quiet_kept : (shut : Call → Bool) (cs : List Call) (s : State) → is_well_formed s.unit ≡ true → QuietLog record_system shut cs (kept s) → Quiet shut cs s
quiet_kept shut [] s h q = within_kept s q
quiet_kept shut (c ∷ cs) s h q = (
  within_kept s q.0,
  record {
    throughout = λ j l.
        subst (λ (u : Ppu). Within (lines_run j (state u (lent_memory (lent_of c) s.memory)))) (unit_record_unit s.unit)
        (q.1.throughout j (subst (λ (a : Answer). j ≤ a.lines) (sym (reply_kept c s h)) l));
    nodata = λ d e. q.1.nodata d (ap (λ (a : Answer). a.number) (reply_kept c s h) ∙ e);
  },
  quiet_kept shut cs (call c s).after (call_good c s h) (subst (QuietLog record_system shut cs) (next_kept c s h) q.2),
)

-- and back
quiet_back : (shut : Call → Bool) (cs : List Call) (s : State) → is_well_formed s.unit ≡ true → Quiet shut cs s → QuietLog record_system shut cs (kept s)
quiet_back shut [] s h q = within_back s q
quiet_back shut (c ∷ cs) s h q = (
  within_back s q.0,
  record {
    throughout = λ j l.
        subst (λ (u : Ppu). Within (lines_run j (state u (lent_memory (lent_of c) s.memory)))) (sym (unit_record_unit s.unit))
        (q.1.throughout j (subst (λ (a : Answer). j ≤ a.lines) (reply_kept c s h) l));
    nodata = λ d e. q.1.nodata d (sym (ap (λ (a : Answer). a.number) (reply_kept c s h)) ∙ e);
  },
  subst (QuietLog record_system shut cs) (sym (next_kept c s h)) (quiet_back shut cs (call c s).after (call_good c s h) q.2),
)

-- two logs of demand 3 on a unit are two on its record
pub pair_kept : (s : State) (la lb : List Call) → is_well_formed s.unit ≡ true → ((k : ℕ) → at (record_of s.unit) k < 256) → Pair data_call s la lb → RecordPair (kept s) la lb
pair_kept s la lb h small p =
    record {
      small = small;
      pair = record {
        warm = ap (λ (u : Ppu). u.warm) (unit_record_unit s.unit) ∙ p.warm;
        lengths = subst (λ (u : Ppu). Lengths u.board s.memory) (sym (unit_record_unit s.unit)) p.lengths;
        quiet_a = quiet_back data_call la s h p.quiet_a;
        quiet_b = quiet_back data_call lb s h p.quiet_b;
        lines_run_lem = total_kept la s h ∙ p.lines_run_lem ∙ sym (total_kept lb s h);
      };
    }

-- A RECORD THAT IS REFUSED stays, and so does the memory
pub refused_bytes : (x : Access) (l : List ℕ) → (x.answer.number ≡ 0 → ⊥) → saved_bytes x l ≡ l
unfolding saved_bytes
refused_bytes x l h = rw (ne_eqb x.answer.number 0 h) (cond_both (λ (k : List ℕ). k ≡ l) (long l record_length) l l refl refl)

record Stays (l : List ℕ) (m : Memory) (o : Outcome) : Type 0 where
  bytes : saved_bytes (access o.answer o.after.unit) l ≡ l
  memory : o.after.memory ≡ m

bad_record : (c : Call) (l : List ℕ) (m : Memory) → ((load_call l).answer.number ≡ 0 → ⊥) → Stays l m (on_record c l m)
unfolding on_record
bad_record c l m h =
    let x : Access = load_call l in
    rw (ne_eqb (load_call l).answer.number 0 h)
    (cond_both (Stays l m) (request_ok c) (outcome_on x m) (outcome_on (refused_access 5 x.unit) m) (record { bytes = refused_bytes x l h; memory = refl })
    (record { bytes = refused_bytes (refused_access 5 x.unit) l (λ (z : 5 ≡ 0). omega (arith, z)); memory = refl }))

bad_end : (cs : List Call) (s : RecordState) → ((load_call s.bytes).answer.number ≡ 0 → ⊥) → end_of record_system cs s ≡ s
unfolding end_of record_call exported_call
bad_end [] s h = refl
bad_end (c ∷ cs) s h =
    let b = bad_record c s.bytes (lent_memory (lent_of c) s.memory) h in
    (λ i. end_of record_system cs (record_state (b.bytes i) (own_memory (lent_of c) s.memory (b.memory i))))
    ∙ (λ i. end_of record_system cs (record_state s.bytes (own_same (lent_of c) s.memory i)))
    ∙ bad_end cs s h

alike : {s t : RecordState} → s ≡ t → RecordAlike s t
alike e = record { records = ap (λ (z : RecordState). z.bytes) e; memories = ap (λ (z : RecordState). z.memory) e; further = λ m cs i. record_trace cs (record_state (e i).bytes m) }

-- DEMAND 3, for the exported calls
pub record_demand3 : (s : RecordState) (la lb : List Call) → RecordPair s la lb → (pa pb : Places) (b : Bytes)
    → RecordAlike (end_of record_system (reload pa b) (end_of record_system la s)) (end_of record_system (reload pb b) (end_of record_system lb s))
record_demand3 s la lb p pa pb b = alike (go (eqb (load_call s.bytes).answer.number 0) refl)
  where
    go : (x : Bool) → eqb (load_call s.bytes).answer.number 0 ≡ x → end_of record_system (reload pa b) (end_of record_system la s) ≡ end_of record_system (reload pb b) (end_of record_system lb s)
    go true e =
        let f = loaded s.bytes (eqb-true (load_call s.bytes).answer.number 0 e) in
        let z : State = state (unit_of s.bytes) s.memory in
        let h : is_well_formed z.unit ≡ true = unit_well s.bytes f.1 in
        let k : kept z ≡ s = (λ i. record_state (record_unit_record s.bytes p.small f.0 f.1 i) s.memory) in
        let q : Pair data_call z la lb =
        record {
          warm = p.pair.warm;
          lengths = p.pair.lengths;
          quiet_a = quiet_kept data_call la z h (subst (QuietLog record_system data_call la) (sym k) p.pair.quiet_a);
          quiet_b = quiet_kept data_call lb z h (subst (QuietLog record_system data_call lb) (sym k) p.pair.quiet_b);
          lines_run_lem = sym (total_kept la z h) ∙ ap (total_of record_system la) k ∙ p.pair.lines_run_lem ∙ sym (ap (total_of record_system lb) k) ∙ total_kept lb z h;
        }
        in
        let d = demand3 z la lb q pa pb b in
        let side : (cs : List Call) (a : Places) → end_of record_system (reload a b) (end_of record_system cs s) ≡ kept (end (reload a b) (end cs z)) =
        λ cs a. ap (λ (x : RecordState). end_of record_system (reload a b) (end_of record_system cs x)) (sym k) ∙ ends_kept cs (reload a b) z h
        in
        side la pa ∙ (λ i. record_state (record_of (d.units i)) (d.memories i)) ∙ sym (side lb pb)
    go false e =
        let h = eqb-false (load_call s.bytes).answer.number 0 e in
        let stay : (cs : List Call) (q : Places) → end_of record_system (reload q b) (end_of record_system cs s) ≡ s =
        λ cs q. ap (end_of record_system (reload q b)) (bad_end cs s h) ∙ bad_end (reload q b) s h
        in
        stay la pa ∙ sym (stay lb pb)
