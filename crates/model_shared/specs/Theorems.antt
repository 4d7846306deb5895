-- What is proved of two units that share pattern tables and line buffers: the statements. proofs/Theorems.antt has the proof of each.
use Rattle.std.specs.Prelude.{◌≡◌, true, false, List, ◌++◌, ◌⊎◌, ℕ, ◌%◌, ◌≤◌, ◌<◌, length, replicate}
use Rattle.model.specs.declared.Board.{Board}
use Rattle.model.specs.declared.Ppu.{Ppu}
use Rattle.model.specs.Unit.{Memory, State, state, record_length, line_length, colours_length, is_well_formed, is_drawing}
use Rattle.model.specs.Record.{unit_of, record_ok}
use Rattle.model.specs.Line.{lines_run}
use Rattle.model.specs.Calls.{refusal, Lent, own, Call, run_call, Outcome, outcome, request_ok, long_for, in_range, blocked, on_lent, lent_of, Exported, exported}
use Rattle.model.specs.Reload.{data_call, Places, Bytes, reload, PairOf}
use Rattle.model.specs.RecordLog.{RecordPairOf}
use Rattle.model.specs.Theorems.{lent_to, restored, restores}
use Rattle.model_shared.specs.Shared.{Machine, own_of, memory_of, left_by, unit_refusal, unit_call, unit_on_record, unit_export, Units, by_value, by_record, turn, by_number, shared_call, shared_export}
use Rattle.model_shared.specs.Sequence.{Entry, is_run, shown_of, machine_after, after_all, shown_to, only_by, calls_of, state_of, alone, record_state_of, alone_record, SharedNeeded, SharedRecordNeeded}

-- DEMAND 1. 7 for a unit number other than 0 or 1, before all others; else the calling unit's number: the first of 5, 3, 6, 2, 1, 4 that holds, and 0 if
-- none does; on a record the first of 5, 2 for the record, 3, and then the call's own. A refused call changes nothing
pub record SharedRefusals : Type 0 where
  pub is_7 : (k : ℕ) (c : Call) (m : Machine Ppu) → 2 ≤ k → shared_call k c m ≡ turn (refusal 7) m
  pub record_7 : (k : ℕ) (c : Call) (m : Machine (List ℕ)) → 2 ≤ k → shared_export k c m ≡ turn 7 m
  pub number : (c : Call) (s : State) → (unit_call c s).answer.number ≡ unit_refusal c s
  pub is_5 : (c : Call) (s : State) → request_ok c ≡ false → unit_refusal c s ≡ 5
  pub is_3 : (c : Call) (s : State) → request_ok c ≡ true → is_well_formed s.unit ≡ false → unit_refusal c s ≡ 3
  pub is_6 : (c : Call) (s : State) → request_ok c ≡ true → is_well_formed s.unit ≡ true → s.unit.board.writable ≡ true → unit_refusal c s ≡ 6
  pub is_2 : (c : Call) (s : State) → request_ok c ≡ true → is_well_formed s.unit ≡ true → s.unit.board.writable ≡ false → long_for c s.unit s.memory ≡ false → unit_refusal c s ≡ 2
  pub is_1 : (c : Call) (s : State) → request_ok c ≡ true → is_well_formed s.unit ≡ true → s.unit.board.writable ≡ false → long_for c s.unit s.memory ≡ true → in_range c ≡ false
      → unit_refusal c s ≡ 1
  pub is_4 : (c : Call) (s : State) → request_ok c ≡ true → is_well_formed s.unit ≡ true → s.unit.board.writable ≡ false → long_for c s.unit s.memory ≡ true → in_range c ≡ true
      → is_drawing s.unit ≡ true → blocked c ≡ true → unit_refusal c s ≡ 4
  pub is_0 : (c : Call) (s : State) → request_ok c ≡ true → is_well_formed s.unit ≡ true → s.unit.board.writable ≡ false → long_for c s.unit s.memory ≡ true → in_range c ≡ true
      → (is_drawing s.unit ≡ false) ⊎ (blocked c ≡ false) → unit_refusal c s ≡ 0
  pub record_5 : (c : Call) (l : List ℕ) (m : Memory) → request_ok c ≡ false → (unit_on_record c l m).answer.number ≡ 5
  pub record_2 : (c : Call) (l : List ℕ) (m : Memory) → request_ok c ≡ true → (length l ≡ record_length → ⊥) → (unit_on_record c l m).answer.number ≡ 2
  pub record_3 : (c : Call) (l : List ℕ) (m : Memory) → request_ok c ≡ true → length l ≡ record_length → record_ok l ≡ false → (unit_on_record c l m).answer.number ≡ 3
  pub record_call_lem : (c : Call) (l : List ℕ) (m : Memory) → request_ok c ≡ true → length l ≡ record_length → record_ok l ≡ true → unit_on_record c l m ≡ unit_call c (state (unit_of l) m)
  pub by_unit : (k : ℕ) (c : Call) (m : Machine Ppu) → k < 2
      → shared_call k c m ≡ (let o : Outcome = unit_call c (state (own_of k m).unit (memory_of k m)) in turn o.answer (left_by k o.after.unit o.after.memory m))
  pub record_by_unit : (k : ℕ) (c : Call) (m : Machine (List ℕ)) → k < 2
      → shared_export k c m ≡ (let e : Exported = unit_export c (own_of k m).unit (memory_of k m) in turn e.result (left_by k e.bytes e.memory m))
  pub nothing_changes : (k : ℕ) (c : Call) (m : Machine Ppu) → ((shared_call k c m).answer.number ≡ 0 → ⊥) → shared_call k c m ≡ turn (refusal (shared_call k c m).answer.number) m
  pub record_nothing_changes : (k : ℕ) (c : Call) (m : Machine (List ℕ)) → ((shared_export k c m).answer % 256 ≡ 0 → ⊥) → shared_export k c m ≡ turn ((shared_export k c m).answer % 256) m
  pub refused : (c : Call) (s : State) → ((unit_call c s).answer.number ≡ 0 → ⊥) → unit_call c s ≡ outcome (refusal (unit_call c s).answer.number) s
  pub record_refused : (c : Call) (l : List ℕ) (m : Memory) → ((unit_on_record c l m).answer.number ≡ 0 → ⊥) → unit_export c l m ≡ exported (unit_on_record c l m).answer.number l m

-- ONE UNIT'S CALL IS THE PLAIN ONE, on a board without writable pattern memory: but for the line buffers of an answered run with none of lines 0 to 239,
-- also with n = 0, which it fills with zeros. It makes no ill-formed unit of a well-formed one, and what is not lent to it is neither read nor touched
pub record SharedCalls : Type 0 where
  pub plain : (c : Call) (s : State) → is_run c ≡ false → s.unit.board.writable ≡ false → unit_call c s ≡ on_lent c s
  pub plain_run : (l : Lent) (why n : ℕ) (s : State) → s.unit.board.writable ≡ false
      → let c : Call = run_call l why n in ((unit_call c s).answer ≡ (on_lent c s).answer) × ((unit_call c s).after.unit ≡ (on_lent c s).after.unit) × ((unit_call c s).after.memory.cells ≡ s.memory.cells)
  pub picture_run : (l : Lent) (why n : ℕ) (s : State) → s.unit.board.writable ≡ false → (j : ℕ) → j < (unit_call (run_call l why n) s).answer.lines → (lines_run j s).unit.scanline < 240
      → unit_call (run_call l why n) s ≡ on_lent (run_call l why n) s
  pub blank_run : (l : Lent) (why n : ℕ) (s : State) → (unit_call (run_call l why n) s).answer.number ≡ 0
      → ((j : ℕ) → j < (unit_call (run_call l why n) s).answer.lines → 240 ≤ (lines_run j s).unit.scanline)
      → ((unit_call (run_call l why n) s).after.memory.line ≡ replicate line_length 0) × ((unit_call (run_call l why n) s).after.memory.colours ≡ replicate colours_length 0)
  pub stays_formed : (c : Call) (s : State) → is_well_formed s.unit ≡ true → is_well_formed (unit_call c s).after.unit ≡ true
  pub frame : (c : Call) (u : Ppu) (m : Memory) → unit_call c (state u m) ≡ restores c m (unit_call c (state u (lent_to c m)))
  pub record_frame : (c : Call) (l : List ℕ) (m : Memory)
      → unit_export c l m ≡ (let e : Exported = unit_export c l (lent_to c m) in exported e.result e.bytes (restored c m e.memory))

-- a call by number, lent the machine's own memory, is what sequences are made of, and what a unit is shown of it is what it answers and leaves, the line
-- buffers after an answered run; it leaves all that is the other's own
pub record SharedTurns {A U : Type 0} (p : Units A U) : Type 0 where
  pub one : (e : Entry) (m : Machine U) → lent_of e.what ≡ own → (by_number p e.who e.what m).after ≡ machine_after p e m
  pub shown : (e : Entry) (m : Machine U) → e.who < 2 → lent_of e.what ≡ own
      → let t = by_number p e.who e.what m in let s = shown_of p e.what (own_of e.who m).unit (memory_of e.who m) in
      (s.answer ≡ t.answer) × (s.unit ≡ (own_of e.who t.after).unit) × (s.cells ≡ (memory_of e.who t.after).cells)
      × (is_run e.what ≡ true → p.number t.answer ≡ 0 → (s.line ≡ t.after.line) × (s.colours ≡ t.after.colours))
  pub others_own : (j k : ℕ) (c : Call) (m : Machine U) → j < 2 → k < 2 → (j ≡ k → ⊥) → own_of k (by_number p j c m).after ≡ own_of k m

-- NEITHER IS SEEN BY THE OTHER. What unit k is shown of any sequence of calls, and its own unit and memory after it, are as if it alone had called, the
-- other's calls taken out; nor do they hang on the other unit, its memory, or what the line buffers held. The tables stay
pub record Unseen {A U : Type 0} (p : Units A U) : Type 0 where
  pub taken_out : (k : ℕ) → k < 2 → (es : List Entry) (m : Machine U) → shown_to p k es m ≡ shown_to p k (only_by k es) m
  pub ends_so : (k : ℕ) → k < 2 → (es : List Entry) (m : Machine U) → own_of k (after_all p es m) ≡ own_of k (after_all p (only_by k es) m)
  pub tables_stay : (es : List Entry) (m : Machine U) → ((after_all p es m).left ≡ m.left) × ((after_all p es m).right ≡ m.right)
  pub whatever_the_other : (k : ℕ) → k < 2 → (ea eb : List Entry) (m m' : Machine U) → calls_of k ea ≡ calls_of k eb
      → own_of k m ≡ own_of k m' → m.left ≡ m'.left → m.right ≡ m'.right → length m.line ≡ length m'.line → length m.colours ≡ length m'.colours
      → (shown_to p k ea m ≡ shown_to p k eb m') × (own_of k (after_all p ea m) ≡ own_of k (after_all p eb m'))

-- DEMAND 3 for each unit by itself, the other's calls taken out, wherever they stand, in the reload too: after it unit and memory are equal, and all that is
-- shown of every further sequence, by `whatever_the_other` also of one that begins on any other memory, equal on both sides; and none of the seven steps
-- can be spared. The same of the exported calls, on records
pub record SharedReload : Type 0 where
  pub reloads : (k : ℕ) → k < 2 → (m : Machine Ppu) (ea eb : List Entry) (la lb : List Call) (pa pb : Places) (b : Bytes)
      → calls_of k ea ≡ la ++ reload pa b → calls_of k eb ≡ lb ++ reload pb b → PairOf alone data_call (state_of k m) la lb
      → (own_of k (after_all by_value ea m) ≡ own_of k (after_all by_value eb m))
      × ((fa fb : List Entry) → calls_of k fa ≡ calls_of k fb → shown_to by_value k fa (after_all by_value ea m) ≡ shown_to by_value k fb (after_all by_value eb m))
  pub record_reloads : (k : ℕ) → k < 2 → (m : Machine (List ℕ)) (ea eb : List Entry) (la lb : List Call) (pa pb : Places) (b : Bytes)
      → calls_of k ea ≡ la ++ reload pa b → calls_of k eb ≡ lb ++ reload pb b → RecordPairOf alone_record (record_state_of k m) la lb
      → (own_of k (after_all by_record ea m) ≡ own_of k (after_all by_record eb m))
      × ((fa fb : List Entry) → calls_of k fa ≡ calls_of k fb → shown_to by_record k fa (after_all by_record ea m) ≡ shown_to by_record k fb (after_all by_record eb m))
  pub needed : (d : Board) → d.writable ≡ false → (k : ℕ) → k < 2 → (i : ℕ) → i < 7 → SharedNeeded d k i
  pub record_needed : (d : Board) → d.writable ≡ false → (k : ℕ) → k < 2 → (i : ℕ) → i < 7 → SharedRecordNeeded d k i

pub record SharedTheorems : Type 0 where
  pub refusals : SharedRefusals
  pub calls : SharedCalls
  pub turns : SharedTurns by_value
  pub record_turns : SharedTurns by_record
  pub unseen : Unseen by_value
  pub record_unseen : Unseen by_record
  pub reload_theorem : SharedReload
