-- Logs of the exported calls on a saved unit's record: demand 3's words for them.
use Rattle.std.specs.Prelude.{◌≡◌, List, [], ◌∷◌, ℕ, ◌<◌}
use Rattle.model.specs.declared.Board.{Board}
use Rattle.model.specs.Unit.{Memory, state}
use Rattle.model.specs.Record.{at, unit_of}
use Rattle.model.specs.Calls.{load_call, Call, lent_of, lent_memory, own_memory, Outcome, on_record, Exported, exported_call}
use Rattle.model.specs.Reload.{System, end_of, data_call, Places, Bytes, seven, joined, without, PairOf, Held, AllFit}

-- a saved unit's record and the unit's own memory
pub record RecordState : Type 0 where
  pub bytes : List ℕ
  pub memory : Memory

abbrev pub record_state : List ℕ → Memory → RecordState
record_state l m = record { bytes = l; memory = m }

-- what an exported call of a log gives back: its packed answer, the record and the own memory after it, and what it was lent after it
pub record RecordGiven : Type 0 where
  pub result : ℕ
  pub after : RecordState
  pub lent : Memory

abbrev pub record_given : ℕ → RecordState → Memory → RecordGiven
record_given r s m = record { result = r; after = s; lent = m }

abbrev pub record_call_by : (Call → List ℕ → Memory → Exported) → Call → RecordState → RecordGiven
record_call_by on c s =
    let e : Exported = on c s.bytes (lent_memory (lent_of c) s.memory) in
    record { result = e.result; after = record_state e.bytes (own_memory (lent_of c) s.memory e.memory); lent = e.memory }

unfoldable pub record_call : Call → RecordState → RecordGiven
record_call c s = record_call_by exported_call c s

unfoldable pub record_trace : List Call → RecordState → List RecordGiven
record_trace [] s = []
record_trace (c ∷ cs) s = record_call c s ∷ record_trace cs (record_call c s).after

-- what answers exported calls: the answer is the one that the call packs, the unit the record's, well formed or not
abbrev pub record_system_by : (Call → RecordState → RecordGiven) → (Call → List ℕ → Memory → Outcome) → System RecordState
record_system_by f on =
    record {
      next = λ c s. (f c s).after;
      reply = λ c s. (on c s.bytes (lent_memory (lent_of c) s.memory)).answer;
      lends = λ c s. state (unit_of s.bytes) (lent_memory (lent_of c) s.memory);
      rests = λ s. state (unit_of s.bytes) s.memory;
    }

abbrev pub record_system : System RecordState
record_system = record_system_by record_call on_record

-- two logs of demand 3, from one record and memory: a record of bytes, of any length, byte 14 being 1
pub record RecordPairOf (r : System RecordState) (s : RecordState) (la lb : List Call) : Type 0 where
  pub small : (k : ℕ) → at s.bytes k < 256
  pub pair : PairOf r data_call s la lb

abbrev pub RecordPair : RecordState → List Call → List Call → Type 0
RecordPair s la lb = RecordPairOf record_system s la lb

-- step k of the reload cannot be spared, by exported calls: the same on a record that calls take
pub record RecordNeeded (d : Board) (k : ℕ) : Type 0 where
  pub start : RecordState
  pub board : (unit_of start.bytes).board ≡ d
  pub log_a : List Call
  pub log_b : List Call
  pub pair : RecordPair start log_a log_b
  pub held : Held (state (unit_of start.bytes) start.memory)
  pub taken : (load_call start.bytes).answer.number ≡ 0
  pub fit_a : AllFit log_a
  pub fit_b : AllFit log_b
  pub at_a : Places
  pub at_b : Places
  pub bytes : Bytes
  pub fit : AllFit (joined (seven at_a bytes)) × AllFit (joined (seven at_b bytes))
  pub differ : (end_of record_system (without k at_a bytes) (end_of record_system log_a start)).bytes ≡ (end_of record_system (without k at_b bytes) (end_of record_system log_b start)).bytes → ⊥

-- records and memories that are equal, and answer every further list of calls alike, on any memory
pub record RecordAlike (s t : RecordState) : Type 0 where
  pub records : s.bytes ≡ t.bytes
  pub memories : s.memory ≡ t.memory
  pub further : (m : Memory) (cs : List Call) → record_trace cs (record_state s.bytes m) ≡ record_trace cs (record_state t.bytes m)
