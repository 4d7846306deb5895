-- Document 02, request 6: sequences of calls on the two units, what each is shown of its own, and the words of demand 3 for one of them.
use Rattle.std.specs.Prelude.{◌≡◌, Bool, false, true, cond, ◌&&◌, List, [], ◌∷◌, ◌++◌, ℕ, ltb, eqb}
use Rattle.model.specs.declared.Ppu.{Ppu}
use Rattle.model.specs.declared.Board.{Board}
use Rattle.model.specs.Unit.{Cells, Memory, State, state}
use Rattle.model.specs.Record.{unit_of, record_of}
use Rattle.model.specs.Calls.{load_call, Call, read_call, write_call, dma_call, run_call, search_call, Given, call_by, lent_of, lent_memory, own_memory}
use Rattle.model.specs.Reload.{System, system_by, data_call, Places, Bytes, seven, joined, without, PairOf, Held, AllFit}
use Rattle.model.specs.RecordLog.{RecordState, record_state, RecordGiven, record_call_by, record_system_by, RecordPairOf}
use Rattle.model_shared.specs.Shared.{Machine, own_of, memory_of, left_by, unit_call, unit_on_record, unit_export, Left, Units, by_value, by_record}

-- one call of a sequence: the unit that makes it, and what it is
pub record Entry : Type 0 where
  pub who : ℕ
  pub what : Call

abbrev pub entry : ℕ → Call → Entry
entry k c = record { who = k; what = c }

abbrev pub is_run : Call → Bool
is_run (read_call l a) = false
is_run (write_call l a b) = false
is_run (dma_call l p) = false
is_run (run_call l why n) = true
is_run (search_call l n) = false

-- what a unit's call leaves, lent its own memory m or some other; and what is then its own memory
abbrev pub left_of : {A U : Type 0} → Units A U → Call → U → Memory → Left A U
left_of p c u m = p.leaves c u (lent_memory (lent_of c) m)

abbrev pub own_after : {A U : Type 0} → Units A U → Call → U → Memory → Memory
own_after p c u m = own_memory (lent_of c) m (left_of p c u m).memory

-- what a unit is shown of its call: the answer, the unit, its own memory and what it was lent after it, and after an answered run both line buffers
pub record Shown (A U : Type 0) : Type 0 where
  pub answer : A
  pub unit : U
  pub cells : Cells
  pub lent : Cells
  pub line : List ℕ
  pub colours : List ℕ

unfoldable pub shown_of : {A U : Type 0} → Units A U → Call → U → Memory → Shown A U
shown_of p c u m =
    let x = left_of p c u m in
    let ran : Bool = is_run c && eqb (p.number x.answer) 0 in
    record { answer = x.answer; unit = x.unit; cells = (own_after p c u m).cells; lent = x.memory.cells; line = cond ran x.memory.line []; colours = cond ran x.memory.colours [] }

-- the machine after a call of a sequence; one by another number than 0 or 1 does nothing (7)
unfoldable pub machine_after : {A U : Type 0} → Units A U → Entry → Machine U → Machine U
machine_after p e m =
    let u = (own_of e.who m).unit in
    let a : Memory = memory_of e.who m in
    cond (ltb e.who 2) (left_by e.who (left_of p e.what u a).unit (own_after p e.what u a) m) m

-- and after a sequence
unfoldable pub after_all : {A U : Type 0} → Units A U → List Entry → Machine U → Machine U
after_all p [] m = m
after_all p (e ∷ es) m = after_all p es (machine_after p e m)

-- what unit k is shown of a sequence
unfoldable pub shown_to : {A U : Type 0} → Units A U → ℕ → List Entry → Machine U → List (Shown A U)
shown_to p k [] m = []
shown_to p k (e ∷ es) m =
    let more = shown_to p k es (machine_after p e m) in
    cond (eqb e.who k) (shown_of p e.what (own_of e.who m).unit (memory_of e.who m) ∷ more) more

-- the other's calls taken out; unit k's calls; and a sequence of nothing but these
unfoldable pub only_by : ℕ → List Entry → List Entry
only_by k [] = []
only_by k (e ∷ es) = cond (eqb e.who k) (e ∷ only_by k es) (only_by k es)

unfoldable pub calls_of : ℕ → List Entry → List Call
calls_of k [] = []
calls_of k (e ∷ es) = cond (eqb e.who k) (e.what ∷ calls_of k es) (calls_of k es)

unfoldable pub all_by : ℕ → List Call → List Entry
all_by k [] = []
all_by k (c ∷ cs) = entry k c ∷ all_by k cs

-- DEMAND 3 FOR ONE UNIT. Unit k and the memory that its calls are lent, and one unit's calls of a log
abbrev pub state_of : ℕ → Machine Ppu → State
state_of k m = state (own_of k m).unit (memory_of k m)

unfoldable pub unit_given : Call → State → Given
unit_given c s = call_by unit_call c s

abbrev pub alone : System State
alone = system_by unit_given

-- the same on records
abbrev pub record_state_of : ℕ → Machine (List ℕ) → RecordState
record_state_of k m = record_state (own_of k m).unit (memory_of k m)

unfoldable pub unit_record_call : Call → RecordState → RecordGiven
unit_record_call c s = record_call_by unit_export c s

abbrev pub alone_record : System RecordState
alone_record = record_system_by unit_record_call unit_on_record

-- step i of the reload cannot be spared for unit k of a machine, with board d. Of the other unit nothing is asked, since nothing of it is looked at
pub record SharedNeeded (d : Board) (k i : ℕ) : Type 0 where
  pub start : Machine Ppu
  pub board : (own_of k start).unit.board ≡ d
  pub log_a : List Call
  pub log_b : List Call
  pub pair : PairOf alone data_call (state_of k start) log_a log_b
  pub held : Held (state_of k start)
  pub fit_a : AllFit log_a
  pub fit_b : AllFit log_b
  pub at_a : Places
  pub at_b : Places
  pub bytes : Bytes
  pub fit : AllFit (joined (seven at_a bytes)) × AllFit (joined (seven at_b bytes))
  pub differ : record_of (own_of k (after_all by_value (all_by k (log_a ++ without i at_a bytes)) start)).unit ≡ record_of (own_of k (after_all by_value (all_by k (log_b ++ without i at_b bytes)) start)).unit → ⊥

-- by exported calls: the same on records that calls take
pub record SharedRecordNeeded (d : Board) (k i : ℕ) : Type 0 where
  pub start : Machine (List ℕ)
  pub board : (unit_of (own_of k start).unit).board ≡ d
  pub log_a : List Call
  pub log_b : List Call
  pub pair : RecordPairOf alone_record (record_state_of k start) log_a log_b
  pub held : Held (state (unit_of (own_of k start).unit) (memory_of k start))
  pub taken : (load_call (own_of k start).unit).answer.number ≡ 0
  pub fit_a : AllFit log_a
  pub fit_b : AllFit log_b
  pub at_a : Places
  pub at_b : Places
  pub bytes : Bytes
  pub fit : AllFit (joined (seven at_a bytes)) × AllFit (joined (seven at_b bytes))
  pub differ : (own_of k (after_all by_record (all_by k (log_a ++ without i at_a bytes)) start)).unit ≡ (own_of k (after_all by_record (all_by k (log_b ++ without i at_b bytes)) start)).unit → ⊥
