-- Document 02, request 6: two units share the pattern tables and both line buffers. The machine, one unit's call, and calls by number.
use Rattle.std.specs.Prelude.{Bool, true, false, cond, ◌&&◌, List, [], ℕ, zero, suc, ◌%◌, ltb, eqb, replicate}
use Rattle.model.specs.declared.Ppu.{Ppu}
use Rattle.model.specs.declared.Answer.{Answer}
use Rattle.model.specs.declared.Access.{Access}
use Rattle.model.specs.Unit.{Memory, line_memory, with_lines, State, state, line_length, colours_length, is_well_formed, is_drawing}
use Rattle.model.specs.Line.{any_of, lines_run, line_count}
use Rattle.model.specs.Calls.{Call, read_call, write_call, dma_call, run_call, search_call, Outcome, outcome, outcome_on, refusal, refused_access, load_call, request_ok, long_for, in_range, blocked, done, gate, packed, Exported, export_of}

-- THE MACHINE. What is each unit's own: the unit, by value or as its record's bytes, nametable RAM, OAM and palette
pub record Own (U : Type 0) : Type 0 where
  pub unit : U
  pub nametables : List ℕ
  pub oam : List ℕ
  pub palette : List ℕ

abbrev pub owned : {U : Type 0} → U → List ℕ → List ℕ → List ℕ → Own U
owned u n o p = record { unit = u; nametables = n; oam = o; palette = p }

-- two of them, and in common the pattern tables and both line buffers
pub record Machine (U : Type 0) : Type 0 where
  pub first : Own U
  pub second : Own U
  pub left : List ℕ
  pub right : List ℕ
  pub line : List ℕ
  pub colours : List ℕ

abbrev pub machine : {U : Type 0} → Own U → Own U → List ℕ → List ℕ → List ℕ → List ℕ → Machine U
machine d e l r b f = record { first = d; second = e; left = l; right = r; line = b; colours = f }

-- unit 0's own, or unit 1's
abbrev pub own_of : {U : Type 0} → ℕ → Machine U → Own U
own_of zero m = m.first
own_of (suc k) m = m.second

-- what a call by unit k is lent: its own memory, and what is in common
abbrev pub memory_of : {U : Type 0} → ℕ → Machine U → Memory
memory_of k m = line_memory m.left m.right (own_of k m).nametables (own_of k m).oam (own_of k m).palette m.line m.colours

-- and the machine after it: the other's own stays
abbrev pub left_by : {U : Type 0} → ℕ → U → Memory → Machine U → Machine U
left_by zero u a m = machine (owned u a.cells.nametables a.cells.oam a.cells.palette) m.second a.cells.left a.cells.right a.line a.colours
left_by (suc k) u a m = machine m.first (owned u a.cells.nametables a.cells.oam a.cells.palette) a.cells.left a.cells.right a.line a.colours

-- ONE UNIT'S CALL, on what it is lent. The order of the checks: 5, 3, 6 for a board with writable pattern memory, 2 for the memory lent, 1, 4
unfoldable pub unit_order : Bool → Bool → Bool → Bool → Bool → Bool → ℕ
unit_order asked formed writable fits ranged shut = cond asked (cond formed (cond writable 6 (cond fits (cond ranged (cond shut 4 0) 1) 2)) 3) 5

unfoldable pub unit_refusal : Call → State → ℕ
unit_refusal c s =
    unit_order (request_ok c) (is_well_formed s.unit) s.unit.board.writable (long_for c s.unit s.memory) (in_range c) (is_drawing s.unit && blocked c)

-- the line that comes after j lines is one of 0 to 239
unfoldable pub pictures_line : State → ℕ → Bool
pictures_line s j = ltb (lines_run j s).unit.scanline 240

-- one of the next k lines is
unfoldable pub pictures_any : ℕ → State → Bool
pictures_any k s = any_of (pictures_line s) k

-- both line buffers filled with zeros
abbrev pub zeroed : Memory → Memory
zeroed m = with_lines m (replicate line_length 0) (replicate colours_length 0)

-- accepted: as a call on one unit; but a run with none of lines 0 to 239 fills both line buffers with zeros, also with n = 0
unfoldable pub unit_done : Call → State → Outcome
unit_done (run_call l why n) s =
    let o : Outcome = done (run_call l why n) s in
    cond (pictures_any (line_count why n s) s) o (outcome o.answer (state o.after.unit (zeroed o.after.memory)))
unit_done (read_call l a) s = done (read_call l a) s
unit_done (write_call l a b) s = done (write_call l a b) s
unit_done (dma_call l p) s = done (dma_call l p) s
unit_done (search_call l n) s = done (search_call l n) s

unfoldable pub unit_call : Call → State → Outcome
unit_call c s = gate (unit_refusal c s) (unit_done c s) s

-- the same by the unit of a record, for C: 5, then 2 and 3 for the record, then the call's own
unfoldable pub unit_on_record : Call → List ℕ → Memory → Outcome
unit_on_record c l m =
    let x : Access = load_call l in
    cond (request_ok c) (cond (eqb x.answer.number 0) (unit_call c (state x.unit m)) (outcome_on x m)) (outcome_on (refused_access 5 x.unit) m)

unfoldable pub unit_export : Call → List ℕ → Memory → Exported
unit_export c l m = export_of l (unit_on_record c l m)

-- BY NUMBER. What one unit's call leaves: its answer, the unit, and the memory lent
pub record Left (A U : Type 0) : Type 0 where
  pub answer : A
  pub unit : U
  pub memory : Memory

abbrev pub left : {A U : Type 0} → A → U → Memory → Left A U
left a u m = record { answer = a; unit = u; memory = m }

-- units by value, or as their records' bytes: what a call leaves, the answer with a number alone, and the number of an answer
pub record Units (A U : Type 0) : Type 0 where
  pub leaves : Call → U → Memory → Left A U
  pub refused : ℕ → A
  pub number : A → ℕ

abbrev pub by_value : Units Answer Ppu
by_value =
    record {
      leaves = λ c u m. let o : Outcome = unit_call c (state u m) in left o.answer o.after.unit o.after.memory;
      refused = λ n. refusal n;
      number = λ a. a.number;
    }

abbrev pub by_record : Units ℕ (List ℕ)
by_record =
    record {
      leaves = λ c l m. let e : Exported = unit_export c l m in left e.result e.bytes e.memory;
      refused = λ n. packed (refusal n);
      number = λ r. r % 256;
    }

-- what a call by number comes to: its answer, and the machine after it
pub record Turn (A U : Type 0) : Type 0 where
  pub answer : A
  pub after : Machine U

abbrev pub turn : {A U : Type 0} → A → Machine U → Turn A U
turn a m = record { answer = a; after = m }

-- 7 for another number than 0 or 1, before all else; else the call by that unit
abbrev pub by_number : {A U : Type 0} → Units A U → ℕ → Call → Machine U → Turn A U
by_number p k c m =
    let x = p.leaves c (own_of k m).unit (memory_of k m) in
    cond (ltb k 2) (turn x.answer (left_by k x.unit x.memory m)) (turn (p.refused 7) m)

unfoldable pub shared_call : ℕ → Call → Machine Ppu → Turn Answer Ppu
shared_call k c m = by_number by_value k c m

unfoldable pub shared_export : ℕ → Call → Machine (List ℕ) → Turn ℕ (List ℕ)
shared_export k c m = by_number by_record k c m

-- what the code is lent, the rest empty: an access no line buffer, sprite DMA only OAM, a run all
abbrev pub access_machine : {U : Type 0} → U → U → List ℕ → List ℕ → List ℕ → List ℕ → List ℕ → List ℕ → List ℕ → List ℕ → Machine U
access_machine u v l r n n' o o' p p' = machine (owned u n o p) (owned v n' o' p') l r [] []

abbrev pub dma_machine : {U : Type 0} → U → U → List ℕ → List ℕ → Machine U
dma_machine u v o o' = machine (owned u [] o []) (owned v [] o' []) [] [] [] []

abbrev pub run_machine : {U : Type 0} → U → U → List ℕ → List ℕ → List ℕ → List ℕ → List ℕ → List ℕ → List ℕ → List ℕ → List ℕ → List ℕ → Machine U
run_machine u v l r n n' o o' p p' b f = machine (owned u n o p) (owned v n' o' p') l r b f
