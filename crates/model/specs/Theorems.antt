-- What is proved of the definitions: the statements. proofs/Theorems.antt has the proof of each.
use Rattle.std.specs.Prelude.{◌≡◌, Bool, true, false, cond, not, ◌&&◌, ◌||◌, List, [], ◌∷◌, ◌++◌, map, ◌⊎◌, ℕ, ◌+◌, ◌-◌, ◌*◌, ◌/◌, ◌%◌, ◌≤◌, ◌<◌, min, leb, length}
use Rattle.model.specs.declared.Board.{Board}
use Rattle.model.specs.declared.Ppu.{Ppu}
use Rattle.model.specs.declared.Wiring.TheVariants.{Horizontal, Vertical, FirstPage, SecondPage, FourPages}
use Rattle.model.specs.declared.Answer.{Answer}
use Rattle.model.specs.Unit.{nametable_length, oam_length, line_length, colours_length, Cells, Memory, with_cells, with_lines, access_memory, dma_memory, State, state, fresh, zero_unit, record_length, bit, last_line, is_well_formed, is_rendering, is_drawing, nmi_level}
use Rattle.model.specs.Record.{at, unit_of, record_of, record_ok, bit_byte, board_byte, board_at}
use Rattle.model.specs.Address.{wiring_number, page_at, cell_of, palette_cell, nametable_byte, with_oam, quarter_part}
use Rattle.model.specs.Ports.{port_of, data_byte}
use Rattle.model.specs.Sprites.{covers, count_of, tried, overflows, looked_at}
use Rattle.model.specs.Colours.{shown_cell, colour_at, numbers_of}
use Rattle.model.specs.Line.{any_of, hit_of, one_line, lines_run, meets_reason, line_count, reason_met}
use Rattle.model.specs.Calls.{made, unmade, fresh_call, load_call, saved, save_call, refusal, Lent, own, other, Call, read_call, write_call, dma_call, run_call, search_call, Outcome, outcome, line_long, long_for, request_ok, in_range, blocked, refusal_of, on_lent, lent_of, given, call, packed, Exported, exported, on_record, exported_call}
use Rattle.model.specs.Reload.{end, total, trace, data_call, At, Places, Bytes, seven, joined, reload, step, without, Pair, Alike, Within, all_below, Held, LentFits, Fits, AllFit, Needed, end_of}
use Rattle.model.specs.RecordLog.{RecordState, record_state, record_given, record_call, record_trace, record_system, RecordPair, RecordNeeded, RecordAlike}
use Rattle.model.specs.Log.{record_known, record_call as records_call, play_call, exported_play}
use Rattle.model.specs.Scroll.{nametable, row, column}
use Rattle.model.specs.Background.{tile_at}
use Rattle.model.specs.Text.{nametable_page, table_length, rows_length, character_of, rows_of, bare_count, page_of, text_answer, written, text_call, page_call, written_for_c, exported_text}

-- every number of a list is below n; is a byte
abbrev pub AreBelow : ℕ → List ℕ → Type 0
AreBelow n l = (k : ℕ) → at l k < n

abbrev pub AreBytes : List ℕ → Type 0
AreBytes l = AreBelow 256 l

-- DEMAND 1. The number of a call is the first of 5, 3, 2, 1, 4 that holds, and 0 if none does; on a record the first of 5, 2 for the record, 3, and then
-- the call's own. A refused call changes nothing, and its packed answer is its number
pub record Refusals : Type 0 where
  pub number : (c : Call) (s : State) → (on_lent c s).answer.number ≡ refusal_of c s
  pub is_5 : (c : Call) (s : State) → request_ok c ≡ false → refusal_of c s ≡ 5
  pub is_3 : (c : Call) (s : State) → request_ok c ≡ true → is_well_formed s.unit ≡ false → refusal_of c s ≡ 3
  pub is_2 : (c : Call) (s : State) → request_ok c ≡ true → is_well_formed s.unit ≡ true → long_for c s.unit s.memory ≡ false → refusal_of c s ≡ 2
  pub is_1 : (c : Call) (s : State) → request_ok c ≡ true → is_well_formed s.unit ≡ true → long_for c s.unit s.memory ≡ true → in_range c ≡ false → refusal_of c s ≡ 1
  pub is_4 : (c : Call) (s : State) → request_ok c ≡ true → is_well_formed s.unit ≡ true → long_for c s.unit s.memory ≡ true → in_range c ≡ true
      → is_drawing s.unit ≡ true → blocked c ≡ true → refusal_of c s ≡ 4
  pub is_0 : (c : Call) (s : State) → request_ok c ≡ true → is_well_formed s.unit ≡ true → long_for c s.unit s.memory ≡ true → in_range c ≡ true
      → (is_drawing s.unit ≡ false) ⊎ (blocked c ≡ false) → refusal_of c s ≡ 0
  pub record_5 : (c : Call) (l : List ℕ) (m : Memory) → request_ok c ≡ false → (on_record c l m).answer.number ≡ 5
  pub record_2 : (c : Call) (l : List ℕ) (m : Memory) → request_ok c ≡ true → (length l ≡ record_length → ⊥) → (on_record c l m).answer.number ≡ 2
  pub record_3 : (c : Call) (l : List ℕ) (m : Memory) → request_ok c ≡ true → length l ≡ record_length → record_ok l ≡ false → (on_record c l m).answer.number ≡ 3
  pub record_call_lem : (c : Call) (l : List ℕ) (m : Memory) → request_ok c ≡ true → length l ≡ record_length → record_ok l ≡ true → on_record c l m ≡ on_lent c (state (unit_of l) m)
  pub refused : (c : Call) (s : State) → ((on_lent c s).answer.number ≡ 0 → ⊥) → on_lent c s ≡ outcome (refusal (on_lent c s).answer.number) s
  pub exported_refused : (c : Call) (l : List ℕ) (m : Memory) → ((on_record c l m).answer.number ≡ 0 → ⊥) → exported_call c l m ≡ exported (on_record c l m).answer.number l m

-- for C: where an answer's parts stand in its packed number
pub record PackedParts (a : Answer) : Type 0 where
  pub number_at_lem : a.number < 256 → packed a % 256 ≡ a.number
  pub byte_at_lem : a.number < 256 → a.byte < 256 → packed a / 256 % 256 ≡ a.byte
  pub nmi_at : a.number < 256 → a.byte < 256 → packed a / 65536 % 2 ≡ bit_byte a.nmi
  pub met_at : a.number < 256 → a.byte < 256 → packed a / 131072 % 128 ≡ bit_byte a.met
  pub looked_at_lem : a.number < 256 → a.byte < 256 → a.looked < 256 → packed a / 16777216 % 256 ≡ a.looked
  pub lines_at : a.number < 256 → a.byte < 256 → a.looked < 256 → packed a / 4294967296 ≡ a.lines

-- DEMAND 2, the saved unit. Saved and read back it is the same unit; a well-formed record, read and saved again, is the same bytes;
-- and no call makes an ill-formed unit of a well-formed one
pub record RoundTrips : Type 0 where
  pub unit_back : (u : Ppu) (l : List ℕ) → is_well_formed u ≡ true → length l ≡ record_length → load_call (save_call u l).bytes ≡ made u
  pub record_back : (l l' : List ℕ) → AreBytes l → (load_call l).answer.number ≡ 0 → length l' ≡ record_length → save_call (load_call l).unit l' ≡ saved (made (load_call l).unit) l
  pub stays_formed : (c : Call) (s : State) → is_well_formed s.unit ≡ true → is_well_formed (call c s).after.unit ≡ true

-- WHAT IS NOT LENT to a call is neither read nor touched.
-- What a call is lent of m, the rest empty: an access all but the line buffers, sprite DMA and a search only OAM, a run all
abbrev pub lent_to : Call → Memory → Memory
lent_to (read_call l a) m = access_memory m.cells.left m.cells.right m.cells.nametables m.cells.oam m.cells.palette
lent_to (write_call l a b) m = access_memory m.cells.left m.cells.right m.cells.nametables m.cells.oam m.cells.palette
lent_to (dma_call l p) m = dma_memory m.cells.oam
lent_to (run_call l why n) m = m
lent_to (search_call l n) m = dma_memory m.cells.oam

-- o, with what was not lent put back from m
abbrev pub restored : Call → Memory → Memory → Memory
restored (read_call l a) m o = with_lines o m.line m.colours
restored (write_call l a b) m o = with_lines o m.line m.colours
restored (dma_call l p) m o = with_cells m (with_oam m.cells o.cells.oam)
restored (run_call l why n) m o = o
restored (search_call l n) m o = with_cells m (with_oam m.cells o.cells.oam)

abbrev pub restores : Call → Memory → Outcome → Outcome
restores c m o = outcome o.answer (state o.after.unit (restored c m o.after.memory))

-- a call on m is the call on what it is lent of m, with the rest put back; and so is an exported call
pub record Frames : Type 0 where
  pub frame : (c : Call) (u : Ppu) (m : Memory) → on_lent c (state u m) ≡ restores c m (on_lent c (state u (lent_to c m)))
  pub exported_frame : (c : Call) (l : List ℕ) (m : Memory)
      → exported_call c l m ≡ (let e : Exported = exported_call c l (lent_to c m) in exported e.result e.bytes (restored c m e.memory))
  -- sprite DMA and a search are lent OAM alone
  pub oam_alone : (l : Lent) (p : List ℕ) (n : ℕ) (m m' : Memory) → m.cells.oam ≡ m'.cells.oam
      → (lent_to (dma_call l p) m ≡ lent_to (dma_call l p) m') × (lent_to (search_call l n) m ≡ lent_to (search_call l n) m')

-- CALLS OF A LOG. Lent the unit's own memory, a call leaves that as the call makes it; lent other memory, it is the call over that, and the
-- unit's own stays
pub record Lending : Type 0 where
  pub lent_of_lem : (l : Lent) (a b n : ℕ) (p : List ℕ)
      → (lent_of (read_call l a) ≡ l) × (lent_of (write_call l a b) ≡ l) × (lent_of (dma_call l p) ≡ l) × (lent_of (run_call l b n) ≡ l) × (lent_of (search_call l n) ≡ l)
  pub own_memory_lem : (c : Call) (s : State) → lent_of c ≡ own → call c s ≡ (let o : Outcome = on_lent c s in given o.answer o.after o.after.memory)
  pub other_memory : (c : Call) (s : State) (m : Memory) → lent_of c ≡ other m
      → call c s ≡ (let o : Outcome = on_lent c (state s.unit m) in given o.answer (state o.after.unit s.memory) o.after.memory)
  pub own_record : (c : Call) (s : RecordState) → lent_of c ≡ own
      → record_call c s ≡ (let e : Exported = exported_call c s.bytes s.memory in record_given e.result (record_state e.bytes e.memory) e.memory)
  pub other_record : (c : Call) (s : RecordState) (m : Memory) → lent_of c ≡ other m
      → record_call c s ≡ (let e : Exported = exported_call c s.bytes m in record_given e.result (record_state e.bytes s.memory) e.memory)
  pub record_answer : (c : Call) (s : RecordState) → (record_call c s).result ≡ packed (record_system.reply c s)

-- each call gets the unit and memory as the last one left them: one call is itself, and joined logs are joined traces
pub record Traces : Type 0 where
  pub one : (c : Call) (s : State) → (trace (c ∷ []) s ≡ call c s ∷ []) × (end (c ∷ []) s ≡ (call c s).after) × (total (c ∷ []) s ≡ (call c s).answer.lines)
  pub joined_trace : (a b : List Call) (s : State) → trace (a ++ b) s ≡ trace a s ++ trace b (end a s)
  pub joined_end : (a b : List Call) (s : State) → end (a ++ b) s ≡ end b (end a s)
  pub joined_total : (a b : List Call) (s : State) → total (a ++ b) s ≡ total a s + total b (end a s)
  pub one_record : (c : Call) (s : RecordState) → (record_trace (c ∷ []) s ≡ record_call c s ∷ []) × (end_of record_system (c ∷ []) s ≡ (record_call c s).after)
  pub joined_records : (a b : List Call) (s : RecordState) → record_trace (a ++ b) s ≡ record_trace a s ++ record_trace b (end_of record_system a s)

-- data calls are sprite DMA and writes of ports 4 and 7, and no others
pub record DataCalls : Type 0 where
  pub data_dma : (l : Lent) (p : List ℕ) → data_call (dma_call l p) ≡ true
  pub data_write : (l : Lent) (a b : ℕ) → (port_of a ≡ 4) ⊎ (port_of a ≡ 7) → data_call (write_call l a b) ≡ true
  pub no_data_write : (l : Lent) (a b : ℕ) → (port_of a ≡ 4 → ⊥) → (port_of a ≡ 7 → ⊥) → data_call (write_call l a b) ≡ false
  pub no_data : (l : Lent) (a why n : ℕ)
      → (data_call (read_call l a) ≡ false) × (data_call (run_call l why n) ≡ false) × (data_call (search_call l n) ≡ false)

-- bytes are below 256, in a unit's record and in every memory, and finished colours are numbers of two bytes
pub record HeldBytes : Type 0 where
  pub below : (n : ℕ) → 0 < n → (l : List ℕ) → all_below n l ≡ true → AreBelow n l
  pub all_below_lem : (n : ℕ) (l : List ℕ) → AreBelow n l → all_below n l ≡ true
  pub held : (s : State) → Held s → AreBytes (record_of s.unit) × AreBytes s.memory.cells.left × AreBytes s.memory.cells.right
      × AreBytes s.memory.cells.nametables × AreBytes s.memory.cells.oam × AreBytes s.memory.cells.palette × AreBytes s.memory.line
      × AreBelow 65536 s.memory.colours
  pub formed : (s : State) → Held s → is_well_formed s.unit ≡ true

-- what fits a call: words of 16 bits, bytes, and memory of bytes
pub record Arguments : Type 0 where
  pub fits_read : (l : Lent) (a : ℕ) → Fits (read_call l a) → LentFits l × (a < 65536)
  pub fits_write : (l : Lent) (a b : ℕ) → Fits (write_call l a b) → LentFits l × (a < 65536) × (b < 256)
  pub fits_dma : (l : Lent) (p : List ℕ) → Fits (dma_call l p) → LentFits l × AreBytes p
  pub fits_run : (l : Lent) (why n : ℕ) → Fits (run_call l why n) → LentFits l × (why < 256) × (n < 65536)
  pub fits_search : (l : Lent) (n : ℕ) → Fits (search_call l n) → LentFits l × (n < 65536)
  pub fits_lent : (m : Memory) → LentFits (other m) → Held (state zero_unit m)
  pub fits_all : (c : Call) (cs : List Call) → AllFit (c ∷ cs) → Fits c × AllFit cs

-- step k can be spared with board d: from units, memories and logs that bytes can hold the reload without it makes the units equal
abbrev pub Spared : Board → ℕ → Type 0
Spared d k =
    (s : State) (la lb : List Call) → s.unit.board ≡ d → Pair data_call s la lb → Held s → AllFit la → AllFit lb → (pa pb : Places) (b : Bytes) → AllFit (joined (seven pa b)) → AllFit (joined (seven pb b))
    → record_of (end (without k pa b) (end la s)).unit ≡ record_of (end (without k pb b) (end lb s)).unit

-- DEMAND 3. After the reload units and memories are equal, and all that follows; and none of its seven steps can be spared, with any board.
-- The same of the exported calls, on records
pub record ReloadTheorem : Type 0 where
  pub demand3 : (s : State) (la lb : List Call) → Pair data_call s la lb → (pa pb : Places) (b : Bytes) → Alike (end (reload pa b) (end la s)) (end (reload pb b) (end lb s))
  pub record_demand3 : (s : RecordState) (la lb : List Call) → RecordPair s la lb → (pa pb : Places) (b : Bytes)
      → RecordAlike (end_of record_system (reload pa b) (end_of record_system la s)) (end_of record_system (reload pb b) (end_of record_system lb s))
  pub needed : (d : Board) (k : ℕ) → k < 7 → Needed d k
  pub record_needed : (d : Board) (k : ℕ) → k < 7 → RecordNeeded d k
  pub not_spared : (d : Board) (k : ℕ) → k < 7 → Spared d k → ⊥
  pub alike : (s t : State) → Alike s t → s ≡ t
  pub record_alike : (s t : RecordState) → RecordAlike s t → s ≡ t
  -- within lines 240 to 260 nothing is drawn, so that no call of such a log is refused with 4
  pub never_4 : (c : Call) (s : State) → Within s → (call c s).answer.number ≡ 4 → ⊥

-- a reload's calls may be at any mirror of their port
pub record Mirrors : Type 0 where
  pub every_mirror : (a : ℕ) → 8192 ≤ a → a < 16384 → (m : At (port_of a)) × (m.addr ≡ a)

-- the reload has seven steps, in nine calls; without step k it is what stands before that and what stands behind
pub record Steps (a : Places) (b : Bytes) : Type 0 where
  pub seven_steps : length (seven a b) ≡ 7
  pub nine_calls : length (reload a b) ≡ 9
  pub left_out : (k : ℕ) → k < 7 → (front : List Call) × (back : List Call) × (reload a b ≡ front ++ (step k a b ++ back)) × (without k a b ≡ front ++ back)

-- THE RECORD AT THE FRONT OF A LOG is played as its call; 5 before all other numbers where it is unknown or cut short. For C the same, on a
-- saved unit's record, and what that makes of a unit's record is what the call makes of the unit, saved
pub record PlayedRecords : Type 0 where
  pub known : (k h l b : ℕ) (r : List ℕ) (s : State) → record_known k b ≡ true → play_call (k ∷ h ∷ l ∷ b ∷ r) s ≡ on_lent (records_call k (h * 256 + l) b) s
  pub unknown : (k h l b : ℕ) (r : List ℕ) (s : State) → record_known k b ≡ false → play_call (k ∷ h ∷ l ∷ b ∷ r) s ≡ outcome (refusal 5) s
  pub cut_short : (log : List ℕ) (s : State) → length log < 4 → play_call log s ≡ outcome (refusal 5) s
  pub exported_known : (k h l b : ℕ) (r u : List ℕ) (m : Memory) → record_known k b ≡ true → exported_play (k ∷ h ∷ l ∷ b ∷ r) u m ≡ exported_call (records_call k (h * 256 + l) b) u m
  pub exported_unknown : (k h l b : ℕ) (r u : List ℕ) (m : Memory) → record_known k b ≡ false → exported_play (k ∷ h ∷ l ∷ b ∷ r) u m ≡ exported 5 u m
  pub exported_cut : (log u : List ℕ) (m : Memory) → length log < 4 → exported_play log u m ≡ exported 5 u m
  pub exported_play_lem : (log : List ℕ) (u : Ppu) (m : Memory) → is_well_formed u ≡ true
      → exported_play log (record_of u) m ≡ (let o : Outcome = play_call log (state u m) in exported (packed o.answer) (record_of o.after.unit) o.after.memory)
  pub runs_on : (h l : ℕ) → records_call 2 (h * 256 + l) 0 ≡ run_call own 0 (h * 256 + l)

-- DOCUMENT 02, REQUEST 1. The colour of a pixel number: its upper bits are mask bits 7-5, its lower six the palette byte of the cell shown, with
-- $30 if mask bit 0. The cell is that of the pixel number; with mask bits 3 and 4 clear and v from $3F00 the one at v, as a read of port 7 gives it
pub record Colours (u : Ppu) (p : List ℕ) (n : ℕ) : Type 0 where
  pub colour_small : colour_at u p n < 512
  pub colour_emphasis : colour_at u p n / 64 ≡ u.mask / 32 % 8
  pub colour_plain : bit 1 u.mask ≡ false → colour_at u p n % 64 ≡ at p (shown_cell u n) % 64
  pub colour_grey : bit 1 u.mask ≡ true → colour_at u p n % 64 ≡ at p (shown_cell u n) % 64 / 16 * 16
  pub cell_drawn : is_rendering u ≡ true → shown_cell u n ≡ n
  pub cell_off : u.v % 16384 < 16128 → shown_cell u n ≡ n
  pub cell_override : is_rendering u ≡ false → 16128 ≤ u.v % 16384 → shown_cell u n ≡ palette_cell (u.v % 16384)
  pub override_read : is_rendering u ≡ false → 16128 ≤ u.v % 16384 → (m : Cells) → m.palette ≡ p → colour_at u p n % 64 ≡ data_byte u m % 64

-- the colours of a line are those of its pixel numbers, of which none is a mirror of a cell (16, 20, 24, 28); of a line that is off, 256 times that
-- of number 0; lines 240 to 261 touch neither buffer, and no line touches what else is lent
pub record ColouredLines (s : State) : Type 0 where
  pub line_colours : s.unit.scanline < 240 → (one_line s).memory.colours ≡ map (colour_at s.unit s.memory.cells.palette) (one_line s).memory.line
  pub line_cell : s.unit.scanline < 240 → (k : ℕ) → k < line_length → palette_cell (at (one_line s).memory.line k) ≡ at (one_line s).memory.line k
  pub line_long_lem : s.unit.scanline < 240 → length (one_line s).memory.colours ≡ colours_length
  pub line_off : s.unit.scanline < 240 → is_rendering s.unit ≡ false → (k : ℕ) → k < line_length
      → (at (one_line s).memory.line k ≡ 0) × (at (one_line s).memory.colours k ≡ colour_at s.unit s.memory.cells.palette 0)
  pub line_blank : 240 ≤ s.unit.scanline → (one_line s).memory ≡ s.memory
  pub line_lent : (one_line s).memory.cells ≡ s.memory.cells

-- for C the colours are 512 bytes, number k at 2 k and 2 k + 1, low byte first; no other count of bytes is 256 numbers, and bytes that are
-- the same numbers are the same bytes
pub record ColourBytes (l : List ℕ) : Type 0 where
  pub low_first : length l ≡ 2 * colours_length → (k : ℕ) → k < colours_length → at (numbers_of l) k ≡ at l (2 * k) + at l (2 * k + 1) * 256
  pub numbers_long : length l ≡ 2 * colours_length → length (numbers_of l) ≡ colours_length
  pub bytes_long : length (numbers_of l) ≡ colours_length → length l ≡ 2 * colours_length
  pub bytes_same : (l' : List ℕ) → length l ≡ length l' → AreBytes l → AreBytes l' → numbers_of l ≡ numbers_of l' → l ≡ l'

-- DOCUMENT 02, REQUEST 2. The place of the eighth sprite in range of line n
abbrev pub IsEighth : ℕ → List ℕ → ℕ → ℕ → Type 0
IsEighth c o n e = (count_of (covers c o n) e ≡ 7) × (covers c o n e ≡ true)

-- the search, and what its steps come to. With fewer than eight in range the bit is not set. After the eighth, at e, byte 0 of sprite e + 1 is tried, byte 1
-- of the next and so on, 3 being followed by 0: the first in range sets the bit, and is the last looked at; if there is none, the bit is not set.
-- Set: eight in range stand before the last looked at. Not set: all 64 were looked at. Nine in a row, with none before: set at the ninth
pub record Searches (c : ℕ) (o : List ℕ) (n : ℕ) : Type 0 where
  pub few_not_set : count_of (covers c o n) 64 < 8 → overflows c o n ≡ false
  pub first_in_range : (e j : ℕ) → IsEighth c o n e → e + 1 + j < 64 → ((i : ℕ) → i < j → tried c o n (e + 1 + i) (i % 4) ≡ false) → tried c o n (e + 1 + j) (j % 4) ≡ true
      → (overflows c o n ≡ true) × (looked_at c o n ≡ e + 2 + j)
  pub none_in_range : (e : ℕ) → IsEighth c o n e → e < 64 → ((i : ℕ) → e + 1 + i < 64 → tried c o n (e + 1 + i) (i % 4) ≡ false) → overflows c o n ≡ false
  pub set_looked : overflows c o n ≡ true → (9 ≤ looked_at c o n) × (8 ≤ count_of (covers c o n) (looked_at c o n - 1))
  pub not_set_looked : overflows c o n ≡ false → looked_at c o n ≡ 64
  pub looked_most : looked_at c o n ≤ 64
  pub nine_in_a_row : (i : ℕ) → i + 9 ≤ 64 → count_of (covers c o n) i ≡ 0 → ((j : ℕ) → j < 9 → covers c o n (i + j) ≡ true)
      → (overflows c o n ≡ true) × (looked_at c o n ≡ i + 9)

-- the call: 5 for a line above 239, first; done it reports the search by control and OAM alone, and leaves unit and memory. A drawn line's
-- status bit 5 is set by the search on that line. No other call reports sprites looked at
pub record SearchCalls (s : State) : Type 0 where
  pub search_5 : (l : Lent) (n : ℕ) → 240 ≤ n → on_lent (search_call l n) s ≡ outcome (refusal 5) s
  pub exported_search_5 : (l : Lent) (n : ℕ) → 240 ≤ n → (b : List ℕ) → exported_call (search_call l n) b s.memory ≡ exported 5 b s.memory
  pub search_0 : (l : Lent) (n : ℕ) → n < 240 → length s.memory.cells.oam ≡ oam_length → is_well_formed s.unit ≡ true
      → on_lent (search_call l n) s
      ≡ outcome (record { number = 0; byte = 0; lines = 0; nmi = nmi_level s.unit; met = false; looked = looked_at s.unit.control s.memory.cells.oam n }) s
  pub search_keeps : (l : Lent) (n : ℕ) → (on_lent (search_call l n) s).after ≡ s
  pub line_overflow : s.unit.scanline < 240 → is_rendering s.unit ≡ true
      → bit 32 (one_line s).unit.status ≡ (bit 32 s.unit.status || overflows s.unit.control s.memory.cells.oam s.unit.scanline)
  pub line_off_keeps : s.unit.scanline < 240 → is_rendering s.unit ≡ false → (one_line s).unit.status ≡ s.unit.status
  pub looked_none : (l : Lent) (a b why n : ℕ) (p : List ℕ) → ((on_lent (read_call l a) s).answer.looked ≡ 0) × ((on_lent (write_call l a b) s).answer.looked ≡ 0)
      × ((on_lent (dma_call l p) s).answer.looked ≡ 0) × ((on_lent (run_call l why n) s).answer.looked ≡ 0)

-- DOCUMENT 02, REQUEST 3. Document 01's formula: from next line p, line 241 has run after ((241 - p) mod 262) + 1 lines
abbrev pub until_vblank : Board → ℕ → ℕ
until_vblank d p = (241 + (last_line d + 1) - p) % (last_line d + 1) + 1

-- the line that a run from s comes to after k lines meets its reason
abbrev pub meets_at : ℕ → ℕ → State → Bool
meets_at why k s = meets_reason why (lines_run k s).unit (one_line (lines_run k s)).unit

-- a run of at most n lines from s. It stops after the first line that meets its reason, and then it is met, on the last of the n lines too; with none
-- among them it runs all n, and it is not met. 0: never met. 1: the formula, or n without control bit 7; met exactly if that bit is set and the
-- formula's number is at most n, and then next line is 242. 2: met by a line before which status bit 6 is 0 and after which it is 1
pub record Runs (s : State) (n : ℕ) : Type 0 where
  pub met_first : (why k : ℕ) → k < n → ((i : ℕ) → i < k → meets_at why i s ≡ false) → meets_at why k s ≡ true → (line_count why n s ≡ k + 1) × (reason_met why n s ≡ true)
  pub met_none : (why : ℕ) → ((i : ℕ) → i < n → meets_at why i s ≡ false) → (line_count why n s ≡ n) × (reason_met why n s ≡ false)
  pub no_reason : (k : ℕ) → meets_at 0 k s ≡ false
  pub nmi_count : is_well_formed s.unit ≡ true → line_count 1 n s ≡ cond (bit 128 s.unit.control) (min n (until_vblank s.unit.board s.unit.scanline)) n
  pub nmi_met : is_well_formed s.unit ≡ true → reason_met 1 n s ≡ (bit 128 s.unit.control && leb (until_vblank s.unit.board s.unit.scanline) n)
  pub nmi_next : is_well_formed s.unit ≡ true → reason_met 1 n s ≡ true → (lines_run (line_count 1 n s) s).unit.scanline ≡ 242
  pub hit_rises : (k : ℕ) → meets_at 2 k s ≡ (not (bit 64 (lines_run k s).unit.status) && bit 64 (one_line (lines_run k s)).unit.status)

-- the call: 5 for an unknown reason, first; done it reports lines run, the NMI level after them and whether the reason was met. The next line is as many
-- lines further as it reports. With n = 0 nothing changes and nothing is met; with n = 1 a line is run. No other call reports lines or a reason met. A drawn line sets status
-- bit 6 by sprite 0's hit, and no other line sets it
pub record RunCalls (s : State) : Type 0 where
  pub run_5 : (l : Lent) (why n : ℕ) → 3 ≤ why → on_lent (run_call l why n) s ≡ outcome (refusal 5) s
  pub exported_run_5 : (l : Lent) (why n : ℕ) → 3 ≤ why → (b : List ℕ) → exported_call (run_call l why n) b s.memory ≡ exported 5 b s.memory
  pub run_0 : (l : Lent) (why n : ℕ) → why < 3 → line_long s.unit s.memory ≡ true → is_well_formed s.unit ≡ true
      → on_lent (run_call l why n) s
      ≡ (let t : State = lines_run (line_count why n s) s in outcome (record { number = 0; byte = 0; lines = line_count why n s; nmi = nmi_level t.unit; met = reason_met why n s; looked = 0 }) t)
  pub run_next : (l : Lent) (why n : ℕ) → is_well_formed s.unit ≡ true
      → (on_lent (run_call l why n) s).after.unit.scanline ≡ (s.unit.scanline + (on_lent (run_call l why n) s).answer.lines) % (last_line s.unit.board + 1)
  pub run_nothing : (l : Lent) (why : ℕ) → ((on_lent (run_call l why 0) s).after ≡ s) × ((on_lent (run_call l why 0) s).answer.lines ≡ 0) × ((on_lent (run_call l why 0) s).answer.met ≡ false)
  pub run_one : (why : ℕ) → (line_count why 1 s ≡ 1) × (reason_met why 1 s ≡ meets_reason why s.unit (one_line s).unit)
  pub no_lines : (l : Lent) (a b n : ℕ) (p : List ℕ) → ((on_lent (read_call l a) s).answer.lines ≡ 0) × ((on_lent (write_call l a b) s).answer.lines ≡ 0)
      × ((on_lent (dma_call l p) s).answer.lines ≡ 0) × ((on_lent (search_call l n) s).answer.lines ≡ 0)
  pub no_met : (l : Lent) (a b n : ℕ) (p : List ℕ) → ((on_lent (read_call l a) s).answer.met ≡ false) × ((on_lent (write_call l a b) s).answer.met ≡ false)
      × ((on_lent (dma_call l p) s).answer.met ≡ false) × ((on_lent (search_call l n) s).answer.met ≡ false)
  pub line_hit : s.unit.scanline < 240 → is_rendering s.unit ≡ true
      → bit 64 (one_line s).unit.status
      ≡ (bit 64 s.unit.status || any_of (hit_of s.unit s.memory.cells.left s.memory.cells.right s.memory.cells.nametables s.memory.cells.oam) line_length)
  pub line_no_hit : 240 ≤ s.unit.scanline → bit 64 s.unit.status ≡ false → bit 64 (one_line s).unit.status ≡ false

-- DOCUMENT 02, REQUEST 5. Nametable RAM by the board, and every page and cell of it in that; with four pages each address of $2000-$2FFF has a cell of
-- its own
pub record BoardPages (d : Board) : Type 0 where
  pub four_length : d.wiring ≡ FourPages → nametable_length d ≡ 4096
  pub other_length : (d.wiring ≡ FourPages → ⊥) → nametable_length d ≡ 2048
  pub page_in : (q : ℕ) → q < 4 → page_at (wiring_number d.wiring) q * 1024 + 1024 ≤ nametable_length d
  pub cell_in : (a : ℕ) → cell_of d.wiring a < nametable_length d
  pub four_cells : d.wiring ≡ FourPages → (k : ℕ) → k < 4096 → cell_of d.wiring (8192 + k) ≡ k

-- board codes: five wirings, with and without 8 for writable pattern memory, and no others; 4 and 12 have four pages; every board has its code
pub record BoardCodes : Type 0 where
  pub code_taken : (n : ℕ) → n < 16 → n % 8 < 5 → fresh_call n ≡ made (fresh (board_at n))
  pub code_refused : (n : ℕ) → (n < 16 → n % 8 < 5 → ⊥) → fresh_call n ≡ unmade 3
  pub code_wirings : map (λ n. (board_at n).wiring) (0 ∷ 1 ∷ 2 ∷ 3 ∷ 4 ∷ 8 ∷ 9 ∷ 10 ∷ 11 ∷ 12 ∷ [])
      ≡ Horizontal ∷ Vertical ∷ FirstPage ∷ SecondPage ∷ FourPages ∷ Horizontal ∷ Vertical ∷ FirstPage ∷ SecondPage ∷ FourPages ∷ []
  pub code_back : (d : Board) → board_at (board_byte d) ≡ d
  pub code_ok : (d : Board) → (board_byte d < 16) × (board_byte d % 8 < 5)

-- DOCUMENT 02, REQUEST 10. The page of a quarter: byte k of it is the one that answers at $2000 + 1024 q + k, with q modulo 4
pub record QuarterPages (d : Board) (n : List ℕ) (q : ℕ) : Type 0 where
  pub quarter_byte : length n ≡ nametable_length d → (k : ℕ) → k < nametable_page → at (quarter_part d n q) k ≡ nametable_byte d.wiring n (8192 + 1024 * (q % 4) + k)
  pub quarter_length : length n ≡ nametable_length d → length (quarter_part d n q) ≡ nametable_page
  pub quarter_empty : (length n ≡ nametable_length d → ⊥) → quarter_part d n q ≡ []

-- a page, a table and rows of the lengths that the calls of the text layer take
abbrev pub TextLengths : List ℕ → List ℕ → List ℕ → Type 0
TextLengths p t r = (length p ≡ nametable_page) × (length t ≡ table_length) × (length r ≡ rows_length)

-- a character that is not byte 0 and stands in the table
abbrev pub Stands : List ℕ → ℕ → Type 0
Stands t c = (c ≡ 0 → ⊥) × (i : ℕ) × (i < length t) × (at t i ≡ c)

-- the text of a page p by a table t, over rows r: 2 by length and nothing else; a tile without a character becomes a space and is counted
pub record Rows (p t r : List ℕ) : Type 0 where
  pub text_2 : (TextLengths p t r → ⊥) → text_call p t r ≡ written (text_answer 2 0) r
  pub text_0 : TextLengths p t r → text_call p t r ≡ written (text_answer 0 (bare_count t p)) (rows_of t p)
  pub rows_long : length (rows_of t p) ≡ rows_length
  pub row_character : (k : ℕ) → k < rows_length → (at t (at p k) ≡ 0 → ⊥) → at (rows_of t p) k ≡ at t (at p k)
  pub row_space : (k : ℕ) → k < rows_length → at t (at p k) ≡ 0 → at (rows_of t p) k ≡ 32
  pub none_bare : ((k : ℕ) → k < rows_length → at t (at p k) ≡ 0 → ⊥) → bare_count t p ≡ 0
  pub one_more : (p' : List ℕ) (k : ℕ) → k < rows_length → ((j : ℕ) → j < rows_length → (j ≡ k → ⊥) → at p' j ≡ at p j)
      → (at t (at p k) ≡ 0 → ⊥) → at t (at p' k) ≡ 0 → bare_count t p' ≡ bare_count t p + 1
  pub text_refused : ((text_call p t r).answer.number ≡ 0 → ⊥) → exported_text (text_call p t r) ≡ written_for_c (text_call p t r).answer.number r

-- the page of rows r by a table t, over a page p: 2 by length, then 8 for a character that is byte 0 or isn't in the table; else each tile
-- byte has its character and no lower tile has, the attribute bytes stay, and the rows of that page are the rows given
pub record Pages (r t p : List ℕ) : Type 0 where
  pub page_2 : (TextLengths p t r → ⊥) → page_call r t p ≡ written (text_answer 2 0) p
  pub page_8 : TextLengths p t r → (k : ℕ) → k < rows_length → (Stands t (at r k) → ⊥) → page_call r t p ≡ written (text_answer 8 0) p
  pub page_0 : TextLengths p t r → ((k : ℕ) → k < rows_length → Stands t (at r k)) → page_call r t p ≡ written (text_answer 0 0) (page_of r t p)
  pub tile_has : (k : ℕ) → k < rows_length → Stands t (at r k) → at t (at (page_of r t p) k) ≡ at r k
  pub tile_lowest : (k : ℕ) → k < rows_length → (j : ℕ) → j < at (page_of r t p) k → at t j ≡ at r k → ⊥
  pub attributes_stay : (k : ℕ) → rows_length ≤ k → at (page_of r t p) k ≡ at p k
  pub page_long : length p ≡ nametable_page → length (page_of r t p) ≡ nametable_page
  pub rows_back : length r ≡ rows_length → ((k : ℕ) → k < rows_length → Stands t (at r k)) → rows_of t (page_of r t p) ≡ r
  pub calls_back : (page_call r t p).answer.number ≡ 0 → (r' : List ℕ) → length r' ≡ rows_length → text_call (page_call r t p).bytes t r' ≡ written (text_answer 0 0) r
  pub page_refused : ((page_call r t p).answer.number ≡ 0 → ⊥) → exported_text (page_call r t p) ≡ written_for_c (page_call r t p).answer.number p

-- what is read is what is shown: the character in row r and column c of a quarter's page is that of the tile that the background fetches there,
-- at v = 1024 q + 32 r + c, or at any v with that quarter, row and column
pub record Shown (d : Board) (n t : List ℕ) : Type 0 where
  pub shown : length n ≡ nametable_length d → (q r c : ℕ) → q < 4 → r < 30 → c < 32
      → at (rows_of t (quarter_part d n q)) (32 * r + c) ≡ character_of t (tile_at d.wiring n (1024 * q + 32 * r + c))
  pub shown_at : length n ≡ nametable_length d → (v : ℕ) → row v < 30
      → at (rows_of t (quarter_part d n (nametable v))) (32 * row v + column v) ≡ character_of t (tile_at d.wiring n v)

pub record Theorems : Type 0 where
  pub refusals : Refusals
  pub packed_parts : (a : Answer) → PackedParts a
  pub round_trips : RoundTrips
  pub frames : Frames
  pub lending : Lending
  pub traces : Traces
  pub data_calls : DataCalls
  pub held_bytes : HeldBytes
  pub arguments : Arguments
  pub reload_theorem : ReloadTheorem
  pub mirrors : Mirrors
  pub steps : (a : Places) (b : Bytes) → Steps a b
  pub played_records : PlayedRecords
  pub colours : (u : Ppu) (p : List ℕ) (n : ℕ) → Colours u p n
  pub coloured_lines : (s : State) → ColouredLines s
  pub colour_bytes : (l : List ℕ) → ColourBytes l
  pub searches : (c : ℕ) (o : List ℕ) (n : ℕ) → Searches c o n
  pub search_calls : (s : State) → SearchCalls s
  pub runs : (s : State) (n : ℕ) → Runs s n
  pub run_calls : (s : State) → RunCalls s
  pub board_pages : (d : Board) → BoardPages d
  pub board_codes : BoardCodes
  pub quarter_pages : (d : Board) (n : List ℕ) (q : ℕ) → QuarterPages d n q
  pub rows : (p t r : List ℕ) → Rows p t r
  pub pages : (r t p : List ℕ) → Pages r t p
  pub screens : (d : Board) (n t : List ℕ) → Shown d n t
