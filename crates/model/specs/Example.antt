-- Demand 3's conditions can be met: two logs with every kind of call in them, done and refused, which leave different units.
use Rattle.std.specs.Prelude.{◌≡◌, true, false, List, [], ◌∷◌, map, ℕ, ◌*◌, replicate}
use Rattle.model.specs.declared.Board.{Board}
use Rattle.model.specs.declared.Wiring.TheVariants.{FourPages}
use Rattle.model.specs.Unit.{Memory, nametable_length, access_cells, State, state, unit}
use Rattle.model.specs.Record.{record_of}
use Rattle.model.specs.Calls.{own, other, Call, read_call, write_call, dma_call, run_call, search_call}
use Rattle.model.specs.Reload.{end, trace, data_call, Places, Bytes, reload, Pair, Alike, Held, AllFit}
use Rattle.model.specs.RecordLog.{record_state, RecordPair}

-- a board's memory, all filled with a byte, the finished colours with two of it
unfoldable pub filled : Board → ℕ → Memory
filled d b =
    record {
      cells = access_cells (replicate 4096 b) (replicate 4096 b) (replicate (nametable_length d) b) (replicate 256 b) (replicate 32 b);
      line = replicate 256 b;
      colours = replicate 256 (b * 257);
    }

-- memory of wrong lengths
unfoldable pub short : Memory
short = record { cells = access_cells [] [] [] [] []; line = []; colours = [] }

-- four pages and writable pattern memory; next line 240, warmed up, NMI off; all else as large as a unit can hold
abbrev pub board12 : Board
board12 = record { wiring = FourPages; writable = true }

unfoldable pub start : State
start = state (unit 127 255 224 255 32767 32767 7 true 255 255 240 true board12) (filled board12 255)

-- twenty lines, up to next line 260: a read, a write that turns NMI on, a line that waits for a hit, a run that stops after line 241, one refused with 5;
-- a read and a data write refused with 1, a data write and sprite DMA with 2; a search, and one refused with 5; a read from other memory; a run with no
-- reason to stop
unfoldable pub one : List Call
one =
    read_call own 8194
    ∷ write_call own 8192 255
    ∷ run_call own 2 1
    ∷ run_call own 1 65535
    ∷ run_call own 3 1
    ∷ read_call own 8191
    ∷ write_call own 16391 1
    ∷ write_call (other short) 8196 1
    ∷ dma_call own []
    ∷ search_call own 239
    ∷ search_call own 240
    ∷ read_call (other (filled board12 1)) 16383
    ∷ run_call own 0 18
    ∷ []

-- twenty lines, and nothing else
unfoldable pub two : List Call
two = run_call own 1 20 ∷ []

-- after the reload: the mask's bit 3, lines 260 and 261, then a read of port 4 while drawing
unfoldable pub further : List Call
further = write_call own 8193 8 ∷ run_call own 1 2 ∷ read_call own 8196 ∷ []

pub record Example (a : Places) (b : Bytes) : Type 0 where
  pub pair : Pair data_call start one two
  pub held : Held start
  pub fit : AllFit one × AllFit two × AllFit further
  pub numbers : map (λ g. g.answer.number) (trace one start) ≡ 0 ∷ 0 ∷ 0 ∷ 0 ∷ 5 ∷ 1 ∷ 1 ∷ 2 ∷ 2 ∷ 0 ∷ 5 ∷ 0 ∷ 0 ∷ []
  pub lines : map (λ g. g.answer.lines) (trace one start) ≡ 0 ∷ 0 ∷ 1 ∷ 1 ∷ 0 ∷ 0 ∷ 0 ∷ 0 ∷ 0 ∷ 0 ∷ 0 ∷ 0 ∷ 18 ∷ []
  pub met : map (λ g. g.answer.met) (trace one start)
      ≡ false ∷ false ∷ false ∷ true ∷ false ∷ false ∷ false ∷ false ∷ false ∷ false ∷ false ∷ false ∷ false ∷ []
  pub next_line : (end one start).unit.scanline ≡ 260
  -- the logs leave different records, and the reload makes them equal
  pub differ : record_of (end one start).unit ≡ record_of (end two start).unit → ⊥
  pub equal : Alike (end (reload a b) (end one start)) (end (reload a b) (end two start))
  -- 4 is met only after it: from the units that it leaves
  pub drawing : map (λ g. g.answer.number) (trace further (state (end (reload a b) (end one start)).unit (filled board12 0))) ≡ 0 ∷ 0 ∷ 4 ∷ []
  -- the same on the 16-byte record
  pub record_pair : RecordPair (record_state (record_of start.unit) start.memory) one two
