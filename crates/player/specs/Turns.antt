-- A turn of the player: a read, the play of what is there, a write; when another follows; and all of them.
use Rattle.std.specs.Prelude.{◌≡◌, List, ◌++◌, Bool, true, not, ◌&&◌, ℕ, ◌+◌, ◌-◌, ◌<◌, ◌≤◌, eqb, length, take, drop}
use Rattle.model.specs.declared.Ppu.{Ppu}
use Rattle.model.specs.Unit.{Memory, State, state, line_memory}
use Rattle.logs.specs.declared.Played.{Played}
use Rattle.logs.specs.Play.{IsPlay, whole_bytes}
use Rattle.player.specs.declared.Machine.{Machine}
use Rattle.player.specs.declared.Progress.{Progress}

-- whether the player reads on: something was read, no refusal 5 has ended the play, and what it printed could be written
unfoldable pub goes_on : ℕ → Bool → Bool → Bool
goes_on more is_written ended = not (eqb more 0) && (not ended && is_written)

-- the memory that is lent
abbrev pub memory_of : Machine → Memory
memory_of m = line_memory m.left m.right m.nametables m.oam m.palette m.line m.colours

-- how much of a block is played in which `more` bytes were read behind `kept`: whole records, and all where nothing was read, since the log has ended
abbrev pub played_bytes : ℕ → ℕ → ℕ
played_bytes kept more = whole_bytes (eqb more 0) (kept + more)

-- such a block played from state s: the progress x, and what is left of the memory, the output and the block
pub record IsBlockTurn (kept more : ℕ) (block : List ℕ) (s : State) (out : List ℕ) (x : Progress) (m : Memory) (out' block' : List ℕ) : Type 0 where
  -- the play, which a refusal 5 may have ended
  pub played : Played
  -- whether what it printed could be written: no contract says
  pub is_written : Bool
  -- it is the play of those bytes
  pub plays : IsPlay (take (played_bytes kept more) block) s out played m out'
  -- the unit is the one that it leaves
  pub unit : x.unit ≡ played.unit
  -- the bytes of a record that the block cuts are kept
  pub cut : x.kept ≡ kept + more - played_bytes kept more
  -- fewer than a record has
  pub short : x.kept < 4
  -- at the block's front
  pub front : block' ≡ take x.kept (drop (played_bytes kept more) block) ++ drop x.kept block
  -- an ended play does not go on
  pub going : x.going ≡ goes_on more is_written played.ended

-- the same from progress p, with the read before it: no contract says what that brings
pub record IsTurn (p : Progress) (block : List ℕ) (m : Memory) (out : List ℕ) (x : Progress) (m' : Memory) (out' block' : List ℕ) : Type 0 where
  -- how many bytes were read, 0 at the end of the input
  pub more : ℕ
  -- the block after the read
  pub filled : List ℕ
  -- which has room for them
  pub fits : p.kept + more ≤ length filled
  -- and still has what was kept
  pub behind : take p.kept filled ≡ take p.kept block
  -- the play of it
  pub turn : IsBlockTurn p.kept more filled (state p.unit m) out x m' out' block'

-- turns one after the other, each from what the one before it left, and only if that one goes on: how many, the last one's progress, what is left
pub data Turns (u : Ppu) (m : Memory) (out block : List ℕ) : ℕ → Progress → Memory → List ℕ → List ℕ → Type 0 where
  none : Turns u m out block 0 (record { unit = u; kept = 0; going = true }) m out block
  next : (n : ℕ) (x y : Progress) (m₁ m₂ : Memory) (out₁ out₂ block₁ block₂ : List ℕ) → Turns u m out block n x m₁ out₁ block₁ → x.going ≡ true
      → IsTurn x block₁ m₁ out₁ y m₂ out₂ block₂ → Turns u m out block (n + 1) y m₂ out₂ block₂

-- a number of turns that no run uses up
abbrev pub most_turns : ℕ
most_turns = 18446744073709551615

-- standard input played: turns up to the first that does not go on
pub record IsInput (u : Ppu) (m : Memory) (out block : List ℕ) (m' : Memory) (out' block' : List ℕ) : Type 0 where
  -- how many turns
  pub count : ℕ
  -- the last one's progress
  pub last : Progress
  pub turns : Turns u m out block count last m' out' block'
  -- it goes on only where the turns are used up
  pub over : last.going ≡ true → count ≡ most_turns
