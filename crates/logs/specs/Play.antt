-- What the play of a log leaves.
use Rattle.std.specs.Prelude.{◌≡◌, List, ◌++◌, Bool, cond, ℕ, ◌+◌, ◌*◌, ◌/◌, length, drop}
use Rattle.std.proofs.lemmas.List.Edits.{sets}
use Rattle.model.specs.declared.Entry.{Entry}
use Rattle.model.specs.Unit.{Memory, State, state}
use Rattle.model.specs.Log.{records_of, play_entry, entry_text, ends, played_text, played_state, play_ends}
use Rattle.logs.specs.declared.Played.{Played}

-- an entry played from state s: the unit and the memory left, its text in the output from place `at` on, and whether a refusal 5 ended the play
pub record IsStep (e : Entry) (s : State) (out : List ℕ) (at : ℕ) (x : Played) (m : Memory) (out' : List ℕ) : Type 0 where
  pub after : state x.unit m ≡ (play_entry e s).after
  pub text : out' ≡ sets out at (entry_text e (play_entry e s).answer (play_entry e s).after.unit.scanline)
  pub written : x.written ≡ at + length (entry_text e (play_entry e s).answer (play_entry e s).after.unit.scanline)
  pub ended : x.ended ≡ ends (play_entry e s)

-- a log played from state s: the unit and the memory left, the text at the front of the output, and whether a refusal 5 ended it
pub record IsPlay (log : List ℕ) (s : State) (out : List ℕ) (x : Played) (m : Memory) (out' : List ℕ) : Type 0 where
  pub after : state x.unit m ≡ played_state (records_of log) s
  pub text : out' ≡ played_text (records_of log) s ++ drop x.written out
  pub written : x.written ≡ length (played_text (records_of log) s)
  pub ended : x.ended ≡ play_ends (records_of log) s

-- of n bytes those of whole records; all, where the log ends
unfoldable pub whole_bytes : Bool → ℕ → ℕ
whole_bytes last n = cond last n (n / 4 * 4)
