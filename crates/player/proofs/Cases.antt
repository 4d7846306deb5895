-- What a turn's parts make of it, and what a turn adds to the turns before it.
use Rattle.std.proofs.Common.{◌≡◌, ℕ, ◌+◌, ◌-◌, ◌<◌, Bool, true, false, List, ◌++◌, take, drop, refl, sym, ◌∙◌, arith, eqb}
use mathlib.Core.Bool.{true≢false}
use Rattle.model.specs.declared.Ppu.{Ppu}
use Rattle.model.specs.Unit.{Memory, State}
use Rattle.logs.specs.declared.Played.{Played}
use Rattle.logs.specs.Play.{IsPlay, whole_bytes}
use Rattle.logs.proofs.Playing.{kept_short}
use Rattle.player.specs.declared.Progress.{Progress}
use Rattle.player.specs.Turns.{goes_on, IsBlockTurn, IsTurn, IsInput, Turns, none, next, most_turns}

module _ (kept more : ℕ) (block block' out out' : List ℕ) (s : State) (x : Progress) (m : Memory) where
  pub block_turn : (p : Played) (last w g : Bool) (k : ℕ) → IsPlay (take (whole_bytes last (kept + more)) block) s out p m out'
      → k ≡ kept + more - whole_bytes last (kept + more)
      → block' ≡ take (kept + more - whole_bytes last (kept + more)) (drop (whole_bytes last (kept + more)) block) ++ drop (kept + more - whole_bytes last (kept + more)) block
      → g ≡ goes_on more w p.ended → last ≡ eqb more 0 → x ≡ record { unit = p.unit; kept = k; going = g }
      → IsBlockTurn kept more block s out x m out' block'
  block_turn p last w g k i c f h l e =
      rw e (record {
        played = p;
        is_written = w;
        plays = rw (← l) i;
        unit = refl;
        cut = rw (← l) c;
        short = kept_short last _ _ c;
        front = rw (← l, c) f;
        going = h;
      })

-- the loop: so many turns, and it goes on
pub record Playing (u : Ppu) (m : Memory) (out block : List ℕ) (p : Progress) (count : ℕ) (m' : Memory) (out' block' : List ℕ) : Type 0 where
  pub turns : Turns u m out block count p m' out' block'
  pub goes : p.going ≡ true
  pub short : p.kept < 4

module _ (u : Ppu) (m : Memory) (out block : List ℕ) where
  pub input_start : Playing u m out block (record { unit = u; kept = 0; going = true }) 0 m out block
  input_start = record { turns = none; goes = refl; short = omega arith }

  module _ (p : Progress) (count : ℕ) (m' : Memory) (out' block' : List ℕ) (y : Playing u m out block p count m' out' block') where
    pub input_next : (x : Progress) (m'' : Memory) (out'' block'' : List ℕ) → IsTurn p block' m' out' x m'' out'' block'' → x.going ≡ true → Playing u m out block x (count + 1) m'' out'' block''
    input_next x m'' out'' block'' t g = record { turns = next _ _ _ _ _ _ _ _ _ y.turns y.goes t; goes = g; short = t.turn.short }

    pub input_last : (x : Progress) (m'' : Memory) (out'' block'' : List ℕ) → IsTurn p block' m' out' x m'' out'' block'' → x.going ≡ false → IsInput u m out block m'' out'' block''
    input_last x m'' out'' block'' t g =
        record { count = count + 1; last = x; turns = next _ _ _ _ _ _ _ _ _ y.turns y.goes t; over = λ h. absurd (true≢false (sym h ∙ g)) }

    pub input_over : count ≡ most_turns → IsInput u m out block m' out' block'
    input_over e = record { count = count; last = p; turns = y.turns; over = λ h. e }
