-- The play of a log, and of a block of one.
use Prim.Native.Nat.{ℕ, ◌+◌, ◌-◌, ◌*◌, ◌/◌, ◌<◌, ◌≤◌}
use mathlib.Core.Path.{◌≡◌, sym, ap, ◌∙◌, subst}
use mathlib.Core.Bool.{Bool, true, false, cond, ◌||◌}
use mathlib.Core.List.{List, [], ◌++◌, append_assoc, append-nil}
use native.Mathlib.Omega.{arith}
use native.Mathlib.Nat.{zero-add}
use Rattle.std.specs.List.{copy_within}
use lib.Dec.{eqb}
use lib.ListN.{length, take, drop, length-append, length-drop, take-append-drop, drop_of_length-le}
use lib.Seq.{sets, length-sets, sets-eq, length-take-le, take_at, drop_at, drop-drop}
use Rattle.model.specs.declared.Access.{Access}
use Rattle.model.specs.declared.Entry.{Entry}
use Rattle.model.specs.declared.Entry.TheVariants.{Read, Write, Run, Refused}
use Rattle.model.specs.Unit.{Memory, State, state}
use Rattle.model.specs.Calls.{Outcome, outcome_on}
use Rattle.model.specs.Log.{records_of, entry_of, play_entry, entry_text, ends, played_text, played_state, play_ends}
use Rattle.model.proofs.Good.{SameLengths, same_then}
use Rattle.model.proofs.Log.{run_line, entry_long, text_short, text_first, state_first, ends_first}
use Rattle.logs.specs.declared.Played.{Played}
use Rattle.answers.specs.Printable.{Printable}
use Rattle.logs.specs.Play.{IsStep, IsPlay, whole_bytes}

-- its text can be printed
pub printable : (e : Entry) (s : State) (x : Access) (m : Memory) → outcome_on x m ≡ play_entry e s → Printable e x
unfolding Printable
printable (Read a) s x m h = tt
printable (Write a c) s x m h = tt
printable (Run k) s x m h = λ z.
    let f : x.unit.scanline ≡ (play_entry (Run k) s).after.unit.scanline = ap (λ (y : Outcome). y.after.unit.scanline) h in
    let g = run_line k s (ap (λ (y : Outcome). y.answer.number) (sym h) ∙ z) in
    omega arith
printable Refused s x m h = tt

pub step_done : (e : Entry) (s : State) (x : Access) (m : Memory) (out out' : List ℕ) (at w : ℕ) (y : Played) → outcome_on x m ≡ play_entry e s
    → out' ≡ sets out at (entry_text e x.answer x.unit.scanline) → w ≡ at + length (entry_text e x.answer x.unit.scanline)
    → y ≡ record { unit = x.unit; written = w; ended = eqb x.answer.number 5 } → IsStep e s out at y m out'
unfolding ends
step_done e s x m out out' at w y h f g k =
    rw k
    (record {
      after = ap (λ (o : Outcome). o.after) h;
      text = f ∙ ap (λ (o : Outcome). sets out at (entry_text e o.answer o.after.unit.scanline)) h;
      written = g ∙ ap (λ (o : Outcome). at + length (entry_text e o.answer o.after.unit.scanline)) h;
      ended = ap (λ (o : Outcome). eqb o.answer.number 5) h;
    })

-- A LOG: played up to a place by records that did not end the play
pub record Playing (log out₀ : List ℕ) (s₀ : State) (at : ℕ) (p : Played) (m : Memory) (out : List ℕ) : Type 0 where
  pub on : p.ended ≡ false
  pub long : length out ≡ length out₀
  pub lengths : SameLengths s₀.memory m
  pub room : p.written + 15 * ((length log - at + 3) / 4) ≤ length out₀
  pub text : played_text (records_of log) s₀ ≡ take p.written out ++ played_text (records_of (drop at log)) (state p.unit m)
  pub rest : drop p.written out ≡ drop p.written out₀
  pub left : played_state (records_of log) s₀ ≡ played_state (records_of (drop at log)) (state p.unit m)
  pub goes : play_ends (records_of log) s₀ ≡ play_ends (records_of (drop at log)) (state p.unit m)

-- a text stored behind the first w bytes
module _ (out out' t : List ℕ) (w : ℕ) (h : w + length t ≤ length out) (e : out' ≡ sets out w t) where
  stored_at : out' ≡ (take w out ++ t) ++ drop (w + length t) out
  stored_at = e ∙ sets-eq t out w h

  head_long : length (take w out ++ t) ≡ w + length t
  head_long = length-append (take w out) t ∙ ap (λ (k : ℕ). k + length t) (length-take-le w out (omega arith))

  stored_take : take (w + length t) out' ≡ take w out ++ t
  stored_take = ap (take (w + length t)) stored_at ∙ take_at (take w out ++ t) (drop (w + length t) out) (w + length t) head_long

  stored_drop : drop (w + length t) out' ≡ drop (w + length t) out
  stored_drop = ap (drop (w + length t)) stored_at ∙ drop_at (take w out ++ t) (drop (w + length t) out) (w + length t) head_long

drop_more : (w k : ℕ) (a b : List ℕ) → drop w a ≡ drop w b → drop (w + k) a ≡ drop (w + k) b
drop_more w k a b e = sym (drop-drop k w a) ∙ ap (drop k) e ∙ drop-drop k w b

-- the text of a whole play, at the front of the output
is_played : {log out₀ out : List ℕ} {s₀ : State} {p : Played} {m : Memory} → state p.unit m ≡ played_state (records_of log) s₀ → played_text (records_of log) s₀ ≡ take p.written out
    → drop p.written out ≡ drop p.written out₀ → p.written ≤ length out → p.ended ≡ play_ends (records_of log) s₀ → IsPlay log s₀ out₀ p m out
is_played {out} {p} after text rest fits ended =
    record {
      after = after;
      text = rw text (sym (take-append-drop p.written out) ∙ ap (λ (a : List ℕ). take p.written out ++ a) rest);
      written = rw text (sym (length-take-le p.written out fits));
      ended = ended;
    }

pub play_done : {log out₀ out : List ℕ} {s₀ : State} {at : ℕ} {p : Played} {m : Memory} → Playing log out₀ s₀ at p m out → length log ≤ at → IsPlay log s₀ out₀ p m out
unfolding records_of played_text played_state play_ends
play_done {log} {out} {at} {p} y h =
    let d : drop at log ≡ [] = drop_of_length-le log {i = at} h in
    is_played (sym (y.left ∙ rw d)) (y.text ∙ rw d (append-nil (take p.written out))) y.rest (omega (arith, y.room, y.long)) (y.on ∙ sym (y.goes ∙ rw d))

-- the record at a place of a play, played
module _ {log out₀ out out' : List ℕ} {s₀ : State} {at : ℕ} {p x : Played} {m m' : Memory} {e : Entry} (y : Playing log out₀ s₀ at p m out) (h : at < length log)
    (f : e ≡ entry_of (records_of (drop at log))) (i : IsStep e (state p.unit m) out p.written x m' out') where
  abbrev s : State
  s = state p.unit m

  abbrev t : List ℕ
  t = entry_text e (play_entry e s).answer (play_entry e s).after.unit.scanline

  short : length t ≤ 15
  short = text_short e (play_entry e s).answer (play_entry e s).after.unit.scanline

  fits : p.written + length t ≤ length out
  fits = omega (arith, y.room, y.long, h, short)

  some_left : 0 < length (drop at log)
  some_left = simp length-drop (omega (arith, h))

  first_text : played_text (records_of (drop at log)) s ≡ t ++ cond (ends (play_entry e s)) [] (played_text (records_of (drop 4 (drop at log))) (play_entry e s).after)
  first_text = rw f (text_first (drop at log) s some_left)

  first_state : played_state (records_of (drop at log)) s ≡ cond (ends (play_entry e s)) (play_entry e s).after (played_state (records_of (drop 4 (drop at log))) (play_entry e s).after)
  first_state = rw f (state_first (drop at log) s some_left)

  first_ends : play_ends (records_of (drop at log)) s ≡ ends (play_entry e s) || play_ends (records_of (drop 4 (drop at log))) (play_entry e s).after
  first_ends = rw f (ends_first (drop at log) s some_left)

  same_rest : drop x.written out' ≡ drop x.written out₀
  same_rest = rw i.written (stored_drop out out' t p.written fits i.text ∙ drop_more p.written (length t) out out₀ y.rest)

  same_text : (more : List ℕ) → take p.written out ++ (t ++ more) ≡ take x.written out' ++ more
  same_text more = sym (append_assoc (take p.written out) t more) ∙ rw (i.written, stored_take out out' t p.written fits i.text)

  same_length : length out' ≡ length out₀
  same_length = ap length i.text ∙ length-sets out p.written t ∙ y.long

  -- a refusal 5 ends the play
  pub play_ended : x.ended ≡ true → IsPlay log s₀ out₀ x m' out'
  play_ended z =
      let o : ends (play_entry e s) ≡ true = sym i.ended ∙ z in
      is_played (i.after ∙ sym (y.left ∙ first_state ∙ rw o))
      (y.text ∙ ap (λ (b : List ℕ). take p.written out ++ b) first_text ∙ rw o (same_text [] ∙ append-nil (take x.written out')))
      same_rest (omega (arith, i.written, fits, same_length, y.long)) (z ∙ sym (y.goes ∙ first_ends ∙ rw o))

  -- else it goes on behind the record
  pub play_more : x.ended ≡ false → Playing log out₀ s₀ (at + 4) x m' out'
  play_more z =
      let o : ends (play_entry e s) ≡ false = sym i.ended ∙ z in
      let d : drop 4 (drop at log) ≡ drop (at + 4) log = drop-drop 4 at log in
      let a : (play_entry e s).after ≡ state x.unit m' = sym i.after in
      let text : played_text (records_of (drop at log)) s ≡ t ++ played_text (records_of (drop (at + 4) log)) (state x.unit m') =
      first_text ∙ rw (o, d) (ap (λ (z : State). t ++ played_text (records_of (drop (at + 4) log)) z) a) in
      record {
        on = z;
        long = same_length;
        lengths = same_then y.lengths (subst (λ (z : State). SameLengths m z.memory) a (entry_long e s));
        room = omega (arith, h, y.room, i.written, short);
        text = y.text ∙ ap (λ (b : List ℕ). take p.written out ++ b) text ∙ same_text _;
        rest = same_rest;
        left = y.left ∙ first_state ∙ rw (o, d, a);
        goes = y.goes ∙ first_ends ∙ rw (o, d, a);
      }

  pub play_last : x.ended ≡ false → length log ≤ at + 4 → IsPlay log s₀ out₀ x m' out'
  play_last z k = play_done (play_more z) k

-- A BLOCK: whole records, and all where the log ends
pub front : (w n : ℕ) (l : List ℕ) → copy_within l w n 0 ≡ take (n - w) (drop w l) ++ drop (n - w) l
front w n l = rw (zero-add (n - w))

pub block_done : (last : Bool) (n w k : ℕ) (l l' out out' : List ℕ) (s : State) (x : Played) (m : Memory) → w ≡ whole_bytes last n → IsPlay (take w l) s out x m out' → k ≡ n - w
    → l' ≡ take (n - w) (drop w l) ++ drop (n - w) l
    → IsPlay (take (whole_bytes last n) l) s out x m out' × (k ≡ n - whole_bytes last n)
    × (l' ≡ take (n - whole_bytes last n) (drop (whole_bytes last n) l) ++ drop (n - whole_bytes last n) l)
block_done last n w k l l' out out' s x m e i f g = rw (← e) (i, f, g)

-- fewer bytes are kept than a record has
pub kept_short : (last : Bool) (n k : ℕ) → k ≡ n - whole_bytes last n → k < 4
unfolding whole_bytes
kept_short true n k e = omega arith
kept_short false n k e = omega arith
