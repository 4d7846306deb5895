-- The play of a log: by entries, by parts, and how long what it prints is.
use mathlib.Core.Path.{◌≡◌, refl, sym, ap, ◌∙◌, subst}
use mathlib.Core.Bool.{Bool, true, false, true≢false, cond, ◌||◌}
use mathlib.Core.List.{List, [], ◌∷◌, ◌++◌, append_assoc, append-nil}
use Prim.Native.Nat.{ℕ, ◌+◌, ◌*◌, ◌%◌, ◌≤◌, ◌<◌}
use native.Mathlib.Omega.{arith}
use lib.Dec.{eqb, ltb}
use lib.ListN.{length, drop, length-append}
use Rattle.model.specs.declared.Answer.{Answer}
use Rattle.model.specs.declared.Entry.{Entry}
use Rattle.model.specs.declared.Entry.TheVariants.{Read, Write, Run, Refused}
use Rattle.model.specs.Unit.{Memory, State}
use Rattle.model.specs.Calls.{own, read_call, write_call, run_call, Outcome, outcome, refusal, on_lent, packed, exported, exported_call}
use Rattle.model.specs.Log.{Record, whole, cut, records_of, record_known, record_call, play_one, front_of, play_call, exported_one, exported_play, record_entry, entry_of, play_entry, exported_entry, decimal, read_text, run_text, refused_text, done_text, kind_of, text_of, entry_done, entry_text, ends, played_text, played_state, play_ends}
use Rattle.model.proofs.Tests.{cond_both}
use Rattle.model.proofs.Good.{by_gate, good_of, done_sound, SameLengths, same_long, same_then, lent_long}

-- AN ENTRY comes to what its record comes to
known_plays : (x y z : Bool) (a b : ℕ) (s : State)
    → play_entry (cond x (cond y (Read a) (cond z (Write a b) (Run a))) Refused) s
    ≡ cond x (on_lent (cond y (read_call own a) (cond z (write_call own a b) (run_call own 0 a))) s) (outcome (refusal 5) s)
unfolding play_entry
known_plays true true z a b s = refl
known_plays true false true a b s = refl
known_plays true false false a b s = refl
known_plays false y z a b s = refl

pub entry_plays : (r : Record) (s : State) → play_entry (record_entry r) s ≡ play_one r s
unfolding record_entry play_one record_call play_entry
entry_plays (whole k h l b) s = known_plays (record_known k b) (eqb k 0) (eqb k 1) (h * 256 + l) b s
entry_plays cut s = refl

pub play_entry_lem : (log : List ℕ) (s : State) → play_entry (entry_of (records_of log)) s ≡ play_call log s
unfolding play_call entry_of
play_entry_lem log s = entry_plays (front_of (records_of log)) s

-- also on a saved unit's record
known_exported : (x y z : Bool) (a b : ℕ) (u : List ℕ) (m : Memory)
    → exported_entry (cond x (cond y (Read a) (cond z (Write a b) (Run a))) Refused) u m
    ≡ cond x (exported_call (cond y (read_call own a) (cond z (write_call own a b) (run_call own 0 a))) u m) (exported (packed (refusal 5)) u m)
unfolding exported_entry
known_exported true true z a b u m = refl
known_exported true false true a b u m = refl
known_exported true false false a b u m = refl
known_exported false y z a b u m = refl

entry_exported : (r : Record) (u : List ℕ) (m : Memory) → exported_entry (record_entry r) u m ≡ exported_one r u m
unfolding record_entry exported_one record_call exported_entry
entry_exported (whole k h l b) u m = known_exported (record_known k b) (eqb k 0) (eqb k 1) (h * 256 + l) b u m
entry_exported cut u m = refl

pub play_exported : (log u : List ℕ) (m : Memory) → exported_entry (entry_of (records_of log)) u m ≡ exported_play log u m
unfolding exported_play entry_of
play_exported log u m = entry_exported (front_of (records_of log)) u m

-- and prints what its record prints
known_prints : (x y z : Bool) (a b : ℕ) (o : Outcome) (s : State)
    → let p : Outcome = cond x o (outcome (refusal 5) s) in
    entry_text (cond x (cond y (Read a) (cond z (Write a b) (Run a))) Refused) p.answer p.after.unit.scanline
    ≡ cond (eqb p.answer.number 0) (cond y (read_text p.answer.byte) (cond z [] (run_text p.after.unit.scanline p.answer.nmi)))
    (refused_text p.answer.number)
unfolding entry_text entry_done
known_prints true true z a b o s = refl
known_prints true false true a b o s = refl
known_prints true false false a b o s = refl
known_prints false y z a b o s = refl

pub entry_prints : (r : Record) (s : State) → entry_text (record_entry r) (play_one r s).answer (play_one r s).after.unit.scanline ≡ text_of r (play_one r s)
unfolding record_entry play_one record_call text_of done_text kind_of entry_text
entry_prints (whole k h l b) s =
    known_prints (record_known k b) (eqb k 0) (eqb k 1) (h * 256 + l) b
    (on_lent (cond (eqb k 0) (read_call own (h * 256 + l)) (cond (eqb k 1) (write_call own (h * 256 + l) b) (run_call own 0 (h * 256 + l)))) s) s
entry_prints cut s = refl

-- a run that is done leaves a next line of the frame
pub run_line : (n : ℕ) (s : State) → (play_entry (Run n) s).answer.number ≡ 0 → (play_entry (Run n) s).after.unit.scanline < 262
unfolding play_entry
run_line n s =
    by_gate (λ (o : Outcome). o.answer.number ≡ 0 → o.after.unit.scanline < 262) (run_call own 0 n) s
    (λ a e. (done_sound (run_call own 0 n) s (good_of s.unit a.well)).good.scanline)
    (λ k e. absurd (omega arith))

-- an entry leaves memory of the same lengths
pub entry_long : (e : Entry) (s : State) → SameLengths s.memory (play_entry e s).after.memory
unfolding play_entry
entry_long (Read a) s = lent_long (read_call own a) s
entry_long (Write a b) s = lent_long (write_call own a b) s
entry_long (Run n) s = lent_long (run_call own 0 n) s
entry_long Refused s = same_long s.memory

-- and so does a log
record_long : (r : Record) (s : State) → SameLengths s.memory (play_one r s).after.memory
record_long r s = subst (λ (o : Outcome). SameLengths s.memory o.after.memory) (entry_plays r s) (entry_long (record_entry r) s)

pub played_long : (l : List Record) (s : State) → SameLengths s.memory (played_state l s).memory
unfolding played_state
played_long [] s = same_long s.memory
played_long (r ∷ l) s =
    cond_both (λ (t : State). SameLengths s.memory t.memory) (ends (play_one r s)) _ _ (record_long r s) (same_then (record_long r s) (played_long l (play_one r s).after))

-- A TEXT is at most 15 bytes
decimal_short : (n : ℕ) → length (decimal n) ≤ 3
unfolding decimal
decimal_short n =
    cond_both (λ (l : List ℕ). length l ≤ 3) (ltb n 10) _ _ (omega arith)
    (cond_both (λ (l : List ℕ). length l ≤ 3) (ltb n 100) _ _ (omega arith) (omega arith))

done_short : (e : Entry) (x : Answer) (n : ℕ) → length (entry_done e x n) ≤ 15
unfolding entry_done read_text run_text
done_short (Read a) x n = omega arith
done_short (Write a b) x n = omega arith
done_short (Run k) x n = simp length-append (omega (arith, decimal_short n))
done_short Refused x n = omega arith

refused_short : (n : ℕ) → length (refused_text n) ≤ 15
unfolding refused_text
refused_short n = simp length-append (omega (arith, decimal_short n))

pub text_short : (e : Entry) (x : Answer) (n : ℕ) → length (entry_text e x n) ≤ 15
unfolding entry_text
text_short e x n = cond_both (λ (l : List ℕ). length l ≤ 15) (eqb x.number 0) _ _ (done_short e x n) (refused_short x.number)

-- THE PARTS OF A LOG. What is left of a log begins with a record, unless nothing is left
pub records_front : (l : List ℕ) → 0 < length l → (r : Record) × (records_of l ≡ r ∷ records_of (drop 4 l))
unfolding records_of
records_front [] h = absurd (omega arith)
records_front (k ∷ []) h = (cut, refl)
records_front (k ∷ a ∷ []) h = (cut, refl)
records_front (k ∷ a ∷ b ∷ []) h = (cut, refl)
records_front (k ∷ a ∷ b ∷ c ∷ r) h = (whole k a b c, refl)

-- a log split between two records
pub records_split : (a b : List ℕ) → length a % 4 ≡ 0 → records_of (a ++ b) ≡ records_of a ++ records_of b
unfolding records_of
records_split [] b h = refl
records_split (k ∷ []) b h = absurd (omega arith)
records_split (k ∷ x ∷ []) b h = absurd (omega arith)
records_split (k ∷ x ∷ y ∷ []) b h = absurd (omega arith)
records_split (k ∷ x ∷ y ∷ z ∷ r) b h = ap (λ (l : List Record). whole k x y z ∷ l) (records_split r b (omega arith))

-- THE PLAY BY ENTRIES: the first entry, then the rest unless that has ended it
module _ (l : List ℕ) (s : State) (h : 0 < length l) where
  abbrev first : Outcome
  first = play_entry (entry_of (records_of l)) s

  pub text_first : played_text (records_of l) s ≡ entry_text (entry_of (records_of l)) first.answer first.after.unit.scanline ++ cond (ends first) [] (played_text (records_of (drop 4 l)) first.after)
  unfolding played_text entry_of front_of
  text_first =
      let (r, e) = records_front l h in
      rw (e, entry_plays r s, entry_prints r s)

  pub state_first : played_state (records_of l) s ≡ cond (ends first) first.after (played_state (records_of (drop 4 l)) first.after)
  unfolding played_state entry_of front_of
  state_first =
      let (r, e) = records_front l h in
      rw (e, entry_plays r s)

  pub ends_first : play_ends (records_of l) s ≡ ends first || play_ends (records_of (drop 4 l)) first.after
  unfolding play_ends entry_of front_of
  ends_first =
      let (r, e) = records_front l h in
      rw (e, entry_plays r s)

-- THE PLAY BY PARTS: a part that does not end the play, and then the other; one that ends it, and nothing more
text_more : (x y : Bool) (t a b : List ℕ) (c : List ℕ) → x || y ≡ false → (y ≡ false → c ≡ a ++ b) → t ++ cond x [] c ≡ (t ++ cond x [] a) ++ b
text_more true y t a b c e i = absurd (true≢false e)
text_more false y t a b c e i = ap (λ (l : List ℕ). t ++ l) (i e) ∙ sym (append_assoc t a b)

not_ended : (x y : Bool) → x || y ≡ false → x ≡ false
not_ended true y e = e
not_ended false y e = refl

pub text_parts : (a b : List Record) (s : State) → play_ends a s ≡ false → played_text (a ++ b) s ≡ played_text a s ++ played_text b (played_state a s)
unfolding played_text played_state play_ends
text_parts [] b s h = refl
text_parts (r ∷ a) b s h =
    rw (not_ended (ends (play_one r s)) (play_ends a (play_one r s).after) h)
    (text_more false (play_ends a (play_one r s).after) (text_of r (play_one r s)) (played_text a (play_one r s).after) _ _
    (rw (not_ended (ends (play_one r s)) (play_ends a (play_one r s).after) h) at h) (text_parts a b (play_one r s).after))

pub state_parts : (a b : List Record) (s : State) → play_ends a s ≡ false → played_state (a ++ b) s ≡ played_state b (played_state a s)
unfolding played_state play_ends
state_parts [] b s h = refl
state_parts (r ∷ a) b s h =
    let e = not_ended (ends (play_one r s)) (play_ends a (play_one r s).after) h in
    rw e (state_parts a b (play_one r s).after (rw e at h))

pub ends_parts : (a b : List Record) (s : State) → play_ends a s ≡ false → play_ends (a ++ b) s ≡ play_ends b (played_state a s)
unfolding played_state play_ends
ends_parts [] b s h = refl
ends_parts (r ∷ a) b s h =
    let e = not_ended (ends (play_one r s)) (play_ends a (play_one r s).after) h in
    rw e (ends_parts a b (play_one r s).after (rw e at h))

ended_text : (x y : Bool) (t a c : List ℕ) → x || y ≡ true → (y ≡ true → c ≡ a) → t ++ cond x [] c ≡ t ++ cond x [] a
ended_text true y t a c e i = refl
ended_text false y t a c e i = ap (λ (l : List ℕ). t ++ l) (i e)

pub text_ended : (a b : List Record) (s : State) → play_ends a s ≡ true → played_text (a ++ b) s ≡ played_text a s
unfolding played_text play_ends
text_ended [] b s h = absurd (true≢false (sym h))
text_ended (r ∷ a) b s h =
    ended_text (ends (play_one r s)) (play_ends a (play_one r s).after) (text_of r (play_one r s)) _ _ h (text_ended a b (play_one r s).after)

-- THE PLAY BY BLOCKS: a log that is cut between two records is played as the first block and then, unless that has ended the play, the rest
pub text_blocks : (a b : List ℕ) (s : State) → length a % 4 ≡ 0
    → played_text (records_of (a ++ b)) s
    ≡ played_text (records_of a) s ++ cond (play_ends (records_of a) s) [] (played_text (records_of b) (played_state (records_of a) s))
text_blocks a b s h = rw (records_split a b h) (go (play_ends (records_of a) s) refl)
  where
    go : (x : Bool) → play_ends (records_of a) s ≡ x
        → played_text (records_of a ++ records_of b) s ≡ played_text (records_of a) s ++ cond x [] (played_text (records_of b) (played_state (records_of a) s))
    go true e = text_ended (records_of a) (records_of b) s e ∙ sym (append-nil (played_text (records_of a) s))
    go false e = text_parts (records_of a) (records_of b) s e
