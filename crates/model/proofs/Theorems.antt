-- The statements of specs/Theorems.antt, proved.
use mathlib.Core.Path.{◌≡◌, refl, sym, ap, ◌∙◌, subst}
use mathlib.Core.Bool.{Bool, true, false, cond, ◌&&◌, ◌||◌}
use mathlib.Core.List.{List, [], ◌∷◌, ◌++◌, append_assoc}
use mathlib.Core.Logic.{◌⊎◌, ⊎_elim}
use Prim.Native.Nat.{ℕ, zero, suc, ◌+◌, ◌*◌, ◌<◌}
use native.Mathlib.Omega.{arith}
use native.Mathlib.Nat.{add-zero}
use lib.Dec.{lit<, ltb, eqb}
use lib.ListN.{length, get_or, take, drop, take-append-drop}
use lib.Seq.{drop-cons}
use borrow.Author.Tests.{lt-ltb, ltb-true, eq-eqb, ne_eqb}
use Rattle.model.specs.declared.Board.{Board}
use Rattle.model.specs.declared.Ppu.{Ppu}
use Rattle.model.specs.declared.Access.{Access}
use Rattle.model.specs.declared.Answer.{Answer}
use Rattle.model.specs.Unit.{Memory, dma_memory, State, state, record_length, is_well_formed, is_drawing}
use Rattle.model.specs.Record.{unit_of, record_of, record_ok, bit_byte}
use Rattle.model.specs.Ports.{port_of}
use Rattle.model.specs.Calls.{access, refused_access, load_call, Saved, refusal, Call, Outcome, outcome, outcome_on, long_for, request_ok, order, in_range, blocked, refusal_of, done, gate, on_lent, lent_of, lent_memory, call, packed, exported, on_record, exported_call}
use Rattle.model.specs.Reload.{end, end_of, total, total_of, trace, Places, Bytes, seven, joined, reload, step, without, Within, all_below, bytes_only, Held, Needed}
use Rattle.model.specs.RecordLog.{RecordState, record_state, record_call, record_trace, record_system, RecordNeeded}
use Rattle.model.specs.Log.{Record, whole, cut, records_of, record_known, record_call as records_call, play_one, front_of, play_call, exported_one, exported_play}
use Rattle.model.specs.Theorems.{AreBelow, AreBytes, Refusals, RoundTrips, Lending, Traces, DataCalls, HeldBytes, PackedParts, Arguments, ReloadTheorem, Mirrors, Steps, PlayedRecords, Theorems}
use Rattle.model.proofs.Tests.{and_both}
use Rattle.model.proofs.Accepted.{is_refused, is_unmade, and_none}
use Rattle.model.proofs.Record.{bit_small, unit_record_unit, load_save, load_is, save_is, save_load, board_codes}
use Rattle.model.proofs.Address.{board_pages}
use Rattle.model.proofs.Calls.{frame, exported_frame}
use Rattle.model.proofs.Colours.{colours, coloured_lines, colour_bytes}
use Rattle.model.proofs.Search.{searches, search_calls}
use Rattle.model.proofs.Kept.{done_num}
use Rattle.model.proofs.Good.{call_good}
use Rattle.model.proofs.Runs.{runs, run_calls}
use Rattle.model.proofs.Reloaded.{idle, demand3}
use Rattle.model.proofs.Needed.{seven_steps, nine_calls, needed}
use Rattle.model.proofs.Text.{quarter_pages, rows, pages, screens}
use Rattle.model.proofs.Records.{saves, refused_bytes, exported_call_lem, kept, ends_kept, pair_kept, record_demand3}

-- REFUSALS
number : (c : Call) (s : State) → (on_lent c s).answer.number ≡ refusal_of c s
unfolding on_lent
number c s = go (refusal_of c s)
  where
    go : (k : ℕ) → (gate k (done c s) s).answer.number ≡ k
    go zero = done_num c s
    go (suc k) = refl

module _ (c : Call) (s : State) where
  is_5 : request_ok c ≡ false → refusal_of c s ≡ 5
  unfolding refusal_of order
  is_5 k = rw k

  is_3 : request_ok c ≡ true → is_well_formed s.unit ≡ false → refusal_of c s ≡ 3
  unfolding refusal_of order
  is_3 k e = rw (k, e)

  is_2 : request_ok c ≡ true → is_well_formed s.unit ≡ true → long_for c s.unit s.memory ≡ false → refusal_of c s ≡ 2
  unfolding refusal_of order
  is_2 k e f = rw (k, e, f)

  is_1 : request_ok c ≡ true → is_well_formed s.unit ≡ true → long_for c s.unit s.memory ≡ true → in_range c ≡ false → refusal_of c s ≡ 1
  unfolding refusal_of order
  is_1 k e f g = rw (k, e, f, g)

  is_4 : request_ok c ≡ true → is_well_formed s.unit ≡ true → long_for c s.unit s.memory ≡ true → in_range c ≡ true → is_drawing s.unit ≡ true → blocked c ≡ true → refusal_of c s ≡ 4
  unfolding refusal_of order
  is_4 k e f g h i = rw (k, e, f, g, h, i)

  is_0 : request_ok c ≡ true → is_well_formed s.unit ≡ true → long_for c s.unit s.memory ≡ true → in_range c ≡ true → (is_drawing s.unit ≡ false) ⊎ (blocked c ≡ false) → refusal_of c s ≡ 0
  unfolding refusal_of order
  is_0 k e f g =
      ⊎_elim (λ (h : is_drawing s.unit ≡ false). rw (k, e, f, g, h)) (λ (h : blocked c ≡ false). rw (k, e, f, g, h, and_none (is_drawing s.unit)))

-- on a record: refused by it, or by the call
record Refused (m : Memory) (o : Outcome) : Type 0 where
  answer : o.answer ≡ refusal o.answer.number
  memory : o.after.memory ≡ m

module _ (c : Call) (l : List ℕ) (m : Memory) where
  abbrev x : Access
  x = load_call l

  abbrev loaded : Bool → Bool → Outcome
  loaded k b = cond k (cond b (on_lent c (state x.unit m)) (outcome_on x m)) (outcome_on (refused_access 5 x.unit) m)

  by_load : (k b : Bool) → ((loaded k b).answer.number ≡ 0 → ⊥) → Refused m (loaded k b)
  by_load true true h =
      let f = sym (is_refused c (state x.unit m) (on_lent c (state x.unit m)).answer.number (number c (state x.unit m)) h) in
      record { answer = ap (λ (o : Outcome). o.answer) f; memory = ap (λ (o : Outcome). o.after.memory) f }
  by_load true false h = record { answer = ap (λ (y : Access). y.answer) (is_unmade l x.answer.number refl h); memory = refl }
  by_load false b h = record { answer = refl; memory = refl }

  refused_record : ((on_record c l m).answer.number ≡ 0 → ⊥) → Refused m (on_record c l m)
  unfolding on_record
  refused_record h = by_load (request_ok c) (eqb x.answer.number 0) h

  record_5 : request_ok c ≡ false → (on_record c l m).answer.number ≡ 5
  unfolding on_record
  record_5 h = rw h

  record_2 : request_ok c ≡ true → (length l ≡ record_length → ⊥) → (on_record c l m).answer.number ≡ 2
  unfolding on_record load_call
  record_2 h f = rw (h, ne_eqb (length l) record_length f)

  record_3 : request_ok c ≡ true → length l ≡ record_length → record_ok l ≡ false → (on_record c l m).answer.number ≡ 3
  unfolding on_record load_call
  record_3 h e f = rw (h, eq-eqb (length l) record_length e, f)

  record_call_lem : request_ok c ≡ true → length l ≡ record_length → record_ok l ≡ true → on_record c l m ≡ on_lent c (state (unit_of l) m)
  unfolding on_record
  record_call_lem h e f = rw (h, load_is l e f)

exported_refused : (c : Call) (l : List ℕ) (m : Memory) → ((on_record c l m).answer.number ≡ 0 → ⊥) → exported_call c l m ≡ exported (on_record c l m).answer.number l m
unfolding exported_call
exported_refused c l m h =
    let o : Outcome = on_record c l m in
    let r = refused_record c l m h in
    let p : packed (refusal o.answer.number) ≡ o.answer.number = omega arith in
    λ i. exported ((ap packed r.answer ∙ p) i) (refused_bytes (access o.answer o.after.unit) l h i) (r.memory i)

refusals : Refusals
refusals =
    record {
      number = number;
      is_5 = is_5;
      is_3 = is_3;
      is_2 = is_2;
      is_1 = is_1;
      is_4 = is_4;
      is_0 = is_0;
      record_5 = record_5;
      record_2 = record_2;
      record_3 = record_3;
      record_call_lem = record_call_lem;
      refused = λ c s h. sym (is_refused c s (on_lent c s).answer.number (number c s) h);
      exported_refused = exported_refused;
    }

-- a packed answer's parts
packed_parts : (a : Answer) → PackedParts a
packed_parts a =
    let s : bit_byte a.nmi < 2 = bit_small a.nmi in
    let t : bit_byte a.met < 2 = bit_small a.met in
    record {
      number_at_lem = λ n. omega arith;
      byte_at_lem = λ n b. omega arith;
      nmi_at = λ n b. omega arith;
      met_at = λ n b. omega arith;
      looked_at_lem = λ n b l. omega arith;
      lines_at = λ n b l. omega arith;
    }

round_trips : RoundTrips
round_trips =
    record {
      unit_back = λ u l h e. ap (λ (x : Saved). load_call x.bytes) (save_is u l h e) ∙ load_save u h;
      record_back = save_load;
      stays_formed = call_good;
    }

-- LENDING
lending : Lending
unfolding call record_call exported_call
lending =
    record {
      lent_of_lem = λ l a b n p. (refl, refl, refl, refl, refl);
      own_memory_lem = λ c s e. rw e;
      other_memory = λ c s m e. rw e;
      own_record = λ c s e. rw e;
      other_record = λ c s m e. rw e;
      record_answer = λ c s. refl;
    }

-- TRACES
joined_trace : (a b : List Call) (s : State) → trace (a ++ b) s ≡ trace a s ++ trace b (end a s)
unfolding trace end_of
joined_trace [] b s = refl
joined_trace (c ∷ a) b s = ap (λ r. call c s ∷ r) (joined_trace a b (call c s).after)

joined_end : (a b : List Call) (s : State) → end (a ++ b) s ≡ end b (end a s)
unfolding end_of
joined_end [] b s = refl
joined_end (c ∷ a) b s = joined_end a b (call c s).after

joined_total : (a b : List Call) (s : State) → total (a ++ b) s ≡ total a s + total b (end a s)
unfolding total_of end_of
joined_total [] b s = omega arith
joined_total (c ∷ a) b s = omega (arith, joined_total a b (call c s).after)

joined_records : (a b : List Call) (s : RecordState) → record_trace (a ++ b) s ≡ record_trace a s ++ record_trace b (end_of record_system a s)
unfolding record_trace end_of
joined_records [] b s = refl
joined_records (c ∷ a) b s = ap (λ r. record_call c s ∷ r) (joined_records a b (record_call c s).after)

traces : Traces
unfolding trace end_of total_of record_trace
traces =
    record {
      one = λ c s. (refl, refl, add-zero (call c s).answer.lines);
      joined_trace = joined_trace;
      joined_end = joined_end;
      joined_total = joined_total;
      one_record = λ c s. (refl, refl);
      joined_records = joined_records;
    }

-- DATA CALLS
or_true : (b : Bool) → b || true ≡ true
or_true true = refl
or_true false = refl

data_calls : DataCalls
data_calls =
    record {
      data_dma = λ l p. refl;
      data_write = λ l a b.
          ⊎_elim (λ (e : port_of a ≡ 4). rw (eq-eqb (port_of a) 4 e)) (λ (e : port_of a ≡ 7). rw (eq-eqb (port_of a) 7 e) (or_true (eqb (port_of a) 4)));
      no_data_write = λ l a b e f. rw (ne_eqb (port_of a) 4 e, ne_eqb (port_of a) 7 f);
      no_data = λ l a why n. (refl, refl, refl);
    }

-- BYTES
below : (n : ℕ) → 0 < n → (l : List ℕ) → all_below n l ≡ true → AreBelow n l
unfolding all_below
below n z [] e k = z
below n z (b ∷ bs) e zero = ltb-true b n (and_both (ltb b n) (all_below n bs) e).0
below n z (b ∷ bs) e (suc k) = below n z bs (and_both (ltb b n) (all_below n bs) e).1 k

pub bytes_below : (l : List ℕ) → bytes_only l ≡ true → AreBytes l
bytes_below = below 256 (lit< tt)

all_below_lem : (n : ℕ) (l : List ℕ) → AreBelow n l → all_below n l ≡ true
unfolding all_below
all_below_lem n [] h = refl
all_below_lem n (b ∷ bs) h = λ i. lt-ltb b n (h 0) i && all_below_lem n bs (λ k. h (suc k)) i

held_bytes : HeldBytes
held_bytes =
    record {
      below = below;
      all_below_lem = all_below_lem;
      held = λ s h. (bytes_below _ h.unit, bytes_below _ h.left, bytes_below _ h.right, bytes_below _ h.nametables, bytes_below _ h.oam, bytes_below _ h.palette, bytes_below _ h.line, below 65536 (lit< tt) _ h.colours);
      formed = λ s h. h.formed;
    }

arguments : Arguments
arguments =
    record {
      fits_read = λ l a f. f;
      fits_write = λ l a b f. f;
      fits_dma = λ l p f. (f.0, bytes_below p f.1);
      fits_run = λ l why n f. f;
      fits_search = λ l n f. f;
      fits_lent = λ m f. f;
      fits_all = λ c cs f. f;
    }

-- 4 is given only while drawing
never : (k a b c : Bool) → order k a b c false ≡ 4 → ⊥
unfolding order
never true true true true e = omega (arith, e)
never true true true false e = omega (arith, e)
never true true false c e = omega (arith, e)
never true false b c e = omega (arith, e)
never false a b c e = omega (arith, e)

never_4 : (c : Call) (s : State) → Within s → (call c s).answer.number ≡ 4 → ⊥
unfolding call refusal_of
never_4 c s h e =
    let t : State = state s.unit (lent_memory (lent_of c) s.memory) in
    never (request_ok c) (is_well_formed t.unit) (long_for c t.unit t.memory) (in_range c)
    (rw (idle s.unit h.0 h.1) at (sym (number c t) ∙ e))

-- THE RELOAD, on records: what a unit shows, its record shows
record_needed : (d : Board) (k : ℕ) → k < 7 → RecordNeeded d k
record_needed d k l =
    let n : Needed d k = needed d k l in
    let h = n.held.formed in
    let side : (cs ds : List Call) → (end_of record_system ds (end_of record_system cs (kept n.start))).bytes ≡ record_of (end ds (end cs n.start)).unit =
    λ cs ds. ap (λ (z : RecordState). z.bytes) (ends_kept cs ds n.start h)
    in
    record {
      start = kept n.start;
      board = ap (λ (u : Ppu). u.board) (unit_record_unit n.start.unit) ∙ n.board;
      log_a = n.log_a;
      log_b = n.log_b;
      pair = pair_kept n.start n.log_a n.log_b h (bytes_below _ n.held.unit) n.pair;
      held = subst (λ (u : Ppu). Held (state u n.start.memory)) (sym (unit_record_unit n.start.unit)) n.held;
      taken = ap (λ a. a.answer.number) (load_save n.start.unit h);
      fit_a = n.fit_a;
      fit_b = n.fit_b;
      at_a = n.at_a;
      at_b = n.at_b;
      bytes = n.bytes;
      fit = n.fit;
      differ = λ e. n.differ (sym (side n.log_a (without k n.at_a n.bytes)) ∙ e ∙ side n.log_b (without k n.at_b n.bytes));
    }

reload_theorem : ReloadTheorem
reload_theorem =
    record {
      demand3 = demand3;
      record_demand3 = record_demand3;
      needed = needed;
      record_needed = record_needed;
      not_spared = λ d k l f.
          let n : Needed d k = needed d k l in
          n.differ (f n.start n.log_a n.log_b n.board n.pair n.held n.fit_a n.fit_b n.at_a n.at_b n.bytes n.fit.0 n.fit.1);
      alike = λ s t a i. state (a.units i) (a.memories i);
      record_alike = λ s t a i. record_state (a.records i) (a.memories i);
      never_4 = never_4;
    }

mirrors : Mirrors
mirrors = record { every_mirror = λ a h k. (record { addr = a; low = h; high = k; port = refl }, refl) }

-- ITS STEPS
joined_both : (a b : List (List Call)) → joined (a ++ b) ≡ joined a ++ joined b
unfolding joined
joined_both [] b = refl
joined_both (c ∷ a) b = ap (λ r. c ++ r) (joined_both a b) ∙ sym (append_assoc c (joined a) (joined b))

joined_first : (c : List Call) (cs : List (List Call)) → joined (c ∷ cs) ≡ c ++ joined cs
unfolding joined
joined_first c cs = refl

module _ (a : Places) (b : Bytes) where
  left_out : (k : ℕ) → k < 7 → (front : List Call) × (back : List Call) × (reload a b ≡ front ++ (step k a b ++ back)) × (without k a b ≡ front ++ back)
  unfolding reload step without
  left_out k h =
      let l : k < length (seven a b) = omega (arith, seven_steps a b) in
      let split : joined (drop k (seven a b)) ≡ get_or (seven a b) k [] ++ joined (drop (suc k) (seven a b)) = ap joined (drop-cons (seven a b) k [] l) ∙ joined_first (get_or (seven a b) k []) (drop (suc k) (seven a b)) in (
        joined (take k (seven a b)),
        joined (drop (suc k) (seven a b)),
        ap joined (sym (take-append-drop k (seven a b))) ∙ joined_both (take k (seven a b)) (drop k (seven a b)) ∙ ap (λ r. joined (take k (seven a b)) ++ r) split,
        joined_both (take k (seven a b)) (drop (suc k) (seven a b)),
      )

  steps : Steps a b
  steps = record { seven_steps = seven_steps a b; nine_calls = nine_calls a b; left_out = left_out }

-- RECORDS OF A LOG
cut_front : (log : List ℕ) → length log < 4 → front_of (records_of log) ≡ cut
unfolding records_of front_of
cut_front [] h = refl
cut_front (a ∷ []) h = refl
cut_front (a ∷ b ∷ []) h = refl
cut_front (a ∷ b ∷ c ∷ []) h = refl
cut_front (a ∷ b ∷ c ∷ d ∷ r) h = absurd (omega arith)

one_exported : (r : Record) (u : Ppu) (m : Memory) → is_well_formed u ≡ true → exported_one r (record_of u) m ≡ saves (play_one r (state u m))
unfolding exported_one play_one
one_exported (whole k h l b) u m f = go (record_known k b)
  where
    go : (x : Bool)
        → cond x (exported_call (records_call k (h * 256 + l) b) (record_of u) m) (exported (packed (refusal 5)) (record_of u) m)
        ≡ saves (cond x (on_lent (records_call k (h * 256 + l) b) (state u m)) (outcome (refusal 5) (state u m)))
    go true = exported_call_lem (records_call k (h * 256 + l) b) u m f
    go false = refl
one_exported cut u m f = refl

played_records : PlayedRecords
unfolding play_call exported_play play_one exported_one front_of records_of records_call
played_records =
    record {
      known = λ k h l b r s e. rw e;
      unknown = λ k h l b r s e. rw e;
      cut_short = λ log s h. rw (cut_front log h);
      exported_known = λ k h l b r u m e. rw e;
      exported_unknown = λ k h l b r u m e. rw e;
      exported_cut = λ log u m h. rw (cut_front log h);
      exported_play_lem = λ log u m f. one_exported (front_of (records_of log)) u m f;
      runs_on = λ h l. refl;
    }

pub theorems : Theorems
theorems =
    record {
      refusals = refusals;
      packed_parts = packed_parts;
      round_trips = round_trips;
      frames = record { frame = frame; exported_frame = exported_frame; oam_alone = λ l p n m m' e. (ap dma_memory e, ap dma_memory e) };
      lending = lending;
      traces = traces;
      data_calls = data_calls;
      held_bytes = held_bytes;
      arguments = arguments;
      reload_theorem = reload_theorem;
      mirrors = mirrors;
      steps = steps;
      played_records = played_records;
      colours = colours;
      coloured_lines = coloured_lines;
      colour_bytes = colour_bytes;
      searches = searches;
      search_calls = search_calls;
      runs = runs;
      run_calls = run_calls;
      board_pages = board_pages;
      board_codes = board_codes;
      quarter_pages = quarter_pages;
      rows = rows;
      pages = pages;
      screens = screens;
    }
