-- What a reader expects of runs: how many lines a run runs, and whether its reason is met.
use mathlib.Core.Path.{◌≡◌, refl, sym, ap, ◌∙◌, subst}
use mathlib.Core.Bool.{Bool, true, false, true≢false, cond, not, ◌&&◌, ◌||◌, or-true, or-false}
use mathlib.Core.Logic.{⊎_elim}
use Prim.Native.Nat.{ℕ, zero, suc, ◌+◌, ◌-◌, ◌*◌, ◌/◌, ◌%◌, ◌≤◌, ◌<◌, min}
use native.Mathlib.Omega.{arith}
use native.Mathlib.Nat.{mod-eq_of_lt, add-mod_right}
use lib.Dec.{leb, ltb, eqb}
use borrow.Author.Tests.{eqb-true, eqb-false, ne_eqb, lt-ltb, le-ltb, le-leb, lt-leb, leb-true, leb-false}
use Rattle.model.specs.declared.Ppu.{Ppu}
use Rattle.model.specs.declared.Board.{Board}
use Rattle.model.specs.Unit.{State, state, line_length, bit, last_line, is_well_formed, is_rendering, is_drawing, nmi_level}
use Rattle.model.specs.Line.{any_of, hit_of, marked, status_of, drawn_unit, drawn_line, idle_line, vblank_line, pre_render_line, blank_unit, one_line, lines_run, meets_reason, line_count, reason_met}
use Rattle.model.specs.Calls.{Lent, Call, read_call, write_call, dma_call, run_call, search_call, Outcome, outcome, line_long, request_ok, order, refusal_of, read_done, write_done, dma_done, run_done, search_done, done, on_lent}
use Rattle.model.specs.Theorems.{until_vblank, meets_at, Runs, RunCalls}
use Rattle.model.proofs.Tests.{cond_both, and_both}
use Rattle.model.proofs.Scroll.{lt_or_ge}
use Rattle.model.proofs.Accepted.{is_unasked, exported_unasked, gated, and_none}
use Rattle.model.proofs.Line.{last_high, line_board, line_after, next_line, run_next}
use Rattle.model.proofs.Good.{good_of, lent_lines}

-- ANY REASON. One line more
lines_first : (k : ℕ) (s : State) → lines_run k (one_line s) ≡ lines_run (suc k) s
unfolding lines_run
lines_first zero s = refl
lines_first (suc k) s = ap one_line (lines_first k s)

at_first : (why k : ℕ) (s : State) → meets_at why k (one_line s) ≡ meets_at why (suc k) s
at_first why k s = ap (λ (t : State). meets_reason why t.unit (one_line t).unit) (lines_first k s)

module _ (why n : ℕ) (s : State) (x : Bool) (e : meets_reason why s.unit (one_line s).unit ≡ x) where
  pub count_suc : line_count why (suc n) s ≡ cond x 1 (suc (line_count why n (one_line s)))
  unfolding line_count
  count_suc = rw e

  pub met_suc : reason_met why (suc n) s ≡ x || reason_met why n (one_line s)
  unfolding reason_met
  met_suc = rw e

-- a run of one line
pub run_one : (why : ℕ) (s : State) → (line_count why 1 s ≡ 1) × (reason_met why 1 s ≡ meets_reason why s.unit (one_line s).unit)
unfolding line_count reason_met
run_one why s = go (meets_reason why s.unit (one_line s).unit) refl
  where
    go : (x : Bool) → meets_reason why s.unit (one_line s).unit ≡ x → (line_count why 1 s ≡ 1) × (reason_met why 1 s ≡ x)
    go true e = (count_suc why 0 s true e, met_suc why 0 s true e)
    go false e = (count_suc why 0 s false e, met_suc why 0 s false e)

-- a run whose first i lines do not meet the reason goes on from there
pub run_on : (why i n most : ℕ) (s : State) → most ≡ n + i → ((j : ℕ) → j < i → meets_at why j s ≡ false)
    → (line_count why most s ≡ line_count why n (lines_run i s) + i) × (reason_met why most s ≡ reason_met why n (lines_run i s))
unfolding lines_run
run_on why zero n most s e h =
    let z : most ≡ n = omega (arith, e) in
    let k : line_count why n s ≡ line_count why n s + 0 = omega arith in
    (ap (λ (m : ℕ). line_count why m s) z ∙ k, ap (λ (m : ℕ). reason_met why m s) z)
run_on why (suc i) n most s e h =
    let z : most ≡ suc (n + i) = omega (arith, e) in
    let r = run_on why i n (n + i) (one_line s) refl (λ j l. at_first why j s ∙ h (suc j) (omega arith)) in
    let k : suc (line_count why n (lines_run i (one_line s)) + i) ≡ line_count why n (lines_run i (one_line s)) + suc i = omega arith in
    let f = h 0 (omega arith) in
    rw z
    (count_suc why (n + i) s false f ∙ ap suc r.0 ∙ k ∙ ap (λ (t : State). line_count why n t + suc i) (lines_first i s), met_suc why (n + i) s false f ∙ r.1 ∙ ap (reason_met why n) (lines_first i s))

-- up to the first line that meets it, or all n
met_first : (s : State) (n why k : ℕ) → k < n → ((i : ℕ) → i < k → meets_at why i s ≡ false) → meets_at why k s ≡ true → (line_count why n s ≡ k + 1) × (reason_met why n s ≡ true)
met_first s n why k lt h e =
    let m : ℕ = n - k - 1 in
    let z : n ≡ suc m + k = omega arith in
    let r = run_on why k (suc m) n s z h in
    let a : 1 + k ≡ k + 1 = omega arith in
    (r.0 ∙ ap (λ (x : ℕ). x + k) (count_suc why m (lines_run k s) true e) ∙ a, r.1 ∙ met_suc why m (lines_run k s) true e)

met_none : (s : State) (n why : ℕ) → ((i : ℕ) → i < n → meets_at why i s ≡ false) → (line_count why n s ≡ n) × (reason_met why n s ≡ false)
unfolding line_count reason_met
met_none s n why h =
    let z : n ≡ 0 + n = omega arith in
    let r = run_on why n 0 n s z h in
    let a : 0 + n ≡ n = omega arith in
    (r.0 ∙ a, r.1)

no_reason : (s : State) (k : ℕ) → meets_at 0 k s ≡ false
unfolding meets_reason
no_reason s k = refl

-- REASON 1: the formula. From next line p there are this many lines before line 241
abbrev before241 : ℕ → ℕ → ℕ
before241 last p = (241 + (last + 1) - p) % (last + 1)

module _ (last : ℕ) (high : 241 < last) where
  before_low : (p : ℕ) → p ≤ 241 → before241 last p ≡ 241 - p
  before_low p h =
      let e : 241 + (last + 1) - p ≡ 241 - p + (last + 1) = omega arith in
      let l : 241 - p < last + 1 = omega arith in
      ap (λ (n : ℕ). n % (last + 1)) e ∙ add-mod_right (241 - p) (last + 1) ∙ mod-eq_of_lt l

  before_high : (p : ℕ) → 241 < p → p ≤ last → before241 last p ≡ 241 + (last + 1) - p
  before_high p h k = let l : 241 + (last + 1) - p < last + 1 = omega arith in mod-eq_of_lt l

  before_next : (p : ℕ) → p ≤ last → (p ≡ 241 → ⊥) → (cond (eqb p last) 0 (p + 1) ≤ last) × (before241 last p ≡ before241 last (cond (eqb p last) 0 (p + 1)) + 1)
  before_next p h d =
      ⊎_elim
      (λ (l : p < 241). rw (ne_eqb p last (λ e. omega arith)) (omega arith, omega (arith, before_low p (omega arith), before_low (p + 1) (omega arith))))
      (λ (g : 241 ≤ p). go g (eqb p last) refl)
      (lt_or_ge p 241)
    where
      go : 241 ≤ p → (x : Bool) → eqb p last ≡ x → (cond x 0 (p + 1) ≤ last) × (before241 last p ≡ before241 last (cond x 0 (p + 1)) + 1)
      go g true e = let q = eqb-true p last e in (omega arith, omega (arith, before_high p (omega arith) h, before_low 0 (omega arith)))
      go g false e = let q = eqb-false p last e in (omega arith, omega (arith, before_high p (omega arith) h, before_high (p + 1) (omega arith) (omega arith)))

  before_lands : (p : ℕ) → p ≤ last → (p + (before241 last p + 1)) % (last + 1) ≡ 242
  before_lands p h =
      ⊎_elim
      (λ (l : p < 242).
      let e : p + (before241 last p + 1) ≡ 242 = omega (arith, before_low p (omega arith)) in
      let k : 242 < last + 1 = omega arith in
      rw e (mod-eq_of_lt k))
      (λ (g : 242 ≤ p).
      let e : p + (before241 last p + 1) ≡ 242 + (last + 1) = omega (arith, before_high p (omega arith) h) in
      let k : 242 < last + 1 = omega arith in
      rw e (add-mod_right 242 (last + 1) ∙ mod-eq_of_lt k))
      (lt_or_ge p 242)

-- without control bit 7 all n lines, not met
line_control : (s : State) → (one_line s).unit.control ≡ s.unit.control
unfolding one_line drawn_line drawn_unit blank_unit vblank_line pre_render_line idle_line
line_control s =
    cond_both (λ (t : State). t.unit.control ≡ s.unit.control) (ltb s.unit.scanline 240) (drawn_line s) (state (blank_unit s.unit) s.memory) refl
    (cond_both (λ (u : Ppu). u.control ≡ s.unit.control) (eqb s.unit.scanline 241) (vblank_line s.unit) _ refl
    (cond_both (λ (u : Ppu). u.control ≡ s.unit.control) (eqb s.unit.scanline (last_line s.unit.board)) (pre_render_line s.unit) (idle_line s.unit) refl refl))

still : (b : Bool) (s : State) → bit 128 s.unit.control ≡ b → bit 128 (one_line s).unit.control ≡ b
still b s e = ap (bit 128) (line_control s) ∙ e

meets_off : (s : State) → bit 128 s.unit.control ≡ false → meets_reason 1 s.unit (one_line s).unit ≡ false
unfolding meets_reason
meets_off s e = rw e

meets_on : (s : State) → bit 128 s.unit.control ≡ true → meets_reason 1 s.unit (one_line s).unit ≡ eqb s.unit.scanline 241
unfolding meets_reason
meets_on s e = rw e

nmi_off : (n : ℕ) (s : State) → bit 128 s.unit.control ≡ false → (line_count 1 n s ≡ n) × (reason_met 1 n s ≡ false)
nmi_off zero s e = (unfold line_count in refl, unfold reason_met in refl)
nmi_off (suc n) s e =
    let r = nmi_off n (one_line s) (still false s e) in
    (count_suc 1 n s false (meets_off s e) ∙ ap suc r.0, met_suc 1 n s false (meets_off s e) ∙ r.1)

-- with it the lesser of n and the formula's number, met exactly if that is at most n
next_within : (s : State) → line_after s.unit.board s.unit.scanline ≤ last_line s.unit.board → (one_line s).unit.scanline ≤ last_line (one_line s).unit.board
next_within s h = subst (λ (d : Board). (one_line s).unit.scanline ≤ last_line d) (sym (line_board s)) (subst (λ (k : ℕ). k ≤ last_line s.unit.board) (sym (next_line s)) h)

leb_next : (a b n : ℕ) → a ≡ b + 1 → leb (b + 1) n ≡ leb (a + 1) (suc n)
leb_next a b n e = go (leb (b + 1) n) refl
  where
    go : (x : Bool) → leb (b + 1) n ≡ x → x ≡ leb (a + 1) (suc n)
    go true f = sym (le-leb (a + 1) (suc n) (omega (arith, leb-true (b + 1) n f, e)))
    go false f = sym (lt-leb (a + 1) (suc n) (omega (arith, leb-false (b + 1) n f, e)))

abbrev NmiOn : ℕ → State → Type 0
NmiOn n s =
    (line_count 1 n s ≡ min n (until_vblank s.unit.board s.unit.scanline)) × (reason_met 1 n s ≡ leb (until_vblank s.unit.board s.unit.scanline) n)

nmi_on : (n : ℕ) (s : State) → s.unit.scanline ≤ last_line s.unit.board → bit 128 s.unit.control ≡ true → NmiOn n s
nmi_on zero s h e =
    (unfold line_count in omega arith, unfold reason_met in sym (lt-leb (before241 (last_line s.unit.board) s.unit.scanline + 1) 0 (omega arith)))
nmi_on (suc n) s h e = go (λ q. nmi_on n (one_line s) (next_within s (before_next last high p h q).0) (still true s e)) (eqb p 241) refl
  where
    last : ℕ
    last = last_line s.unit.board

    high : 241 < last
    high = last_high s.unit.board

    p : ℕ
    p = s.unit.scanline

    go : ((p ≡ 241 → ⊥) → NmiOn n (one_line s)) → (x : Bool) → eqb p 241 ≡ x → NmiOn (suc n) s
    go rest true f =
        let m = meets_on s e ∙ f in
        let q = eqb-true p 241 f in
        let c : 1 ≡ min (suc n) (before241 last p + 1) = omega (arith, before_low last high p (omega arith)) in
        (count_suc 1 n s true m ∙ c, met_suc 1 n s true m ∙ sym (le-leb _ (suc n) (omega (arith, before_low last high p (omega arith)))))
    go rest false f =
        let m = meets_on s e ∙ f in
        let q = eqb-false p 241 f in
        let r = rest q in
        let b = (before_next last high p h q).1 in
        let same : before241 (last_line (one_line s).unit.board) (one_line s).unit.scanline ≡ before241 last (line_after s.unit.board p) = (λ i. before241 (last_line (line_board s i)) (next_line s i)) in
        let c : suc (min n (before241 last (line_after s.unit.board p) + 1)) ≡ min (suc n) (before241 last p + 1) = omega (arith, b) in
        (count_suc 1 n s false m ∙ ap suc (r.0 ∙ ap (λ (k : ℕ). min n (k + 1)) same) ∙ c, met_suc 1 n s false m ∙ r.1 ∙ ap (λ (k : ℕ). leb (k + 1) n) same ∙ leb_next (before241 last p) _ n b)

module _ (n : ℕ) (s : State) (f : is_well_formed s.unit ≡ true) where
  within : s.unit.scanline ≤ last_line s.unit.board
  within = omega (arith, (good_of s.unit f).scanline)

  pub nmi_count : line_count 1 n s ≡ cond (bit 128 s.unit.control) (min n (until_vblank s.unit.board s.unit.scanline)) n
  nmi_count = go (bit 128 s.unit.control) refl
    where
      go : (x : Bool) → bit 128 s.unit.control ≡ x → line_count 1 n s ≡ cond x (min n (until_vblank s.unit.board s.unit.scanline)) n
      go true e = (nmi_on n s within e).0
      go false e = (nmi_off n s e).0

  nmi_met : reason_met 1 n s ≡ (bit 128 s.unit.control && leb (until_vblank s.unit.board s.unit.scanline) n)
  nmi_met = go (bit 128 s.unit.control) refl
    where
      go : (x : Bool) → bit 128 s.unit.control ≡ x → reason_met 1 n s ≡ (x && leb (until_vblank s.unit.board s.unit.scanline) n)
      go true e = (nmi_on n s within e).1
      go false e = (nmi_off n s e).1

  nmi_next : reason_met 1 n s ≡ true → (lines_run (line_count 1 n s) s).unit.scanline ≡ 242
  nmi_next m =
      let last : ℕ = last_line s.unit.board in
      let k : ℕ = before241 last s.unit.scanline + 1 in
      let b = and_both (bit 128 s.unit.control) (leb k n) (sym nmi_met ∙ m) in
      let c : line_count 1 n s ≡ k = omega (arith, (nmi_on n s within b.0).0, leb-true k n b.1) in
      ap (λ (i : ℕ). (lines_run i s).unit.scanline) c ∙ run_next k s within ∙ before_lands last (last_high s.unit.board) s.unit.scanline within

-- REASON 2: status bit 6 of a line
hit_rises : (s : State) (k : ℕ) → meets_at 2 k s ≡ (not (bit 64 (lines_run k s).unit.status) && bit 64 (one_line (lines_run k s)).unit.status)
unfolding meets_reason
hit_rises s k = refl

hit_marked : (b : Bool) (x : ℕ) → bit 64 (marked 64 b x) ≡ (bit 64 x || b)
unfolding marked
hit_marked true x = let z : (x / 128 * 128 + 64 + x % 64) / 64 % 2 ≡ 1 = omega arith in rw z (sym (or-true (bit 64 x)))
hit_marked false x = sym (or-false (bit 64 x))

hit_kept : (b : Bool) (x : ℕ) → bit 64 (marked 32 b x) ≡ bit 64 x
unfolding marked
hit_kept true x = let z : (x / 64 * 64 + 32 + x % 32) / 64 % 2 ≡ x / 64 % 2 = omega arith in rw z
hit_kept false x = refl

module _ (s : State) where
  abbrev hits : Bool
  hits = any_of (hit_of s.unit s.memory.cells.left s.memory.cells.right s.memory.cells.nametables s.memory.cells.oam) line_length

  line_hit : s.unit.scanline < 240 → is_rendering s.unit ≡ true → bit 64 (one_line s).unit.status ≡ (bit 64 s.unit.status || hits)
  unfolding one_line drawn_line drawn_unit status_of
  line_hit h e = rw (lt-ltb s.unit.scanline 240 h, e, hit_kept _ _, hit_marked _ _)

  line_no_hit : 240 ≤ s.unit.scanline → bit 64 s.unit.status ≡ false → bit 64 (one_line s).unit.status ≡ false
  unfolding one_line blank_unit vblank_line pre_render_line idle_line
  line_no_hit h e =
      rw (le-ltb s.unit.scanline 240 h)
      (cond_both (λ (u : Ppu). bit 64 u.status ≡ false) (eqb s.unit.scanline 241) (vblank_line s.unit) _ (rw z e)
      (cond_both (λ (u : Ppu). bit 64 u.status ≡ false) (eqb s.unit.scanline (last_line s.unit.board)) (pre_render_line s.unit) (idle_line s.unit) refl e))
    where
      z : (s.unit.status % 128 + 128) / 64 % 2 ≡ s.unit.status / 64 % 2
      z = omega arith

  line_off : s.unit.scanline < 240 → is_rendering s.unit ≡ false → (one_line s).unit.status ≡ s.unit.status
  unfolding one_line drawn_line drawn_unit status_of marked
  line_off h e = rw (lt-ltb s.unit.scanline 240 h, e)

  -- what is left of a reason for a line that is drawn, and for one that is not
  pub meets_drawn : (why : ℕ) → s.unit.scanline < 240 → is_rendering s.unit ≡ true
      → meets_reason why s.unit (one_line s).unit ≡ (eqb why 2 && (not (bit 64 s.unit.status) && hits))
  unfolding meets_reason
  meets_drawn why h e = rw (line_hit h e, ne_eqb s.unit.scanline 241 (λ z. omega (arith, z)), and_none (bit 128 s.unit.control)) (go (eqb why 1) (eqb why 2) refl refl)
    where
      rises : (b x : Bool) → not b && (b || x) ≡ not b && x
      rises true x = refl
      rises false x = refl

      go : (x y : Bool) → eqb why 1 ≡ x → eqb why 2 ≡ y → cond x false (cond y (not (bit 64 s.unit.status) && (bit 64 s.unit.status || hits)) false) ≡ y && (not (bit 64 s.unit.status) && hits)
      go true true f g = let z = eqb-true why 1 f in absurd (true≢false (sym g ∙ ne_eqb why 2 (λ e. omega (arith, z, e))))
      go true false f g = refl
      go false true f g = rises (bit 64 s.unit.status) hits
      go false false f g = refl

  pub meets_undrawn : (why : ℕ) → (ltb s.unit.scanline 240 && is_rendering s.unit) ≡ false
      → meets_reason why s.unit (one_line s).unit ≡ (eqb why 1 && (bit 128 s.unit.control && eqb s.unit.scanline 241))
  unfolding meets_reason
  meets_undrawn why h = go (eqb why 1) (eqb why 2)
    where
      off : s.unit.scanline < 240 → is_rendering s.unit ≡ false
      off lt = sym (ap (λ (b : Bool). b && is_rendering s.unit) (lt-ltb s.unit.scanline 240 lt)) ∙ h

      stays : bit 64 s.unit.status ≡ false → bit 64 (one_line s).unit.status ≡ false
      stays e = ⊎_elim (λ (lt : s.unit.scanline < 240). ap (bit 64) (line_off lt (off lt)) ∙ e) (λ (ge : 240 ≤ s.unit.scanline). line_no_hit ge e) (lt_or_ge s.unit.scanline 240)

      no_rise : (b : Bool) → bit 64 s.unit.status ≡ b → not b && bit 64 (one_line s).unit.status ≡ false
      no_rise true e = refl
      no_rise false e = stays e

      go : (x y : Bool) → cond x (bit 128 s.unit.control && eqb s.unit.scanline 241) (cond y (not (bit 64 s.unit.status) && bit 64 (one_line s).unit.status) false)
          ≡ x && (bit 128 s.unit.control && eqb s.unit.scanline 241)
      go true y = refl
      go false true = no_rise (bit 64 s.unit.status) refl
      go false false = refl

pub runs : (s : State) (n : ℕ) → Runs s n
runs s n =
    record {
      met_first = met_first s n;
      met_none = met_none s n;
      no_reason = no_reason s;
      nmi_count = nmi_count n s;
      nmi_met = nmi_met n s;
      nmi_next = nmi_next n s;
      hit_rises = hit_rises s;
    }

-- THE CALL. 5 for an unknown reason
unknown : (l : Lent) (why n : ℕ) → 3 ≤ why → request_ok (run_call l why n) ≡ false
unknown l why n h = le-ltb why 3 h

module _ (s : State) where
  run_0 : (l : Lent) (why n : ℕ) → why < 3 → line_long s.unit s.memory ≡ true → is_well_formed s.unit ≡ true
      → on_lent (run_call l why n) s
      ≡ (let t : State = lines_run (line_count why n s) s in outcome (record { number = 0; byte = 0; lines = line_count why n s; nmi = nmi_level t.unit; met = reason_met why n s; looked = 0 }) t)
  unfolding on_lent refusal_of order done run_done
  run_0 l why n h e f = rw (lt-ltb why 3 h, e, f, and_none (is_drawing s.unit))

  run_nothing : (l : Lent) (why : ℕ) → ((on_lent (run_call l why 0) s).after ≡ s) × ((on_lent (run_call l why 0) s).answer.lines ≡ 0) × ((on_lent (run_call l why 0) s).answer.met ≡ false)
  unfolding done run_done line_count reason_met lines_run
  run_nothing l why = gated s (run_call l why 0) (λ (o : Outcome). (o.after ≡ s) × (o.answer.lines ≡ 0) × (o.answer.met ≡ false)) (refl, refl, refl) (λ k. (refl, refl, refl))

  lines_0 : (c : Call) → (done c s).answer.lines ≡ 0 → (on_lent c s).answer.lines ≡ 0
  lines_0 c h = gated s c (λ (o : Outcome). o.answer.lines ≡ 0) h (λ k. refl)

  met_0 : (c : Call) → (done c s).answer.met ≡ false → (on_lent c s).answer.met ≡ false
  met_0 c h = gated s c (λ (o : Outcome). o.answer.met ≡ false) h (λ k. refl)

pub run_calls : (s : State) → RunCalls s
unfolding done read_done write_done dma_done search_done
run_calls s =
    record {
      run_5 = λ l why n h. is_unasked (run_call l why n) s (unknown l why n h);
      exported_run_5 = λ l why n h b. exported_unasked (run_call l why n) b s.memory (unknown l why n h);
      run_0 = run_0 s;
      run_next = λ l why n h. lent_lines (run_call l why n) s h;
      run_nothing = run_nothing s;
      run_one = λ why. run_one why s;
      no_lines = λ l a b n p. (lines_0 s (read_call l a) refl, lines_0 s (write_call l a b) refl, lines_0 s (dma_call l p) refl, lines_0 s (search_call l n) refl);
      no_met = λ l a b n p. (met_0 s (read_call l a) refl, met_0 s (write_call l a b) refl, met_0 s (dma_call l p) refl, met_0 s (search_call l n) refl);
      line_hit = line_hit s;
      line_no_hit = line_no_hit s;
    }
