-- What a reader expects of the search for overflow.
use mathlib.Core.Path.{◌≡◌, refl, sym, ap, ◌∙◌}
use mathlib.Core.Bool.{Bool, true, false, true≢false, cond, ◌||◌, or-true, or-false}
use mathlib.Core.List.{List}
use Prim.Native.Nat.{ℕ, zero, suc, ◌+◌, ◌-◌, ◌*◌, ◌/◌, ◌%◌, ◌≤◌, ◌<◌}
use native.Mathlib.Omega.{arith}
use native.Mathlib.Numerals.{add-one}
use native.Mathlib.Nat.{add-zero, add-suc}
use lib.Dec.{leb}
use lib.ListN.{length}
use borrow.Author.Tests.{leb-true, leb-false, lt-leb, lt-ltb, le-ltb, eq-eqb}
use Rattle.model.specs.Unit.{State, oam_length, bit, is_well_formed, is_rendering, is_drawing, nmi_level}
use Rattle.model.specs.Sprites.{covers, count_of, tried, Look, looked_on, look_on, looks_of, overflows, looked_at}
use Rattle.model.specs.Line.{marked, status_of, drawn_unit, drawn_line, one_line}
use Rattle.model.specs.Calls.{Lent, Call, read_call, write_call, dma_call, run_call, search_call, Outcome, outcome, done, read_done, write_done, dma_done, run_done, search_done, order, refusal_of, on_lent}
use Rattle.model.specs.Theorems.{IsEighth, Searches, SearchCalls}
use Rattle.model.proofs.Accepted.{is_unasked, exported_unasked, gated, and_none}

module _ (c : ℕ) (o : List ℕ) (n : ℕ) where
  -- one sprite more is counted if it is in range
  count_one : (k : ℕ) (x : Bool) → covers c o n k ≡ x → count_of (covers c o n) (k + 1) ≡ cond x (count_of (covers c o n) k + 1) (count_of (covers c o n) k)
  unfolding count_of
  count_one k x e = rw (add-one k, e)

  count_mono : (k : ℕ) → count_of (covers c o n) k ≤ count_of (covers c o n) (k + 1)
  count_mono k = go (covers c o n k) refl
    where
      go : (x : Bool) → covers c o n k ≡ x → count_of (covers c o n) k ≤ count_of (covers c o n) (k + 1)
      go true e = omega (arith, count_one k true e)
      go false e = omega (arith, count_one k false e)

  count_most : (k : ℕ) → count_of (covers c o n) k ≤ k
  unfolding count_of
  count_most zero = omega arith
  count_most (suc k) = go (covers c o n k) (count_most k)
    where
      go : (x : Bool) {m : ℕ} → m ≤ k → cond x (m + 1) m ≤ suc k
      go true h = omega arith
      go false h = omega arith

  pub tried_first : (i : ℕ) → tried c o n i 0 ≡ covers c o n i
  unfolding tried covers
  tried_first i = refl

  -- AFTER k STEPS: each was made unless the bit is set, and then eight in range stand before the last sprite looked at
  record After (k : ℕ) (s : Look) : Type 0 where
    most : s.looked ≤ k
    byte : s.found < 8 → s.byte ≡ 0
    found : s.over ≡ false → s.found ≤ count_of (covers c o n) s.looked
    on : s.over ≡ false → s.looked ≡ k
    set : s.over ≡ true → (9 ≤ s.looked) × (8 ≤ count_of (covers c o n) (s.looked - 1))

  step_after : (k : ℕ) (s : Look) → After k s → s.over ≡ false → After (suc k) (look_on c o n s)
  unfolding look_on
  step_after k s a e = go (tried c o n s.looked s.byte) (leb 8 s.found) refl refl
    where
      go : (y x : Bool) → tried c o n s.looked s.byte ≡ y → leb 8 s.found ≡ x → After (suc k) (looked_on y x s)
      go true true t f =
          let z : s.looked + 1 - 1 ≡ s.looked = omega arith in
          let eight : 8 ≤ count_of (covers c o n) s.looked = omega (arith, a.found e, leb-true 8 s.found f) in
          record {
            most = omega (arith, a.most);
            byte = λ l. absurd (omega (arith, l, leb-true 8 s.found f));
            found = λ b. absurd (true≢false b);
            on = λ b. absurd (true≢false b);
            set = λ b. (omega (arith, eight, count_most s.looked), rw z eight);
          }
      go true false t f =
          let l : s.found < 8 = leb-false 8 s.found f in
          let here : covers c o n s.looked ≡ true = sym (tried_first s.looked) ∙ (rw (a.byte l) at t) in
          record {
            most = omega (arith, a.most);
            byte = λ b. refl;
            found = λ b. omega (arith, a.found e, count_one s.looked true here);
            on = λ b. omega (arith, a.on e);
            set = λ b. absurd (true≢false (sym b));
          }
      go false x t f =
          record {
            most = omega (arith, a.most);
            byte = λ b. below x _ b f;
            found = λ b. omega (arith, a.found e, count_mono s.looked);
            on = λ b. omega (arith, a.on e);
            set = λ b. absurd (true≢false (sym b));
          }
        where
          below : (x : Bool) (m : ℕ) → s.found < 8 → leb 8 s.found ≡ x → cond x m 0 ≡ 0
          below true m l f = absurd (omega (arith, l, leb-true 8 s.found f))
          below false m l f = refl

  looks_after : (k : ℕ) → After k (looks_of c o n k)
  unfolding looks_of count_of
  looks_after zero = record { most = omega arith; byte = λ b. refl; found = λ b. omega arith; on = λ b. refl; set = λ b. absurd (true≢false (sym b)) }
  looks_after (suc k) = go (looks_of c o n k) (looks_after k) (looks_of c o n k).over refl
    where
      go : (s : Look) → After k s → (x : Bool) → s.over ≡ x → After (suc k) (cond x s (look_on c o n s))
      go s a true e = record { most = omega (arith, a.most); byte = a.byte; found = a.found; on = λ b. absurd (true≢false (sym e ∙ b)); set = a.set }
      go s a false e = step_after k s a e

  -- WHERE THE SEARCH STANDS: f sprites found, at byte b of sprite k, the bit not set
  abbrev pub stands : ℕ → ℕ → ℕ → Look
  stands k b f = record { looked = k; byte = b; found = f; over = false }

  -- below eight a step counts; from eight on it goes down the diagonal
  step_few : (k f : ℕ) → f < 8 → look_on c o n (stands k 0 f) ≡ stands (suc k) 0 (cond (covers c o n k) (f + 1) f)
  unfolding look_on
  step_few k f h = rw (lt-leb 8 f h, tried_first k, ← add-one k) (go (covers c o n k))
    where
      go : (y : Bool) → looked_on y false (stands k 0 f) ≡ stands (k + 1) 0 (cond y (f + 1) f)
      go true = refl
      go false = refl

  step_eight : (k b : ℕ) → tried c o n k b ≡ false → look_on c o n (stands k b 8) ≡ stands (suc k) ((b + 1) % 4) 8
  unfolding look_on
  step_eight k b h = rw (h, add-one k)

  pub looks_few : (k : ℕ) → count_of (covers c o n) k < 8 → looks_of c o n k ≡ stands k 0 (count_of (covers c o n) k)
  unfolding looks_of count_of
  looks_few zero h = refl
  looks_few (suc k) h =
      let l : count_of (covers c o n) k < 8 = omega (arith, rw (add-one k) at (count_mono k), h) in
      rw (looks_few k l) (step_few k (count_of (covers c o n) k) l)

  -- the eighth found: the search goes on at the next sprite's byte 0
  pub looks_eight : (e : ℕ) → IsEighth c o n e → looks_of c o n (e + 1) ≡ stands (e + 1) 0 8
  unfolding looks_of
  looks_eight e h = rw (add-one e, looks_few e (omega (arith, h.0)), h.0) (step_few e 7 (omega arith) ∙ ap (λ (y : Bool). stands (suc e) 0 (cond y 8 7)) h.1)

  -- not in range: the next sprite and the next byte
  pub looks_on : (k b : ℕ) → looks_of c o n k ≡ stands k b 8 → tried c o n k b ≡ false → looks_of c o n (k + 1) ≡ stands (k + 1) ((b + 1) % 4) 8
  unfolding looks_of
  looks_on k b e t = rw (add-one k, e) (step_eight k b t)

  -- in range: the bit is set, and no step is made after that
  hit_at : (k b : ℕ) → looks_of c o n k ≡ stands k b 8 → tried c o n k b ≡ true → looks_of c o n (suc k) ≡ record { looked = k + 1; byte = (b + 1) % 4; found = 8; over = true }
  unfolding looks_of look_on
  hit_at k b e t = rw (e, t)

  rest : (s : Look) → s.over ≡ true → cond s.over s (look_on c o n s) ≡ s
  rest s e = ap (λ (b : Bool). cond b s (look_on c o n s)) e

  looks_stop : (k j : ℕ) → (looks_of c o n k).over ≡ true → looks_of c o n (k + j) ≡ looks_of c o n k
  unfolding looks_of
  looks_stop k zero e = rw (add-zero k)
  looks_stop k (suc j) e = rw (add-suc k j, looks_stop k j e) (rest (looks_of c o n k) e)

  module _ (k b : ℕ) (lt : k < 64) (e : looks_of c o n k ≡ stands k b 8) (t : tried c o n k b ≡ true) where
    stopped : looks_of c o n 64 ≡ record { looked = k + 1; byte = (b + 1) % 4; found = 8; over = true }
    stopped =
        let one : looks_of c o n (suc k) ≡ record { looked = k + 1; byte = (b + 1) % 4; found = 8; over = true } = hit_at k b e t in
        let z : suc k + (63 - k) ≡ 64 = omega arith in
        (rw z at (looks_stop (suc k) (63 - k) (ap (λ (s : Look). s.over) one))) ∙ one

    pub hit_over : overflows c o n ≡ true
    unfolding overflows
    hit_over = ap (λ (s : Look). s.over) stopped

    pub hit_looked : looked_at c o n ≡ k + 1
    unfolding looked_at
    hit_looked = ap (λ (s : Look). s.looked) stopped

  module _ (b f : ℕ) (e : looks_of c o n 64 ≡ stands 64 b f) where
    pub past_over : overflows c o n ≡ false
    unfolding overflows
    past_over = ap (λ (s : Look). s.over) e

    pub past_looked : looked_at c o n ≡ 64
    unfolding looked_at
    past_looked = ap (λ (s : Look). s.looked) e

  -- THE DIAGONAL, from byte 0 of sprite k on: none of j bytes is in range
  pub looks_along : (k : ℕ) → looks_of c o n k ≡ stands k 0 8 → (j : ℕ) → ((i : ℕ) → i < j → tried c o n (k + i) (i % 4) ≡ false) → looks_of c o n (k + j) ≡ stands (k + j) (j % 4) 8
  looks_along k e zero f = rw (add-zero k) e
  looks_along k e (suc j) f =
      let z : k + suc j ≡ k + j + 1 = omega arith in
      let b : suc j % 4 ≡ (j % 4 + 1) % 4 = omega arith in
      rw (z, b) (looks_on (k + j) (j % 4) (looks_along k e j (λ i l. f i (omega arith))) (f j (omega arith)))

  -- after the eighth, at e
  module _ (e : ℕ) (h : IsEighth c o n e) where
    along : (j : ℕ) → ((i : ℕ) → i < j → tried c o n (e + 1 + i) (i % 4) ≡ false) → looks_of c o n (e + 1 + j) ≡ stands (e + 1 + j) (j % 4) 8
    along = looks_along (e + 1) (looks_eight e h)

    sets : (j : ℕ) → e + 1 + j < 64 → ((i : ℕ) → i < j → tried c o n (e + 1 + i) (i % 4) ≡ false) → tried c o n (e + 1 + j) (j % 4) ≡ true
        → (overflows c o n ≡ true) × (looked_at c o n ≡ e + 2 + j)
    sets j l f t =
        let z : e + 1 + j + 1 ≡ e + 2 + j = omega arith in
        (hit_over (e + 1 + j) (j % 4) l (along j f) t, rw z at (hit_looked (e + 1 + j) (j % 4) l (along j f) t))

    ends : e < 64 → ((i : ℕ) → e + 1 + i < 64 → tried c o n (e + 1 + i) (i % 4) ≡ false) → overflows c o n ≡ false
    ends l f =
        let z : e + 1 + (63 - e) ≡ 64 = omega arith in
        past_over ((63 - e) % 4) 8 (rw z at (along (63 - e) (λ i k. f i (omega arith))))

  -- nine in a row: eight are found, and the ninth's byte 0 is the first tried after them
  count_row : (i : ℕ) → count_of (covers c o n) i ≡ 0 → (k : ℕ) → ((j : ℕ) → j < k → covers c o n (i + j) ≡ true) → count_of (covers c o n) (i + k) ≡ k
  count_row i z zero f = let y : i + 0 ≡ i = omega arith in rw y z
  count_row i z (suc k) f =
      let y : i + suc k ≡ i + k + 1 = omega arith in
      rw y (omega (arith, count_one (i + k) true (f k (omega arith)), count_row i z k (λ j l. f j (omega arith))))

  nine : (i : ℕ) → i + 9 ≤ 64 → count_of (covers c o n) i ≡ 0 → ((j : ℕ) → j < 9 → covers c o n (i + j) ≡ true) → (overflows c o n ≡ true) × (looked_at c o n ≡ i + 9)
  nine i l z f =
      let y : i + 7 + 1 + 0 ≡ i + 8 = omega arith in
      let w : i + 7 + 2 + 0 ≡ i + 9 = omega arith in
      let eighth : IsEighth c o n (i + 7) = (count_row i z 7 (λ j k. f j (omega arith)), f 7 (omega arith)) in
      rw w at (sets (i + 7) eighth 0 (omega arith) (λ j k. absurd (omega (arith, k))) (rw y (tried_first (i + 8) ∙ f 8 (omega arith))))

  few : count_of (covers c o n) 64 < 8 → overflows c o n ≡ false
  few h = past_over 0 (count_of (covers c o n) 64) (looks_few 64 h)

pub searches : (c : ℕ) (o : List ℕ) (n : ℕ) → Searches c o n
unfolding overflows looked_at
searches c o n =
    record {
      few_not_set = few c o n;
      first_in_range = λ e j h. sets c o n e h j;
      none_in_range = ends c o n;
      set_looked = (looks_after c o n 64).set;
      not_set_looked = (looks_after c o n 64).on;
      looked_most = (looks_after c o n 64).most;
      nine_in_a_row = nine c o n;
    }

-- THE CALL
module _ (s : State) where
  search_0 : (l : Lent) (n : ℕ) → n < 240 → length s.memory.cells.oam ≡ oam_length → is_well_formed s.unit ≡ true
      → on_lent (search_call l n) s
      ≡ outcome (record { number = 0; byte = 0; lines = 0; nmi = nmi_level s.unit; met = false; looked = looked_at s.unit.control s.memory.cells.oam n }) s
  unfolding on_lent refusal_of order done search_done
  search_0 l n h e f = rw (lt-ltb n 240 h, eq-eqb (length s.memory.cells.oam) oam_length e, f, and_none (is_drawing s.unit))

  looked_0 : (c : Call) → (done c s).answer.looked ≡ 0 → (on_lent c s).answer.looked ≡ 0
  looked_0 c h = gated s c (λ (o : Outcome). o.answer.looked ≡ 0) h (λ k. refl)

  search_keeps : (l : Lent) (n : ℕ) → (on_lent (search_call l n) s).after ≡ s
  unfolding done search_done
  search_keeps l n = gated s (search_call l n) (λ (o : Outcome). o.after ≡ s) refl (λ k. refl)

-- status bit 5 of a drawn line
mark_5 : (b : Bool) (x : ℕ) → bit 32 (marked 32 b x) ≡ (bit 32 x || b)
unfolding marked
mark_5 true x = let z : (x / 64 * 64 + 32 + x % 32) / 32 % 2 ≡ 1 = omega arith in rw z (sym (or-true (bit 32 x)))
mark_5 false x = sym (or-false (bit 32 x))

mark_6 : (b : Bool) (x : ℕ) → bit 32 (marked 64 b x) ≡ bit 32 x
unfolding marked
mark_6 true x = let z : (x / 128 * 128 + 64 + x % 64) / 32 % 2 ≡ x / 32 % 2 = omega arith in rw z
mark_6 false x = refl

line_overflow : (s : State) → s.unit.scanline < 240 → is_rendering s.unit ≡ true
    → bit 32 (one_line s).unit.status ≡ (bit 32 s.unit.status || overflows s.unit.control s.memory.cells.oam s.unit.scanline)
unfolding one_line drawn_line drawn_unit status_of
line_overflow s h e = rw (lt-ltb s.unit.scanline 240 h, e, mark_5 _ _, mark_6 _ _)

line_off_keeps : (s : State) → s.unit.scanline < 240 → is_rendering s.unit ≡ false → (one_line s).unit.status ≡ s.unit.status
unfolding one_line drawn_line drawn_unit status_of marked
line_off_keeps s h e = rw (lt-ltb s.unit.scanline 240 h, e)

pub search_calls : (s : State) → SearchCalls s
unfolding done read_done write_done dma_done run_done
search_calls s =
    record {
      search_5 = λ l n h. is_unasked (search_call l n) s (le-ltb n 240 h);
      exported_search_5 = λ l n h b. exported_unasked (search_call l n) b s.memory (le-ltb n 240 h);
      search_0 = search_0 s;
      search_keeps = search_keeps s;
      line_overflow = line_overflow s;
      line_off_keeps = line_off_keeps s;
      looked_none = λ l a b why n p. (looked_0 s (read_call l a) refl, looked_0 s (write_call l a b) refl, looked_0 s (dma_call l p) refl, looked_0 s (run_call l why n) refl);
    }
