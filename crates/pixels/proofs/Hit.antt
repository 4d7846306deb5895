-- Some column has a property: one column more, two properties that agree, columns that have it not; eight pixels over a line.
use Prim.Native.Nat.{ℕ, zero, suc, ◌+◌, ◌-◌, ◌<◌, ◌≤◌, min, max}
use mathlib.Core.Path.{◌≡◌, refl, sym, ◌∙◌}
use mathlib.Core.Bool.{Bool, true, false, cond, ◌&&◌, ◌||◌, or-true, or-false, and-false}
use mathlib.Core.Logic.{⊎_elim}
use mathlib.Core.List.{List}
use native.Mathlib.Omega.{arith}
use native.Mathlib.Numerals.{add-one}
use native.Mathlib.Nat.{add-zero}
use borrow.Author.Tests.{le-leb, lt-leb, lt-ltb, le-ltb}
use lib.Dec.{ltb}
use lib.ListN.{get_or}
use Rattle.model.specs.Record.{bit_byte}
use Rattle.model.specs.Line.{any_of}
use Rattle.model.proofs.Scroll.{lt_or_ge}
use Rattle.pixels.specs.Row.{placed, meets_of}

pub any_more : (f : ℕ → Bool) (n : ℕ) (o r : Bool) → o ≡ any_of f n → r ≡ o || f n → r ≡ any_of f (n + 1)
unfolding any_of
any_more f n o r e d = rw (add-one n, d, e)

-- the count of the columns that have it
pub any_count : (f : ℕ → Bool) (p n r : ℕ) → ltb 0 n ≡ any_of f p → r ≡ bit_byte (f p) → ltb 0 (n + r) ≡ any_of f (p + 1)
any_count f p n r e d = any_more f p (ltb 0 n) (ltb 0 (n + r)) e (rw d (by_test (f p)))
  where
    by_test : (b : Bool) → ltb 0 (n + bit_byte b) ≡ ltb 0 n || b
    by_test true = rw (lt-ltb 0 (n + 1) (omega arith), or-true (ltb 0 n))
    by_test false = rw (add-zero n, or-false (ltb 0 n))

pub any_cong : (f g : ℕ → Bool) (n : ℕ) → ((i : ℕ) → i < n → f i ≡ g i) → any_of f n ≡ any_of g n
unfolding any_of
any_cong f g zero h = refl
any_cong f g (suc n) h = rw (any_cong f g n (λ i lt. h i (omega arith)), h n (omega arith))

-- no column has it: the second of two pixels is never opaque
pub any_none : (f g : ℕ → ℕ) (n : ℕ) → ((p : ℕ) → g p ≡ 0) → false ≡ any_of (λ (p : ℕ). ltb 0 (f p) && ltb 0 (g p)) n
unfolding any_of
any_none f g zero h = refl
any_none f g (suc n) h = rw (← any_none f g n h, h n, and-false (ltb 0 (f n)))

-- no column from m on has it
any_rest : (f : ℕ → Bool) (m d : ℕ) → ((k : ℕ) → m ≤ k → k < d + m → f k ≡ false) → any_of f (d + m) ≡ any_of f m
unfolding any_of
any_rest f m zero h = let e : 0 + m ≡ m = omega arith in rw e
any_rest f m (suc d) h =
    let e : suc d + m ≡ suc (d + m) = omega arith in
    rw (e, any_rest f m d (λ k ge lt. h k ge (omega arith)), h (d + m) (omega arith) (omega arith), or-false (any_of f m))

pub any_past : (f : ℕ → Bool) (m n : ℕ) → m ≤ n → ((k : ℕ) → m ≤ k → k < n → f k ≡ false) → any_of f n ≡ any_of f m
any_past f m n le h =
    let e : n ≡ (n - m) + m = omega arith in
    rw e (any_rest f m (n - m) (λ k ge lt. h k ge (omega arith)))

-- a pixel that is not opaque, hidden or not
pub off : (hidden : Bool) (v : ℕ) → v ≡ 0 → cond hidden 0 v ≡ 0
off true v e = refl
off false v e = e

-- pixels that meet no line, and pixels that agree
pub meets_none : (b : List ℕ) (g : ℕ → ℕ) (k : ℕ) → ((p : ℕ) → g p ≡ 0) → false ≡ meets_of b g k
unfolding meets_of
meets_none b g k h = any_none (λ (p : ℕ). get_or b p 0) (λ (p : ℕ). cond (ltb p k) 0 (g p)) 255 (λ p. off (ltb p k) (g p) (h p))

pub meets_cong : (b : List ℕ) (f g : ℕ → ℕ) (k : ℕ) → ((p : ℕ) → f p ≡ g p) → meets_of b f k ≡ meets_of b g k
unfolding meets_of
meets_cong b f g k h = any_cong _ _ 255 (λ p lt. rw (h p))

-- ---- the eight pixels g over the line b from column x on, hidden in the first `skip` columns
module _ (b : List ℕ) (g : ℕ → ℕ) (x skip : ℕ) where
  abbrev meet : ℕ → Bool
  meet p = ltb 0 (get_or b p 0) && ltb 0 (cond (ltb p skip) 0 (placed g x p))

  no_meet : (p : ℕ) → cond (ltb p skip) 0 (placed g x p) ≡ 0 → meet p ≡ false
  no_meet p e = rw (e, and-false (ltb 0 (get_or b p 0)))

  meet_hidden : (p : ℕ) → p < skip → meet p ≡ false
  meet_hidden p lt = no_meet p (rw (lt-ltb p skip lt))

  meet_in : (p : ℕ) → skip ≤ p → x ≤ p → p < x + 8 → meet p ≡ (ltb 0 (get_or b p 0) && ltb 0 (g (p - x)))
  unfolding placed
  meet_in p h k lt = rw (le-ltb p skip h, le-leb x p k, lt-ltb p (x + 8) lt)

  meet_before : (p : ℕ) → p < x → meet p ≡ false
  unfolding placed
  meet_before p lt = no_meet p (off (ltb p skip) (placed g x p) (rw (lt-leb x p lt)))

  meet_after : (p : ℕ) → x + 8 ≤ p → meet p ≡ false
  unfolding placed
  meet_after p ge = no_meet p (off (ltb p skip) (placed g x p) (rw (le-leb x p (omega arith), le-ltb p (x + 8) ge)))

  -- of the columns below p so many are found
  pub record Met (found p : ℕ) : Type 0 where
    pub few : found ≤ p
    pub so_far : ltb 0 found ≡ any_of meet p

  pub met_start : (p : ℕ) → p ≡ max x skip → Met 0 p
  unfolding any_of
  met_start p e =
      record {
        few = omega arith;
        so_far = sym (any_past meet 0 p (omega arith) (λ j ge lt. ⊎_elim (λ (a : j < skip). meet_hidden j a) (λ (a : skip ≤ j). meet_before j (omega arith)) (lt_or_ge j skip)));
      }

  module _ (found p : ℕ) (m : Met found p) where
    pub met_more : (v r : ℕ) → x ≤ p → skip ≤ p → p < x + 8 → v ≡ g (p - x) → r ≡ bit_byte (ltb 0 (get_or b p 0) && ltb 0 v) → r < 2 → Met (found + r) (p + 1)
    met_more v r from shown lt e d small = record { few = omega (arith, m.few); so_far = any_count meet p found r m.so_far (d ∙ rw (e, ← meet_in p shown from lt)) }

    pub met_done : p ≡ min (x + 8) 255 → ltb 0 found ≡ meets_of b (placed g x) skip
    unfolding meets_of
    met_done e = m.so_far ∙ sym (any_past meet p 255 (omega arith) (λ k h l. meet_after k (omega arith)))

pub ruleset met_loop = (met_start, met_more, met_done)
