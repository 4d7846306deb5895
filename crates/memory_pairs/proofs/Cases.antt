-- The ways of each function, for `search`.
use Prim.Native.Nat.{ℕ, suc, ◌+◌, ◌*◌, ◌/◌, ◌%◌, ◌<◌, ◌≤◌}
use mathlib.Core.Path.{◌≡◌, refl, sym, ap, ◌∙◌}
use mathlib.Core.List.{List}
use mathlib.Core.Logic.{⊎_elim}
use native.Mathlib.Omega.{arith}
use native.Mathlib.Nat.{eq-or-lt_of_le, le_of_suc-le-suc}
use lib.ListN.{length, get_or, set, length-set}
use lib.Seq.{get_or-set_same, get_or-set_other}
use Rattle.model.specs.Line.{tab}
use Rattle.model.specs.Colours.{paired, numbers_of}
use Rattle.model.proofs.Tab.{tab_ext, tab_cong}
use Rattle.model.proofs.Colours.{paired_long, paired_at, numbers_even}
use Rattle.memory_pairs.specs.Pairs.{pair_at, stored_pair, always, number_at}

-- the numbers that bytes are
pub numbers_tab : (l : List ℕ) → length l ≡ 512 → numbers_of l ≡ tab (pair_at l) 256
unfolding pair_at
numbers_tab l h =
    numbers_even l (omega (arith, h))
    ∙ tab_ext (pair_at l) 256 (paired l) (omega (arith, paired_long l, h)) (λ k lt. paired_at l k (omega (arith, h)))

-- 256 numbers taken
pub taken : (l d : List ℕ) (i : ℕ) → length l ≡ 512 → length d ≡ 256 → 256 ≤ i → ((k : ℕ) → k < i → get_or d k 0 ≡ pair_at l k) → d ≡ numbers_of l
taken l d i h g ge e = tab_ext (pair_at l) 256 d g (λ k lt. e k (omega (arith, lt))) ∙ sym (numbers_tab l h)

-- 256 numbers put, those of f
pub record Given (f : ℕ → ℕ) (l : List ℕ) (i : ℕ) : Type 0 where
  pub long : length l ≡ 512
  pub same : (k : ℕ) → k < i → pair_at l k ≡ f k

pub given_start : (f : ℕ → ℕ) (l : List ℕ) → length l ≡ 512 → Given f l 0
given_start f l h = record { long = h; same = λ k lt. absurd (omega (arith, lt)) }

pub stored_long : (l : List ℕ) (k n : ℕ) → length (stored_pair l k n) ≡ length l
unfolding stored_pair
stored_long l k n = length-set (set l (2 * k) (n % 256)) (2 * k + 1) (n / 256) ∙ length-set l (2 * k) (n % 256)

module _ (f : ℕ → ℕ) (l : List ℕ) (i : ℕ) (g : Given f l i) where
  other_pair : (v k : ℕ) → (k ≡ i → ⊥) → pair_at (stored_pair l i v) k ≡ pair_at l k
  unfolding pair_at stored_pair
  other_pair v k d =
      rw (
        get_or-set_other (set l (2 * i) (v % 256)) (2 * i + 1) (2 * k) (v / 256) 0 (λ z. d (omega (arith, z))),
        get_or-set_other (set l (2 * i) (v % 256)) (2 * i + 1) (2 * k + 1) (v / 256) 0 (λ z. d (omega (arith, z))),
        get_or-set_other l (2 * i) (2 * k) (v % 256) 0 (λ z. d (omega (arith, z))),
        get_or-set_other l (2 * i) (2 * k + 1) (v % 256) 0 (λ z. d (omega (arith, z))),
      )

  this_pair : (v : ℕ) → i < 256 → pair_at (stored_pair l i v) i ≡ v % 256 + v / 256 * 256
  unfolding pair_at stored_pair
  this_pair v lt =
      let k : length (set l (2 * i) (v % 256)) ≡ 512 = length-set l (2 * i) (v % 256) ∙ g.long in
      rw (
        get_or-set_other (set l (2 * i) (v % 256)) (2 * i + 1) (2 * i) (v / 256) 0 (λ z. omega (arith, z)),
        get_or-set_same l (2 * i) (v % 256) 0 (omega (arith, g.long)),
        get_or-set_same (set l (2 * i) (v % 256)) (2 * i + 1) (v / 256) 0 (omega (arith, k)),
      )

  pub given_more : (v : ℕ) (l' : List ℕ) → i < 256 → v ≡ f i → l' ≡ stored_pair l i v → Given f l' (i + 1)
  given_more v l' lt e el =
      record {
        long = ap length el ∙ stored_long l i v ∙ g.long;
        same = λ k h.
            ⊎_elim
            (λ (z : k ≡ i). rw z (ap (λ (x : List ℕ). pair_at x i) el ∙ this_pair v lt ∙ whole ∙ e))
            (λ (z : k < i). ap (λ (x : List ℕ). pair_at x k) el ∙ other_pair v k (λ y. omega (arith, y)) ∙ g.same k z)
            (eq-or-lt_of_le (le_of_suc-le-suc (at_most k h)));
      }
    where
      whole : v % 256 + v / 256 * 256 ≡ v
      whole = omega arith

      at_most : (k : ℕ) → k < i + 1 → suc k ≤ suc i
      at_most k h = omega (arith, h)

  pub given_done : 256 ≤ i → numbers_of l ≡ tab f 256
  given_done ge = numbers_tab l g.long ∙ tab_cong (pair_at l) f 256 (λ k lt. g.same k (omega arith))

module _ (n l : List ℕ) (i : ℕ) (g : Given (number_at n) l i) where
  pub put_more : (v : ℕ) (l' : List ℕ) → i < 256 → v ≡ get_or n i 0 → l' ≡ stored_pair l i v → Given (number_at n) l' (i + 1)
  unfolding number_at
  put_more = given_more (number_at n) l i g

  pub put_done : 256 ≤ i → length n ≡ 256 → numbers_of l ≡ n
  unfolding number_at
  put_done ge h = given_done (number_at n) l i g ge ∙ sym (tab_ext (number_at n) 256 n h (λ k lt. refl))

module _ (n : ℕ) (l : List ℕ) (i : ℕ) (g : Given (always n) l i) where
  pub same_more : (l' : List ℕ) → i < 256 → l' ≡ stored_pair l i n → Given (always n) l' (i + 1)
  unfolding always
  same_more l' lt e = given_more (always n) l i g n l' lt refl e
