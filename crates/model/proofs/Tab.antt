-- The first n values of f: a list filled from the front, and what stands where.
use Prim.Native.Nat.{ℕ, zero, suc, ◌+◌, ◌<◌}
use mathlib.Core.Path.{◌≡◌, refl, sym, ◌∙◌}
use mathlib.Core.List.{List, [], ◌∷◌, ◌++◌, append_assoc, append-nil}
use native.Mathlib.Numerals.{add-one}
use native.Mathlib.Omega.{arith}
use lib.ListN.{length, get_or, set, drop, length-append, drop_of_length-le, get_or-append}
use lib.Seq.{drop-cons, set_at, get_or_at, ext_get_or}
use mathlib.Core.Logic.{⊎_elim}
use Rattle.model.specs.Line.{tab}
use native.Mathlib.Nat.{le_of_suc-le-suc, not-suc-le-zero, eq-or-lt_of_le}

pub length_tab : (f : ℕ → ℕ) (n : ℕ) → length (tab f n) ≡ n
unfolding tab
length_tab f zero = refl
length_tab f (suc n) = simp (length-append, length_tab f n) (omega arith)

-- a loop that fills a list from the front: none stored, one more store, all stored
pub tab_none : (f : ℕ → ℕ) (l : List ℕ) → l ≡ tab f 0 ++ drop 0 l
unfolding tab
tab_none f l = refl

pub tab_more : (f : ℕ → ℕ) (n : ℕ) (l l' : List ℕ) (v : ℕ) → n < length l → l' ≡ tab f n ++ drop n l → v ≡ f n → set l' n v ≡ tab f (n + 1) ++ drop (n + 1) l
unfolding tab
tab_more f n l l' v h i e =
    rw (i, e, add-one, drop-cons l n 0, set_at (tab f n) (get_or l n 0) (drop (suc n) l) (f n) n (length_tab f n)) (sym (append_assoc (tab f n) (f n ∷ []) (drop (suc n) l)))

pub tab_done : (f : ℕ → ℕ) (n m : ℕ) (l l' : List ℕ) → n ≡ m → length l ≡ m → l' ≡ tab f n ++ drop n l → l' ≡ tab f m
tab_done f n m l l' e h i = rw (i, e, drop_of_length-le l {i = m} (omega arith)) (append-nil (tab f m))

-- what stands at k
pub get_or_tab : (f : ℕ → ℕ) (n k : ℕ) → k < n → get_or (tab f n) k 0 ≡ f k
unfolding tab
get_or_tab f zero k h = absurd (not-suc-le-zero h)
get_or_tab f (suc n) k h =
    ⊎_elim
    (λ (e : k ≡ n). rw e (get_or_at (tab f n) (f n) [] 0 n (length_tab f n)))
    (λ (lt : k < n). rw (get_or-append (tab f n) (f n ∷ []) 0 k (rw (length_tab f n) lt)) (get_or_tab f n k lt))
    (eq-or-lt_of_le (le_of_suc-le-suc h))

-- a list that has the values of f is tab
pub tab_ext : (f : ℕ → ℕ) (n : ℕ) (l : List ℕ) → length l ≡ n → ((k : ℕ) → k < n → get_or l k 0 ≡ f k) → l ≡ tab f n
tab_ext f n l e h =
    ext_get_or 0 l (tab f n) (e ∙ sym (length_tab f n))
    (λ k lt. h k (omega arith) ∙ sym (get_or_tab f n k (omega arith)))

-- two functions that agree below n
pub tab_cong : (f g : ℕ → ℕ) (n : ℕ) → ((k : ℕ) → k < n → f k ≡ g k) → tab f n ≡ tab g n
unfolding tab
tab_cong f g zero h = refl
tab_cong f g (suc n) h = rw (tab_cong f g n (λ k lt. h k (omega arith)), h n (omega arith))
