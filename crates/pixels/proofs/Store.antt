-- Pixels stored in a row: together, one after another, and as the next part of a row that is filled from the front.
use Prim.Native.Nat.{ℕ, zero, suc, ◌+◌, ◌<◌, ◌≤◌}
use mathlib.Core.Path.{◌≡◌, refl}
use mathlib.Core.List.{List, ◌++◌}
use native.Mathlib.Omega.{arith}
use native.Mathlib.Numerals.{add-one}
use native.Mathlib.Nat.{add-zero, add-suc, add_assoc}
use lib.ListN.{length, set, drop}
use Rattle.model.specs.Line.{tab}
use Rattle.model.proofs.Tab.{tab_more}
use Rattle.pixels.specs.Row.{store_tab}

-- two functions that agree below n
pub store_cong : (f g : ℕ → ℕ) (at n : ℕ) (l : List ℕ) → ((j : ℕ) → j < n → f j ≡ g j) → store_tab f at n l ≡ store_tab g at n l
unfolding store_tab
store_cong f g at zero l h = refl
store_cong f g at (suc n) l h = rw (store_cong f g at n l (λ j lt. h j (omega arith)), h n (omega arith))

-- storing m and then n more
pub store_split : (g : ℕ → ℕ) (at m n : ℕ) (l : List ℕ) → store_tab g at (m + n) l ≡ store_tab (λ (j : ℕ). g (m + j)) (at + m) n (store_tab g at m l)
unfolding store_tab
store_split g at m zero l = rw (add-zero m)
store_split g at m (suc n) l = rw (add-suc m n, store_split g at m n l, add_assoc at m n)

-- n more of a list that is filled from the front
pub tile_more : (f g : ℕ → ℕ) (at n : ℕ) (l l' : List ℕ) → at + n ≤ length l → l' ≡ tab f at ++ drop at l → ((j : ℕ) → j < n → g j ≡ f (at + j))
    → store_tab g at n l' ≡ tab f (at + n) ++ drop (at + n) l
unfolding store_tab
tile_more f g at zero l l' h e k = rw (add-zero at) e
tile_more f g at (suc n) l l' h e k =
    rw (add-suc at n, ← add-one (at + n))
    (tab_more f (at + n) l (store_tab g at n l') (g n) (omega arith) (tile_more f g at n l l' (omega arith) e (λ j lt. k j (omega arith))) (k n (omega arith)))

-- a loop that stores: none stored, one more
pub store_start : (g : ℕ → ℕ) (at : ℕ) (l : List ℕ) → l ≡ store_tab g at 0 l
unfolding store_tab
store_start g at l = refl

pub store_more : (g : ℕ → ℕ) (at n : ℕ) (l l' : List ℕ) (v : ℕ) → l' ≡ store_tab g at n l → v ≡ g n → set l' (at + n) v ≡ store_tab g at (n + 1) l
unfolding store_tab
store_more g at n l l' v e h = rw (add-one n, e, h)

pub ruleset store_loop = (store_start, store_more)
