-- Pixels stored in a row: over all that stands there, or only where 0 stands. Sprites over a line, and pixels that meet it.
use Rattle.std.specs.Prelude.{ℕ, zero, suc, ◌+◌, ◌-◌, Bool, cond, ◌&&◌, List, eqb, leb, ltb, get_or, set}
use Rattle.model.specs.Line.{any_of, merged}

-- g 0 to g (n - 1) are stored from the place at on
unfoldable pub store_tab : (ℕ → ℕ) → ℕ → ℕ → List ℕ → List ℕ
store_tab g at zero l = l
store_tab g at (suc n) l = set (store_tab g at n l) (at + n) (g n)

-- the old one stays unless it is 0
abbrev pub over_one : ℕ → ℕ → ℕ
over_one old v = cond (eqb old 0) v old

unfoldable pub over_at : List ℕ → ℕ → ℕ → List ℕ
over_at l at v = cond (eqb (get_or l at 0) 0) (set l at v) l

-- g 0 to g (n - 1) are stored from the place at on, each where 0 stands
unfoldable pub over_tab : (ℕ → ℕ) → ℕ → ℕ → List ℕ → List ℕ
over_tab g at zero l = l
over_tab g at (suc n) l = over_at (over_tab g at n l) (at + n) (g n)

-- what g has in the line's column p if its own column 0 is at x, of eight
unfoldable pub placed : (ℕ → ℕ) → ℕ → ℕ → ℕ
placed g x p = cond (leb x p && ltb p (x + 8)) (g (p - x)) 0

-- column p of the line b with the sprites s over it in n columns from the place at on
unfoldable pub merged_in : List ℕ → List ℕ → ℕ → ℕ → ℕ → ℕ
merged_in b s at n p = cond (leb at p && ltb p (at + n)) (merged (get_or b p 0) (get_or s p 0)) (get_or b p 0)

-- the pixels g, hidden in the first k columns, meet the line b: some column below 255 where both are opaque
unfoldable pub meets_of : List ℕ → (ℕ → ℕ) → ℕ → Bool
meets_of b g k = any_of (λ (p : ℕ). ltb 0 (get_or b p 0) && ltb 0 (cond (ltb p k) 0 (g p))) 255
