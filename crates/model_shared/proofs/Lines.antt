-- What lines see of the line buffers: nothing. They write both, if one of lines 0 to 239 is among them, or leave both.
use mathlib.Core.Path.{◌≡◌, refl, sym, ap, ◌∙◌}
use mathlib.Core.Bool.{Bool, true, false, cond, ◌||◌}
use mathlib.Core.List.{List}
use Prim.Native.Nat.{ℕ, zero, suc}
use lib.Dec.{ltb}
use Rattle.model.specs.Unit.{with_lines, State, state}
use Rattle.model.specs.Line.{any_of, drawn_line, blank_unit, one_line, lines_run, meets_reason, line_count, reason_met}
use Rattle.model_shared.specs.Shared.{pictures_line, pictures_any}

-- a state with other line buffers
abbrev pub relined : List ℕ → List ℕ → State → State
relined b f s = state s.unit (with_lines s.memory b f)

-- those of t where x, else b and f
abbrev pub lines_or : Bool → State → List ℕ → List ℕ → State
lines_or x t b f = relined (cond x t.memory.line b) (cond x t.memory.colours f) t

one_relined : (s : State) (b f : List ℕ) → one_line (relined b f s) ≡ lines_or (ltb s.unit.scanline 240) (one_line s) b f
unfolding one_line drawn_line
one_relined s b f = go (ltb s.unit.scanline 240)
  where
    go : (x : Bool) → cond x (drawn_line (relined b f s)) (state (blank_unit s.unit) (with_lines s.memory b f))
        ≡ lines_or x (cond x (drawn_line s) (state (blank_unit s.unit) s.memory)) b f
    go true = refl
    go false = refl

blank_lines : (s : State) → ltb s.unit.scanline 240 ≡ false → (one_line s).memory ≡ s.memory
unfolding one_line
blank_lines s e = rw e

pub lines_relined : (k : ℕ) (s : State) (b f : List ℕ) → lines_run k (relined b f s) ≡ lines_or (pictures_any k s) (lines_run k s) b f
unfolding lines_run pictures_any any_of pictures_line
lines_relined zero s b f = refl
lines_relined (suc k) s b f =
    let z : State = lines_run k s in
    ap one_line (lines_relined k s b f)
    ∙ one_relined z (cond (pictures_any k s) z.memory.line b) (cond (pictures_any k s) z.memory.colours f)
    ∙ pick (any_of (pictures_line s) k) (ltb z.unit.scanline 240) refl
  where
    pick : (a x : Bool) → ltb (lines_run k s).unit.scanline 240 ≡ x
        → lines_or x (one_line (lines_run k s)) (cond a (lines_run k s).memory.line b) (cond a (lines_run k s).memory.colours f) ≡ lines_or (a || x) (one_line (lines_run k s)) b f
    pick true true e = refl
    pick false true e = refl
    pick true false e = λ i. state (one_line (lines_run k s)).unit (with_lines (one_line (lines_run k s)).memory (sym (blank_lines (lines_run k s) e) i).line (sym (blank_lines (lines_run k s) e) i).colours)
    pick false false e = refl

-- nor do the count of a run's lines and whether its reason is met
pub count_relined : (why n : ℕ) (s : State) (b f : List ℕ) → line_count why n (relined b f s) ≡ line_count why n s
unfolding line_count
count_relined why zero s b f = refl
count_relined why (suc n) s b f =
    let x : Bool = ltb s.unit.scanline 240 in
    let t : State = one_line s in
    (λ i. let z : State = one_relined s b f i in cond (meets_reason why s.unit z.unit) 1 (suc (line_count why n z)))
    ∙ ap (λ (k : ℕ). cond (meets_reason why s.unit t.unit) 1 (suc k)) (count_relined why n t (cond x t.memory.line b) (cond x t.memory.colours f))

pub met_relined : (why n : ℕ) (s : State) (b f : List ℕ) → reason_met why n (relined b f s) ≡ reason_met why n s
unfolding reason_met
met_relined why zero s b f = refl
met_relined why (suc n) s b f =
    let x : Bool = ltb s.unit.scanline 240 in
    let t : State = one_line s in
    (λ i. let z : State = one_relined s b f i in meets_reason why s.unit z.unit || reason_met why n z)
    ∙ ap (λ (k : Bool). meets_reason why s.unit t.unit || k) (met_relined why n t (cond x t.memory.line b) (cond x t.memory.colours f))

-- nor does which of them are 0 to 239
pub any_relined : (k : ℕ) (s : State) (b f : List ℕ) → pictures_any k (relined b f s) ≡ pictures_any k s
unfolding pictures_any any_of pictures_line
any_relined zero s b f = refl
any_relined (suc k) s b f = λ i. any_relined k s b f i || ltb (lines_relined k s b f i).unit.scanline 240

-- a run that begins with one of them has one
pub begins : (k : ℕ) (s : State) → ltb s.unit.scanline 240 ≡ true → pictures_any (suc k) s ≡ true
unfolding pictures_any any_of pictures_line lines_run
begins zero s e = e
begins (suc k) s e = (λ i. begins k s e i || ltb (lines_run (suc k) s).unit.scanline 240)

pub counts : (why n : ℕ) (s : State) → (j : ℕ) × (line_count why (suc n) s ≡ suc j)
unfolding line_count
counts why n s = go (meets_reason why s.unit (one_line s).unit)
  where
    go : (x : Bool) → (j : ℕ) × (cond x 1 (suc (line_count why n (one_line s))) ≡ suc j)
    go true = (0, refl)
    go false = (line_count why n (one_line s), refl)
