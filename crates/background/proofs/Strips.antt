-- The tiles that a line shows stand in two strips: from the column of v to the end of its page, and in the page beside.
use Prim.Native.Nat.{ℕ, zero, suc, ◌+◌, ◌-◌, ◌*◌, ◌/◌, ◌%◌, ◌<◌, ◌≤◌}
use mathlib.Core.Path.{◌≡◌, ap, sym, ◌∙◌}
use mathlib.Core.List.{List, ◌++◌}
use mathlib.Core.Logic.{⊎_elim}
use native.Mathlib.Omega.{arith}
use native.Mathlib.Nat.{add_assoc, add-zero, add-suc, zero-add, mul_comm}
use lib.ListN.{length, take, drop, length-take, length-drop}
use Rattle.std.proofs.lemmas.List.{get_or-take, get_or-drop}
use Rattle.model.specs.declared.Wiring.{Wiring}
use Rattle.model.specs.Unit.{line_length}
use Rattle.model.specs.Address.{page_at, wiring_number, cell_of}
use Rattle.model.specs.Scroll.{fine_y, nametable, row, column, turn10, right, right_by}
use Rattle.model.specs.Background.{tile_at, attribute_address, attribute_at, low_at, high_at, tile_pixel, background_at}
use Rattle.model.specs.Line.{tab}
use Rattle.model.proofs.Scroll.{right_in, lt_or_ge, by_in, by_out}
use Rattle.model.proofs.Tab.{tab_none, tab_done, tab_ext, length_tab, get_or_tab}
use Rattle.pixels.specs.Row.{store_tab}
use Rattle.pixels.proofs.Store.{tile_more}
use Rattle.strips.specs.Strips.{row_length, strip_of, palette_of, column_pixel, strip_pixel, beside_of, group_start}

-- the tile number's address and the attribute byte's: their quarter, and their place in the page
tile_quarter : (v : ℕ) → (8192 + v % 4096) / 1024 % 4 ≡ nametable v
tile_quarter v = omega arith

tile_place : (v : ℕ) → (8192 + v % 4096) % 1024 ≡ 32 * row v + column v
tile_place v = omega arith

attribute_quarter : (q a b : ℕ) → q < 4 → a < 8 → b < 8 → (9152 + q * 1024 + 8 * a + b) / 1024 % 4 ≡ q
attribute_quarter q a b h i j = omega arith

attribute_place : (q a b : ℕ) → a < 8 → b < 8 → (9152 + q * 1024 + 8 * a + b) % 1024 ≡ 960 + 8 * a + b
attribute_place q a b i j = omega arith

-- a tile of the strip of v is the tile that v names
tile_is : (w : Wiring) (n table : List ℕ) (v j : ℕ) → column_pixel table n (strip_of w (nametable v) v) (column v) j ≡ tile_pixel w n table v (7 - j)
unfolding column_pixel palette_of tile_pixel tile_at attribute_at attribute_address low_at high_at cell_of
tile_is w n table v j =
    let a : row v / 4 < 8 = omega arith in
    let b : column v / 4 < 8 = omega arith in
    rw (
      tile_quarter v,
      tile_place v,
      attribute_quarter (nametable v) (row v / 4) (column v / 4) (omega arith) a b,
      attribute_place (nametable v) (row v / 4) (column v / 4) a b,
      mul_comm (page_at (wiring_number w) (nametable v)) 1024,
    )
    (rw (← add_assoc (1024 * page_at (wiring_number w) (nametable v)) (32 * row v) (column v), ← add_assoc (1024 * page_at (wiring_number w) (nametable v)) (960 + 8 * (row v / 4)) (column v / 4), ← add_assoc (1024 * page_at (wiring_number w) (nametable v)) 960 (8 * (row v / 4))))

-- and the tile that u names, if u has the same row and fine y
tile_of_lem : (w : Wiring) (n table : List ℕ) (u v j q c : ℕ) → nametable u ≡ q → row u ≡ row v → fine_y u ≡ fine_y v → column u ≡ c
    → column_pixel table n (strip_of w q v) c j ≡ tile_pixel w n table u (7 - j)
tile_of_lem w n table u v j q c a b d e = rw (← a, ← b, ← d, ← e) (tile_is w n table u j)

-- t columns right in the page: the same nametable, row and fine y
in_quarter : (v t : ℕ) → column v + t < 32 → nametable (v + t) ≡ nametable v
in_quarter v t h = omega arith

in_row : (v t : ℕ) → column v + t < 32 → row (v + t) ≡ row v
in_row v t h = omega arith

in_fine : (v t : ℕ) → column v + t < 32 → fine_y (v + t) ≡ fine_y v
in_fine v t h = omega arith

-- the first run
run_in : (w : Wiring) (n table : List ℕ) (v i : ℕ) → column v + i / 8 < 32
    → strip_pixel table n (strip_of w (nametable v) v) (column v) i ≡ background_at w n table v 0 i
unfolding strip_pixel background_at
run_in w n table v i h =
    rw (zero-add i, by_in v (i / 8) h)
    (tile_of_lem w n table (v + i / 8) v (i % 8) (nametable v) (column v + i / 8) (in_quarter v (i / 8) h) (in_row v (i / 8) h) (in_fine v (i / 8) h) (omega arith))

-- in the page beside: v is 2048 a + 1024 b + y, and b is turned
whole : (v : ℕ) → v ≡ 2048 * (v / 2048) + 1024 * (v / 1024 % 2) + v % 1024
whole v = omega arith

row_start : (v : ℕ) → v - column v ≡ 2048 * (v / 2048) + 1024 * (v / 1024 % 2) + 32 * row v
row_start v = omega arith

turned : (a b y : ℕ) → b < 2 → y < 1024 → turn10 (2048 * a + 1024 * b + y) ≡ 2048 * a + 1024 * (1 - b) + y
turned a b y h i =
    let e : (2048 * a + 1024 * b + y) / 1024 % 2 ≡ b = omega arith in
    rw e (omega arith)

quarter_is : (a d y : ℕ) → y < 1024 → (2048 * a + 1024 * d + y) / 1024 % 4 ≡ (2 * a + d) % 4
quarter_is a d y h =
    let e : (2048 * a + 1024 * d + y) / 1024 ≡ 2 * a + d = omega arith in
    rw e

fine_is : (a d y : ℕ) → d < 2 → y < 1024 → (2048 * a + 1024 * d + y) / 4096 ≡ a / 2
fine_is a d y h i = omega arith

row_is : (a d r t : ℕ) → r < 32 → t < 32 → (2048 * a + 1024 * d + (32 * r + t)) / 32 % 32 ≡ r
row_is a d r t h i =
    let e : (2048 * a + 1024 * d + (32 * r + t)) / 32 ≡ 64 * a + 32 * d + r = omega arith in
    rw e (omega arith)

column_is : (a d r t : ℕ) → t < 32 → (2048 * a + 1024 * d + (32 * r + t)) % 32 ≡ t
column_is a d r t i = omega arith

-- the address of column t in the page beside
out_is : (v t : ℕ) → turn10 (v - column v) + t ≡ 2048 * (v / 2048) + 1024 * (1 - v / 1024 % 2) + (32 * row v + t)
out_is v t =
    rw (row_start v, turned (v / 2048) (v / 1024 % 2) (32 * row v) (omega arith) (omega arith))
    (add_assoc (2048 * (v / 2048) + 1024 * (1 - v / 1024 % 2)) (32 * row v) t)

room : (r t : ℕ) → r < 32 → t < 32 → 32 * r + t < 1024
room r t h i = omega arith

digits : (a d : ℕ) → d < 2 → (2 * a + d) % 4 ≡ 2 * (a % 2) + d
digits a d h = omega arith

beside_is : (a b : ℕ) → b < 2 → (2 * a + (1 - b)) % 4 ≡ beside_of ((2 * a + b) % 4)
beside_is a b h =
    let e : (2 * (a % 2) + b) % 2 ≡ b = omega arith in
    rw (digits a (1 - b) (omega arith), digits a b h, e) (omega arith)

out_quarter : (v t : ℕ) → t < 32 → nametable (turn10 (v - column v) + t) ≡ beside_of (nametable v)
out_quarter v t i =
    let e : v / 1024 ≡ 2 * (v / 2048) + v / 1024 % 2 = omega arith in
    rw (
      out_is v t,
      quarter_is (v / 2048) (1 - v / 1024 % 2) (32 * row v + t) (room (row v) t (omega arith) i),
      beside_is (v / 2048) (v / 1024 % 2) (omega arith),
    ) (ap (λ (q : ℕ). beside_of (q % 4)) (sym e))

out_row : (v t : ℕ) → t < 32 → row (turn10 (v - column v) + t) ≡ row v
out_row v t i = rw (out_is v t) (row_is (v / 2048) (1 - v / 1024 % 2) (row v) t (omega arith) i)

out_fine : (v t : ℕ) → t < 32 → fine_y (turn10 (v - column v) + t) ≡ fine_y v
out_fine v t i =
    let e : (2048 * (v / 2048) + 1024 * (v / 1024 % 2) + v % 1024) / 4096 ≡ v / 2048 / 2 = fine_is (v / 2048) (v / 1024 % 2) (v % 1024) (omega arith) (omega arith) in
    rw (out_is v t, fine_is (v / 2048) (1 - v / 1024 % 2) (32 * row v + t) (omega arith) (room (row v) t (omega arith) i))
    (ap (λ (x : ℕ). x % 8) (sym e ∙ ap (λ (x : ℕ). x / 4096) (sym (whole v))))

out_column : (v t : ℕ) → t < 32 → column (turn10 (v - column v) + t) ≡ t
out_column v t i = rw (out_is v t) (column_is (v / 2048) (1 - v / 1024 % 2) (row v) t i)

-- k columns right, into the page beside and no further
by_beside : (v k : ℕ) → 32 ≤ column v + k → column v + k < 64 → right_by v k ≡ turn10 (v - column v) + (column v + k - 32)
unfolding right_by
by_beside v zero h i = omega arith
by_beside v (suc k) h i =
    ⊎_elim
    (λ (lt : column v + k < 32). by_out v (suc k) h (omega arith))
    (λ (ge : 32 ≤ column v + k).
    ap right (by_beside v k ge (omega arith)) ∙ right_in (turn10 (v - column v) + (column v + k - 32)) (omega arith) ∙ omega arith)
    (lt_or_ge (column v + k) 32)

-- the second run, after m tiles
run_out : (w : Wiring) (n table : List ℕ) (v m i : ℕ) → m ≡ 32 - column v → i / 8 < 32
    → strip_pixel table n (strip_of w (beside_of (nametable v)) v) 0 i ≡ background_at w n table v 0 (8 * m + i)
unfolding strip_pixel background_at
run_out w n table v m i e t =
    let a : (8 * m + i) / 8 ≡ m + i / 8 = omega arith in
    let b : (8 * m + i) % 8 ≡ i % 8 = omega arith in
    let d : column v + (m + i / 8) - 32 ≡ i / 8 = omega arith in
    rw (zero-add (8 * m + i), a, b, by_beside v (m + i / 8) (omega arith) (omega arith), d, zero-add (i / 8))
    (tile_of_lem w n table (turn10 (v - column v) + i / 8) v (i % 8) (beside_of (nametable v)) (i / 8) (out_quarter v (i / 8) t) (out_row v (i / 8) t) (out_fine v (i / 8) t) (out_column v (i / 8) t))

-- both runs
pub two_runs : (w : Wiring) (n table l l₁ l₂ : List ℕ) (v m : ℕ) → v % 4 ≡ 0 → m ≡ 32 - column v → length l ≡ row_length
    → l₁ ≡ store_tab (strip_pixel table n (strip_of w (nametable v) v) (column v)) 0 (8 * m) l
    → l₂ ≡ store_tab (strip_pixel table n (strip_of w (beside_of (nametable v)) v) 0) (8 * m) (8 * (column v + 4)) l₁
    → l₂ ≡ tab (background_at w n table v 0) row_length
two_runs w n table l l₁ l₂ v m z e h e₁ e₂ =
    let f = background_at w n table v 0 in
    let c : column v ≤ 28 = omega arith in
    let f₁ : l₁ ≡ tab f (0 + 8 * m) ++ drop (0 + 8 * m) l = e₁ ∙ tile_more f _ 0 (8 * m) l l (omega arith) (tab_none f l) (λ i lt. rw (zero-add i) (run_in w n table v i (omega arith))) in
    let f₂ : l₁ ≡ tab f (8 * m) ++ drop (8 * m) l = rw (zero-add (8 * m)) at f₁ in
    tab_done f (8 * m + 8 * (column v + 4)) row_length l l₂ (omega arith) h
    (e₂ ∙ tile_more f _ (8 * m) (8 * (column v + 4)) l l₁ (omega arith) f₂ (λ i lt. run_out w n table v m i e (omega arith)))

-- the first column of v's group has v's nametable, row and fine y
start_in : (v : ℕ) → column (group_start v) + v % 4 < 32
start_in v = omega arith

start_and : (v : ℕ) → group_start v + v % 4 ≡ v
start_and v = omega arith

pub start_quarter : (v : ℕ) → nametable v ≡ nametable (group_start v)
start_quarter v = ap nametable (sym (start_and v)) ∙ in_quarter (group_start v) (v % 4) (start_in v)

pub start_strip : (w : Wiring) (q v : ℕ) → strip_of w q v ≡ strip_of w q (group_start v)
start_strip w q v =
    let a : row v ≡ row (group_start v) = ap row (sym (start_and v)) ∙ in_row (group_start v) (v % 4) (start_in v) in
    let b : fine_y v ≡ fine_y (group_start v) = ap fine_y (sym (start_and v)) ∙ in_fine (group_start v) (v % 4) (start_in v) in
    rw (a, b)

-- k columns right, and then more
by_more : (v k m : ℕ) → right_by v (k + m) ≡ right_by (right_by v k) m
unfolding right_by
by_more v k zero = rw (add-zero k)
by_more v k (suc m) = rw (add-suc k m, by_more v k m)

-- the line is the row from v's column and its own column x on
from_x : (w : Wiring) (n table : List ℕ) (v x p : ℕ) → background_at w n table (group_start v) 0 (8 * (v % 4) + x + p) ≡ background_at w n table v x p
unfolding background_at
from_x w n table v x p =
    let a : (0 + (8 * (v % 4) + x + p)) / 8 ≡ v % 4 + (x + p) / 8 = omega arith in
    let b : (0 + (8 * (v % 4) + x + p)) % 8 ≡ (x + p) % 8 = omega arith in
    rw (a, b, by_more (group_start v) (v % 4) ((x + p) / 8), by_in (group_start v) (v % 4) (start_in v), start_and v)

pub line_is : (w : Wiring) (n table b : List ℕ) (v x k e : ℕ) → x < 8 → b ≡ tab (background_at w n table (group_start v) 0) row_length
    → k ≡ 8 * (v % 4) + x → e ≡ line_length → take e (drop k b) ≡ tab (background_at w n table v x) line_length
line_is w n table b v x k e h d i j =
    let f = background_at w n table (group_start v) 0 in
    rw (d, i, j)
    (tab_ext (background_at w n table v x) line_length _ (simp (length-take, length-drop, length_tab f row_length) (omega arith))
    (λ p lt. get_or-take line_length (drop (8 * (v % 4) + x) (tab f row_length)) p 0 lt
    ∙ get_or-drop (8 * (v % 4) + x) (tab f row_length) p 0
    ∙ get_or_tab f row_length (8 * (v % 4) + x + p) (omega arith)
    ∙ from_x w n table v x p))
