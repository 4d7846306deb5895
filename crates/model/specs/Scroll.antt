-- The video address v: its parts, and its steps one row down and one column right.
use Rattle.std.specs.Prelude.{cond, ℕ, zero, suc, ◌+◌, ◌-◌, ◌*◌, ◌/◌, ◌%◌, ltb, eqb}

-- the parts of v: fine y in bits 14-12, nametable in bits 11-10, row in bits 9-5, column in bits 4-0
abbrev pub fine_y : ℕ → ℕ
fine_y v = v / 4096 % 8

abbrev pub nametable : ℕ → ℕ
nametable v = v / 1024 % 4

abbrev pub row : ℕ → ℕ
row v = v / 32 % 32

abbrev pub column : ℕ → ℕ
column v = v % 32

-- bit 10 turned; bit 11 turned
abbrev pub turn10 : ℕ → ℕ
turn10 v = v + 1024 - 2048 * (v / 1024 % 2)

abbrev pub turn11 : ℕ → ℕ
turn11 v = v + 2048 - 4096 * (v / 2048 % 2)

-- row down: fine y below 7 rises. At 7 it becomes 0 and the row rises, but 29 becomes 0 with bit 11 turned, and 31 becomes 0 without
unfoldable pub row_down : ℕ → ℕ
row_down v =
    cond (ltb (fine_y v) 7) (v + 4096)
    (cond (eqb (row v) 29) (turn11 (v % 4096 - 29 * 32)) (cond (eqb (row v) 31) (v % 4096 - 31 * 32) (v % 4096 + 32)))

-- column right: bits 4-0 rise; 31 becomes 0 with bit 10 turned
unfoldable pub right : ℕ → ℕ
right v = cond (eqb (column v) 31) (turn10 (v - 31)) (v + 1)

-- n columns right
unfoldable pub right_by : ℕ → ℕ → ℕ
right_by v zero = v
right_by v (suc n) = right (right_by v n)

-- t bits 10 and 4-0 copied into v
unfoldable pub copy_side : ℕ → ℕ → ℕ
copy_side t v = v / 2048 * 2048 + t / 1024 % 2 * 1024 + row v * 32 + column t
