-- The steps of v: each stays below 32768; what they do to its parts; n columns right in closed form.
use Prim.Native.Nat.{ℕ, zero, suc, ◌+◌, ◌-◌, ◌*◌, ◌/◌, ◌%◌, ◌<◌, ◌≤◌}
use mathlib.Core.Bool.{Bool, true, false, cond}
use mathlib.Core.Path.{◌≡◌, ap, ◌∙◌}
use mathlib.Core.Logic.{⊎_elim, ◌⊎◌, inl, inr}
use native.Mathlib.Omega.{arith}
use native.Mathlib.Decide.{dec_lt}
use borrow.Author.Tests.{eq-eqb, ne_eqb, lt-ltb, le-ltb}
use lib.Dec.{eqb}
use Rattle.model.specs.declared.Ppu.{Ppu}
use Rattle.model.specs.Scroll.{fine_y, nametable, row, column, turn10, turn11, row_down, right, right_by, copy_side}
use Rattle.model.specs.Ports.{stepped}

pub right_in : (v : ℕ) → v % 32 < 31 → right v ≡ v + 1
unfolding right
right_in v h = rw (ne_eqb (v % 32) 31 (λ e. omega arith))

pub right_end : (v : ℕ) → v % 32 ≡ 31 → right v ≡ turn10 (v - 31)
unfolding right
right_end v h = rw (eq-eqb (v % 32) 31 h)

-- a below b, or not
dec_sum : (a b : ℕ) → Dec (a < b) → (a < b) ⊎ (b ≤ a)
dec_sum a b (yes h) = inl h
dec_sum a b (no h) = inr (omega arith)

pub lt_or_ge : (a b : ℕ) → (a < b) ⊎ (b ≤ a)
lt_or_ge a b = dec_sum a b (dec_lt a b)

-- n columns right, within the page
pub by_in : (v n : ℕ) → v % 32 + n < 32 → right_by v n ≡ v + n
unfolding right_by
by_in v zero h = omega arith
by_in v (suc n) h = ap right (by_in v n (omega arith)) ∙ right_in (v + n) (omega arith) ∙ omega arith

plus_none : (a k : ℕ) → k ≡ 0 → a ≡ a + k
plus_none a k e = omega arith

at_edge : (v n : ℕ) → v % 32 + n < 32 → 32 ≤ v % 32 + suc n → v + n - 31 ≡ v - v % 32
at_edge v n a b = omega arith

-- n columns right, into the page beside
pub by_out : (v n : ℕ) → 32 ≤ v % 32 + n → n ≤ 32 → right_by v n ≡ turn10 (v - v % 32) + (v % 32 + n - 32)
unfolding right_by
by_out v zero h k = omega arith
by_out v (suc n) h k =
    ⊎_elim
    (λ (lt : v % 32 + n < 32). ap right (by_in v n lt) ∙ right_end (v + n) (omega arith) ∙ ap turn10 (at_edge v n lt h) ∙ plus_none (turn10 (v - v % 32)) (v % 32 + suc n - 32) (omega arith))
    (λ (ge : 32 ≤ v % 32 + n). ap right (by_out v n ge (omega arith)) ∙ right_in (turn10 (v - v % 32) + (v % 32 + n - 32)) (omega arith) ∙ omega arith)
    (lt_or_ge (v % 32 + n) 32)

row_room : (v k : ℕ) → k < 32 → (v - v % 32) % 1024 + k < 1024
row_room v k h = omega arith

turn_room : (w k : ℕ) → w < 32768 → w % 1024 + k < 1024 → turn10 w + k < 32768
turn_room w k h r = omega arith

pub turned_lt : (v k : ℕ) → v < 32768 → k < 32 → turn10 (v - v % 32) + k < 32768
turned_lt v k h l = turn_room (v - v % 32) k (omega arith) (row_room v k l)

at_end : (v : ℕ) → v % 32 ≡ 31 → v - 31 ≡ v - v % 32
at_end v e = omega arith

pub right_lt : (v : ℕ) → v < 32768 → right v < 32768
right_lt v h =
    ⊎_elim
    (λ (lt : v % 32 < 31). rw (right_in v lt) (omega arith))
    (λ (ge : 31 ≤ v % 32). rw (right_end v (omega arith), at_end v (omega arith)) (omega (arith, turned_lt v 0 h (omega arith))))
    (lt_or_ge (v % 32) 31)

pub by_lt : (v n : ℕ) → v < 32768 → right_by v n < 32768
unfolding right_by
by_lt v zero h = h
by_lt v (suc n) h = right_lt (right_by v n) (by_lt v n h)

turn11_lt : (v : ℕ) → v < 4096 → turn11 v < 32768
turn11_lt v h = omega arith

pub down_lt : (v : ℕ) → v < 32768 → row_down v < 32768
unfolding row_down
down_lt v h =
    ⊎_elim
    (λ (lt : fine_y v < 7). rw (lt-ltb (fine_y v) 7 lt) (omega arith))
    (λ (ge : 7 ≤ fine_y v).
    rw (le-ltb (fine_y v) 7 ge)
    (either (eqb (row v) 29) _ _ (turn11_lt (v % 4096 - 29 * 32) (omega arith)) (either (eqb (row v) 31) _ _ (omega arith) (omega arith))))
    (lt_or_ge (fine_y v) 7)
  where
    either : (b : Bool) (x y : ℕ) → x < 32768 → y < 32768 → cond b x y < 32768
    either true x y p q = p
    either false x y p q = q

-- t's bits 10 and 4-0 copied into v: bits 14-11 stay v's
pub side_top : (t v : ℕ) → copy_side t v / 2048 ≡ v / 2048
unfolding copy_side
side_top t v = omega arith

pub side_lt : (t v : ℕ) → v < 32768 → copy_side t v < 32768
unfolding copy_side
side_lt t v h = omega arith

-- what an access adds to v
pub step_lt : (u : Ppu) → (stepped u).v < 32768
unfolding stepped
step_lt u = omega arith

-- v of its parts: fine y, nametable, row, column
abbrev pub address : ℕ → ℕ → ℕ → ℕ → ℕ
address f n r c = f * 4096 + n * 1024 + r * 32 + c

pub address_of : (v : ℕ) → v < 32768 → address (fine_y v) (nametable v) (row v) (column v) ≡ v
address_of v h =
    let a : v / 1024 ≡ v / 32 / 32 = omega arith in
    let b : v / 4096 ≡ v / 1024 / 4 = omega arith in
    let c : v / 4096 % 8 ≡ v / 4096 = omega arith in
    rw c (omega arith)

-- bit 11 of the address turned, and bit 10, in the nametable's number
high_turned : (n : ℕ) → n < 4 → (n + 2) % 4 + 4 * (n / 2 % 2) ≡ n + 2
high_turned n h = omega arith

low_turned : (n : ℕ) → n / 2 * 2 + (n + 1) % 2 + 2 * (n % 2) ≡ n + 1
low_turned n = omega arith

module _ (f n r c : ℕ) (hn : n < 4) (hr : r < 32) (hc : c < 32) where
  pub fine_is : f < 8 → fine_y (address f n r c) ≡ f
  fine_is h = let e : address f n r c / 4096 ≡ f = omega arith in rw e (omega arith)

  pub nametable_is : nametable (address f n r c) ≡ n
  nametable_is = let e : address f n r c / 1024 ≡ f * 4 + n = omega arith in rw e (omega arith)

  pub row_is : row (address f n r c) ≡ r
  row_is = let e : address f n r c / 32 ≡ (f * 4 + n) * 32 + r = omega arith in rw e (omega arith)

  pub column_is : column (address f n r c) ≡ c
  column_is = omega arith

  low_is : address f n r c % 4096 ≡ n * 1024 + r * 32 + c
  low_is = omega arith

  -- row down: fine y below 7 rises
  pub down_fine : f < 7 → row_down (address f n r c) ≡ address (f + 1) n r c
  unfolding row_down
  down_fine h = rw (fine_is (omega arith), lt-ltb f 7 h) (omega arith)

-- at 7 it becomes 0 and the row rises
module _ (n r c : ℕ) (hn : n < 4) (hr : r < 32) (hc : c < 32) where
  pub down_row : (r ≡ 29 → ⊥) → (r ≡ 31 → ⊥) → row_down (address 7 n r c) ≡ address 0 n (r + 1) c
  unfolding row_down
  down_row a b = rw (fine_is 7 n r c hn hr hc (omega arith), row_is 7 n r c hn hr hc, low_is 7 n r c hn hr hc, ne_eqb r 29 a, ne_eqb r 31 b) (omega arith)

module _ (n c : ℕ) (hn : n < 4) (hc : c < 32) where
  -- but 29 becomes 0 with bit 11 turned
  pub down_29 : row_down (address 7 n 29 c) ≡ address 0 ((n + 2) % 4) 0 c
  unfolding row_down
  down_29 =
      rw (fine_is 7 n 29 c hn (omega arith) hc (omega arith), row_is 7 n 29 c hn (omega arith) hc, low_is 7 n 29 c hn (omega arith) hc)
      (let e : (n * 1024 + 29 * 32 + c - 29 * 32) / 2048 ≡ n / 2 = omega arith in rw e (omega (arith, high_turned n hn)))

  -- and 31 becomes 0 without
  pub down_31 : row_down (address 7 n 31 c) ≡ address 0 n 0 c
  unfolding row_down
  down_31 = rw (fine_is 7 n 31 c hn (omega arith) hc (omega arith), row_is 7 n 31 c hn (omega arith) hc, low_is 7 n 31 c hn (omega arith) hc) (omega arith)

module _ (f n r : ℕ) (hn : n < 4) (hr : r < 32) where
  -- column right: bits 4-0 rise
  pub right_column : (c : ℕ) → c < 31 → right (address f n r c) ≡ address f n r (c + 1)
  right_column c h = right_in (address f n r c) (omega arith) ∙ omega arith

  -- 31 becomes 0 with bit 10 turned
  pub right_31 : right (address f n r 31) ≡ address f (n / 2 * 2 + (n + 1) % 2) r 0
  right_31 = right_end (address f n r 31) (omega arith) ∙ (let e : (address f n r 31 - 31) / 1024 % 2 ≡ n % 2 = omega arith in rw e (omega (arith, low_turned n)))

  -- t bits 10 and 4-0 copied into v: its fine y, bit 11 and row stay
  pub side_copy : (c f' n' r' c' : ℕ) → c < 32 → n' < 4 → r' < 32 → c' < 32 → copy_side (address f' n' r' c') (address f n r c) ≡ address f (n / 2 * 2 + n' % 2) r c'
  unfolding copy_side
  side_copy c f' n' r' c' h i j k =
      let a : address f n r c / 2048 ≡ f * 2 + n / 2 = omega arith in
      let b : address f' n' r' c' / 1024 % 2 ≡ n' % 2 = rw (ten f' n' r' c' j k) (omega arith) in
      omega (arith, row_is f n r c hn hr h, column_is f' n' r' c' i j k)
    where
      ten : (f n r c : ℕ) → r < 32 → c < 32 → address f n r c / 1024 ≡ f * 4 + n
      ten f n r c h k = omega arith
