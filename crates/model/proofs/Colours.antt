-- What a reader expects of finished colours: of each, of a line's, and of C's bytes.
use mathlib.Core.Path.{◌≡◌, refl, sym, ap, ◌∙◌}
use mathlib.Core.Bool.{Bool, true, false, cond, not, ◌&&◌}
use mathlib.Core.List.{List, [], ◌∷◌, map}
use Prim.Native.Nat.{ℕ, zero, suc, ◌+◌, ◌*◌, ◌/◌, ◌%◌, ◌≤◌, ◌<◌}
use native.Mathlib.Omega.{arith}
use lib.Dec.{eqb}
use lib.ListN.{length, get_or, drop, length-map}
use borrow.Author.Tests.{lt-ltb, le-ltb, le-leb, lt-leb, eq-eqb, ne_eqb, eqb-true, eqb-false}
use Rattle.model.specs.declared.Ppu.{Ppu}
use Rattle.model.specs.Unit.{Cells, State, bit, is_rendering, line_length, colours_length}
use Rattle.model.specs.Address.{palette_cell}
use Rattle.model.specs.Record.{at}
use Rattle.model.specs.Ports.{greyed, data_byte}
use Rattle.model.specs.Colours.{is_overridden, shown_cell, emphasis, colour_at, coloured, paired, numbers_of}
use Rattle.model.specs.Line.{pixel_of, picture, drawn_line, one_line}
use Rattle.model.specs.Theorems.{AreBytes, Colours, ColouredLines, ColourBytes}
use Rattle.model.proofs.Tests.{cond_both}
use Rattle.model.proofs.Tab.{length_tab, get_or_tab}
use Rattle.model.proofs.Line.{pixel_cell, line_cells, blank_memory}

-- A COLOUR: six bits of the palette byte, and three of the emphasis
pub greyed_small : (k b : ℕ) → b < 64 → greyed k b < 64
greyed_small k b h = cond_both (λ x. x < 64) (bit 1 k) (b / 16 % 4 * 16) b (omega arith) h

low_six : (u : Ppu) (p : List ℕ) (n : ℕ) → colour_at u p n % 64 ≡ greyed u.mask (get_or p (shown_cell u n) 0 % 64)
unfolding colour_at
low_six u p n = omega (arith, greyed_small u.mask (get_or p (shown_cell u n) 0 % 64) (omega arith))

emphasis_bits : (u : Ppu) → emphasis u ≡ u.mask / 32 % 8
unfolding emphasis
emphasis_bits u = omega arith

pub colour_small : (u : Ppu) (p : List ℕ) (n : ℕ) → colour_at u p n < 512
unfolding colour_at
colour_small u p n = omega (arith, greyed_small u.mask (get_or p (shown_cell u n) 0 % 64) (omega arith), emphasis_bits u)

colour_emphasis : (u : Ppu) (p : List ℕ) (n : ℕ) → colour_at u p n / 64 ≡ u.mask / 32 % 8
unfolding colour_at
colour_emphasis u p n = omega (arith, greyed_small u.mask (get_or p (shown_cell u n) 0 % 64) (omega arith), emphasis_bits u)

-- pixel number n shows cell n while mask bit 3 or 4 is set, or v is below $3F00
pub cell_drawn : (u : Ppu) (n : ℕ) → is_rendering u ≡ true → shown_cell u n ≡ n
unfolding shown_cell is_overridden
cell_drawn u n e = rw e

pub cell_off : (u : Ppu) (n : ℕ) → u.v % 16384 < 16128 → shown_cell u n ≡ n
unfolding shown_cell is_overridden
cell_off u n h = go (is_rendering u) _ _ (lt-leb 16128 (u.v % 16384) h)
  where
    go : (x y : Bool) (c : ℕ) → y ≡ false → cond (not x && y) c n ≡ n
    go true y c e = refl
    go false y c e = rw e

-- and else every pixel number the cell at v
pub cell_override : (u : Ppu) (n : ℕ) → is_rendering u ≡ false → 16128 ≤ u.v % 16384 → shown_cell u n ≡ palette_cell (u.v % 16384)
unfolding shown_cell is_overridden
cell_override u n e h = rw (e, le-leb 16128 (u.v % 16384) h)

-- what a read of port 7 gives at v, but for the latch's two bits
override_read : (u : Ppu) (p : List ℕ) (n : ℕ) → is_rendering u ≡ false → 16128 ≤ u.v % 16384 → (m : Cells) → m.palette ≡ p → colour_at u p n % 64 ≡ data_byte u m % 64
unfolding data_byte
override_read u p n e h m k =
    low_six u p n ∙ rw (cell_override u n e h, sym k, le-ltb (u.v % 16384) 16128 h)
    (joined u.latch (greyed u.mask (get_or m.palette (palette_cell (u.v % 16384)) 0 % 64)) (greyed_small u.mask (get_or m.palette (palette_cell (u.v % 16384)) 0 % 64) (omega arith)))
  where
    joined : (l g : ℕ) → g < 64 → g ≡ (l / 64 * 64 + g) % 64
    joined l g h = omega arith

pub colours : (u : Ppu) (p : List ℕ) (n : ℕ) → Colours u p n
colours u p n =
    record {
      colour_small = colour_small u p n;
      colour_emphasis = colour_emphasis u p n;
      colour_plain = λ e. low_six u p n ∙ rw e;
      colour_grey = λ e. low_six u p n ∙ rw e (sixteens (get_or p (shown_cell u n) 0));
      cell_drawn = cell_drawn u n;
      cell_off = cell_off u n;
      cell_override = cell_override u n;
      override_read = override_read u p n;
    }
  where
    sixteens : (b : ℕ) → b % 64 / 16 % 4 * 16 ≡ b % 64 / 16 * 16
    sixteens b = omega arith

-- A LINE'S, as many as it has pixel numbers
pub coloured_long : (u : Ppu) (p l : List ℕ) → length (coloured u p l) ≡ length l
unfolding coloured
coloured_long u p l = length-map l (colour_at u p)

pub map_at : (f : ℕ → ℕ) (l : List ℕ) (k : ℕ) → k < length l → at (map f l) k ≡ f (at l k)
map_at f [] k h = absurd (omega (arith, h))
map_at f (a ∷ l) zero h = refl
map_at f (a ∷ l) (suc k) h = map_at f l k (omega (arith, h))

-- one that is drawn, or off
module _ (s : State) (h : s.unit.scanline < 240) where
  drawn : one_line s ≡ drawn_line s
  unfolding one_line
  drawn = rw (lt-ltb s.unit.scanline 240 h)

  line_colours : (one_line s).memory.colours ≡ coloured s.unit s.memory.cells.palette (one_line s).memory.line
  unfolding drawn_line
  line_colours = rw drawn

  line_long_lem : length (one_line s).memory.line ≡ line_length
  unfolding drawn_line picture
  line_long_lem = rw drawn (length_tab _ line_length)

  line_cell : (k : ℕ) → k < line_length → palette_cell (at (one_line s).memory.line k) ≡ at (one_line s).memory.line k
  unfolding drawn_line picture
  line_cell k l = rw (drawn, get_or_tab (pixel_of s.unit s.memory.cells.left s.memory.cells.right s.memory.cells.nametables s.memory.cells.oam) line_length k l) (pixel_cell s.unit _ _ _ _ k)

  line_zero : is_rendering s.unit ≡ false → (k : ℕ) → k < line_length → at (one_line s).memory.line k ≡ 0
  unfolding drawn_line picture pixel_of
  line_zero e k l = rw drawn (get_or_tab _ line_length k l ∙ rw e)

pub coloured_lines : (s : State) → ColouredLines s
unfolding coloured
coloured_lines s =
    record {
      line_colours = line_colours s;
      line_cell = line_cell s;
      line_long_lem = λ h. ap length (line_colours s h) ∙ coloured_long s.unit s.memory.cells.palette (one_line s).memory.line ∙ line_long_lem s h;
      line_off = λ h e k l. (
        line_zero s h e k l,
        ap (λ (c : List ℕ). at c k) (line_colours s h) ∙ map_at (colour_at s.unit s.memory.cells.palette) (one_line s).memory.line k (omega (arith, line_long_lem s h, l)) ∙ ap (colour_at s.unit s.memory.cells.palette) (line_zero s h e k l),
      );
      line_blank = blank_memory s;
      line_lent = line_cells s;
    }

-- FOR C. 512 bytes are 256 numbers, and no other count of bytes is
pub paired_long : (l : List ℕ) → length (paired l) ≡ length l / 2
unfolding paired
paired_long [] = refl
paired_long (a ∷ []) = refl
paired_long (a ∷ b ∷ l) = omega (arith, paired_long l)

pub numbers_even : (l : List ℕ) → length l % 2 ≡ 0 → numbers_of l ≡ paired l
unfolding numbers_of
numbers_even l e = rw (eq-eqb (length l % 2) 0 e)

numbers_odd : (l : List ℕ) → (length l % 2 ≡ 0 → ⊥) → numbers_of l ≡ l
unfolding numbers_of
numbers_odd l e = rw (ne_eqb (length l % 2) 0 e)

numbers_long : (l : List ℕ) → length l ≡ 2 * colours_length → length (numbers_of l) ≡ colours_length
numbers_long l e = ap length (numbers_even l (omega (arith, e))) ∙ omega (arith, paired_long l, e)

bytes_long : (l : List ℕ) → length (numbers_of l) ≡ colours_length → length l ≡ 2 * colours_length
bytes_long l e = go (eqb (length l % 2) 0) refl
  where
    go : (x : Bool) → eqb (length l % 2) 0 ≡ x → length l ≡ 2 * colours_length
    go true f = let k = eqb-true (length l % 2) 0 f in let n = sym (ap length (numbers_even l k)) ∙ e in omega (arith, paired_long l, k, n)
    go false f = let k = eqb-false (length l % 2) 0 f in let n = sym (ap length (numbers_odd l k)) ∙ e in absurd (k (omega (arith, n)))

pub sized_bytes : (l : List ℕ) → eqb (length (numbers_of l)) colours_length ≡ eqb (length l) (2 * colours_length)
sized_bytes l = go (eqb (length l) 512) refl
  where
    go : (x : Bool) → eqb (length l) 512 ≡ x → eqb (length (numbers_of l)) 256 ≡ x
    go true e = eq-eqb _ 256 (numbers_long l (eqb-true (length l) 512 e))
    go false e = ne_eqb _ 256 (λ z. eqb-false (length l) 512 e (bytes_long l z))

-- number k has its low byte at 2 k
pub paired_at : (l : List ℕ) (k : ℕ) → 2 * k + 1 < length l → at (paired l) k ≡ at l (2 * k) + at l (2 * k + 1) * 256
unfolding paired
paired_at [] k h = absurd (omega (arith, h))
paired_at (a ∷ []) k h = absurd (omega (arith, h))
paired_at (a ∷ b ∷ l) zero h = refl
paired_at (a ∷ b ∷ l) (suc k) h =
    let e : 2 * suc k ≡ suc (suc (2 * k)) = omega arith in
    let f : suc (suc (2 * k)) + 1 ≡ suc (suc (2 * k + 1)) = omega arith in
    rw (e, f) (paired_at l k (omega (arith, h)))

-- and bytes of one length that are the same numbers are the same bytes
low_same : (a b c d : ℕ) → a < 256 → c < 256 → a + b * 256 ≡ c + d * 256 → a ≡ c
low_same a b c d h i e = omega (arith, e)

high_same : (a b c d : ℕ) → a < 256 → c < 256 → a + b * 256 ≡ c + d * 256 → b ≡ d
high_same a b c d h i e = omega (arith, e)

paired_same : (l k : List ℕ) → length l ≡ length k → length l % 2 ≡ 0 → AreBytes l → AreBytes k → paired l ≡ paired k → l ≡ k
unfolding paired
paired_same [] [] h p s t e = refl
paired_same [] (c ∷ k) h p s t e = absurd (omega (arith, h))
paired_same (a ∷ []) k h p s t e = absurd (omega (arith, p))
paired_same (a ∷ b ∷ l) [] h p s t e = absurd (omega (arith, h))
paired_same (a ∷ b ∷ l) (c ∷ []) h p s t e = absurd (omega (arith, h))
paired_same (a ∷ b ∷ l) (c ∷ d ∷ k) h p s t e =
    let z : a + b * 256 ≡ c + d * 256 = ap (λ (r : List ℕ). get_or r 0 0) e in
    let rest = paired_same l k (omega (arith, h)) (omega (arith, p)) (λ i. s (suc (suc i))) (λ i. t (suc (suc i))) (ap (drop 1) e) in
    rw (low_same a b c d (s 0) (t 0) z, high_same a b c d (s 0) (t 0) z, rest)

bytes_same : (l k : List ℕ) → length l ≡ length k → AreBytes l → AreBytes k → numbers_of l ≡ numbers_of k → l ≡ k
bytes_same l k h s t e = go (eqb (length l % 2) 0) refl
  where
    go : (x : Bool) → eqb (length l % 2) 0 ≡ x → l ≡ k
    go true f = let i = eqb-true (length l % 2) 0 f in paired_same l k h i s t (sym (numbers_even l i) ∙ e ∙ numbers_even k (omega (arith, h, i)))
    go false f = let i = eqb-false (length l % 2) 0 f in sym (numbers_odd l i) ∙ e ∙ numbers_odd k (λ j. i (omega (arith, h, j)))

pub colour_bytes : (l : List ℕ) → ColourBytes l
colour_bytes l =
    record {
      low_first = λ e k h. ap (λ (r : List ℕ). at r k) (numbers_even l (omega (arith, e))) ∙ paired_at l k (omega (arith, e, h));
      numbers_long = numbers_long l;
      bytes_long = bytes_long l;
      bytes_same = bytes_same l;
    }
