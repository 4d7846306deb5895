-- The ways of each function, for `search`.
use Prim.Native.Nat.{ℕ, ◌+◌, ◌*◌, ◌/◌, ◌%◌, ◌<◌, ◌≤◌}
use mathlib.Core.Path.{◌≡◌, refl, sym, ap, ◌∙◌}
use mathlib.Core.Bool.{Bool, true, false, true≢false}
use mathlib.Core.List.{List}
use mathlib.Core.Logic.{⊎_elim}
use native.Mathlib.Omega.{arith}
use lib.ListN.{length, get_or, length-map, get_or-eq_default}
use Rattle.model.specs.declared.Ppu.{Ppu}
use Rattle.model.specs.Unit.{is_rendering}
use Rattle.model.specs.Ports.{greyed}
use Rattle.model.specs.Line.{tab}
use Rattle.model.specs.Colours.{shown_cell, emphasis, colour_at, coloured, numbers_of}
use Rattle.memory_pairs.specs.Pairs.{stored_pair, always}
use Rattle.draw_colours.specs.Table.{shade, shown, raised_shade, Table, Shades, RunShades, Pixels, from_table, stored_two}
use Rattle.model.proofs.Tab.{tab_ext, tab_cong, get_or_tab, length_tab}
use Rattle.model.proofs.Colours.{cell_drawn, map_at}
use Rattle.model.proofs.Scroll.{lt_or_ge}
use Rattle.memory_pairs.proofs.Cases.{Given, given_start, given_more, given_done}

-- the entries of a table
module _ (m : ℕ) (p t : List ℕ) (e : t ≡ tab (raised_shade m p) 32) where
  entry_at : (k : ℕ) → k < 32 → get_or t k 0 ≡ shade m p k * 65536
  unfolding raised_shade
  entry_at k lt = rw e (get_or_tab (raised_shade m p) 32 k lt)

  table_long : length t ≡ 32
  table_long = ap length e ∙ length_tab (raised_shade m p) 32

  entry_half : (k : ℕ) → get_or t k 0 % 65536 ≡ 0
  entry_half k =
      ⊎_elim
      (λ (lt : k < 32). let z = entry_at k lt in omega (arith, z))
      (λ (ge : 32 ≤ k). let z : get_or t k 0 ≡ 0 = get_or-eq_default t 0 (omega (arith, table_long)) in omega (arith, z))
      (lt_or_ge k 32)

  pub table_made : Shades m p t
  table_made = record { shades = e; table = record { half = entry_half } }

  pub colour_from : (l : List ℕ) (q : ℕ) → get_or l q 0 < 32 → from_table t l q ≡ shown m p l q
  unfolding from_table shown
  colour_from l q h = omega (arith, entry_at (get_or l q 0) h)

pub table_done : (m : ℕ) (p d : List ℕ) (i : ℕ) → length d ≡ 32 → ((k : ℕ) → k < i → get_or d k 0 ≡ raised_shade m p k) → 32 ≤ i → Shades m p d
table_done m p d i h e ge = table_made m p d (tab_ext (raised_shade m p) 32 d h (λ k lt. e k (omega (arith, lt))))

-- the table of a run
module _ (u : Ppu) (p t : List ℕ) where
  pub table_on : Shades u.mask p t → RunShades u p t
  table_on h = record { on = λ e. h }

  pub table_off : (b : Bool) → b ≡ is_rendering u → b ≡ false → RunShades u p t
  table_off b e f = record { on = λ g. absurd (true≢false (sym g ∙ sym e ∙ f)) }

  -- and of each drawn line of it
  pub table_kept : (u' : Ppu) → RunShades u p t → u'.mask ≡ u.mask → is_rendering u' ≡ true → Shades u'.mask p t
  unfolding is_rendering
  table_kept u' h e f = rw e (h.on (rw (← e) f))

pub ruleset run_cases = (table_on, table_off)

-- two colours in a word
module _ (t : List ℕ) (h : Table t) where
  pub pair_fits : (a b : ℕ) → get_or t a 0 < 4294967296 → get_or t b 0 < 4294967296 → get_or t a 0 / 65536 + get_or t b 0 < 4294967296
  pair_fits a b x y = omega (arith, x, y, h.half b)

  pub raised_again : (b : ℕ) → get_or t b 0 / 65536 * 65536 ≡ get_or t b 0
  raised_again b = omega (arith, h.half b)

pub ruleset pair_cases = (pair_fits, raised_again)

module _ (t l : List ℕ) where
  -- the line: two columns more
  pub look_more : (c c' : List ℕ) (i n : ℕ) → Given (from_table t l) c (2 * i) → i < 128 → from_table t l (2 * i) < 65536 → n ≡ from_table t l (2 * i) + from_table t l (2 * i + 1) * 65536
      → c' ≡ stored_two c i n → Given (from_table t l) c' (2 * (i + 1))
  unfolding from_table stored_two
  look_more c c' i n g lt small e f =
      let a : n % 65536 ≡ from_table t l (2 * i) = omega (arith, small, e) in
      let b : n / 65536 ≡ from_table t l (2 * i + 1) = omega (arith, small, e) in
      let c₁ : List ℕ = stored_pair c (2 * i) (n % 65536) in
      let one : Given (from_table t l) c₁ (2 * i + 1) = given_more (from_table t l) c (2 * i) g (n % 65536) c₁ (omega arith) a refl in
      let z : 2 * (i + 1) ≡ 2 * i + 1 + 1 = omega arith in
      rw z (given_more (from_table t l) c₁ (2 * i + 1) one (n / 65536) c' (omega arith) b f)

pub look_done : (f : ℕ → ℕ) (l : List ℕ) (i : ℕ) → Given f l (2 * i) → 128 ≤ i → numbers_of l ≡ tab f 256
look_done f l i g h = given_done f l (2 * i) g (omega arith)

pub ruleset look_cases = (given_start, look_more, look_done)

-- the colours that the table gives
pub show_is : (m : ℕ) (p t l d : List ℕ) → Shades m p t → Pixels l → d ≡ tab (from_table t l) 256 → d ≡ tab (shown m p l) 256
show_is m p t l d h g f = f ∙ tab_cong (from_table t l) (shown m p l) 256 (λ q lt. colour_from m p t h.shades l q (g.small q))

shade_drawn : (u : Ppu) (p : List ℕ) (n : ℕ) → is_rendering u ≡ true → shade u.mask p n ≡ colour_at u p n
unfolding shade colour_at emphasis
shade_drawn u p n h = rw (cell_drawn u n h)

-- all columns
pub drawn_colours : (u : Ppu) (p l d : List ℕ) → is_rendering u ≡ true → length l ≡ 256 → d ≡ tab (shown u.mask p l) 256 → d ≡ coloured u p l
unfolding coloured shown
drawn_colours u p l d on h f =
    f ∙ sym (tab_ext (shown u.mask p l) 256 _ (length-map l (colour_at u p) ∙ h) (λ q lt. map_at (colour_at u p) l q (omega arith) ∙ sym (shade_drawn u p (get_or l q 0) on)))

-- a line of zeros
pub blank_colours : (u : Ppu) (p l d : List ℕ) → length l ≡ 256 → ((q : ℕ) → q < 256 → get_or l q 0 ≡ 0) → d ≡ tab (always (colour_at u p 0)) 256 → d ≡ coloured u p l
unfolding coloured always
blank_colours u p l d h z f =
    f ∙ sym (tab_ext (always (colour_at u p 0)) 256 _ (length-map l (colour_at u p) ∙ h) (λ q lt. map_at (colour_at u p) l q (omega arith) ∙ ap (colour_at u p) (z q lt)))

pub backdrop_is : (u : Ppu) (p d : List ℕ) (at c : ℕ) → at ≡ shown_cell u 0 → c ≡ greyed u.mask (get_or p at 0 % 64) + 64 * (u.mask / 32 % 8) → d ≡ tab (always c) 256
    → d ≡ tab (always (colour_at u p 0)) 256
unfolding colour_at emphasis
backdrop_is u p d at c e f g = g ∙ ap (λ (k : ℕ). tab (always k) 256) (f ∙ rw e)
