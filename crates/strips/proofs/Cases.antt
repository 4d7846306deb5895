-- The ways of each function, for `search`.
use Prim.Native.Nat.{ℕ, ◌+◌, ◌-◌, ◌*◌, ◌/◌, ◌%◌, ◌^◌, ◌<◌}
use mathlib.Core.Path.{◌≡◌, refl, ◌∙◌}
use mathlib.Core.List.{List}
use native.Mathlib.Omega.{arith}
use native.Mathlib.Nat.{add-zero, add_assoc}
use lib.Pow.{shr-shr}
use lib.ListN.{get_or}
use Rattle.model.specs.Background.{number_of, colour_of}
use Rattle.pixels.specs.Row.{store_tab}
use Rattle.pixels.proofs.Store.{store_cong, store_split}
use Rattle.strips.specs.declared.Strip.{Strip}
use Rattle.strips.specs.Strips.{palette_of, column_pixel, strip_pixel}

pub palette_1 : (n : List ℕ) (s : Strip) (c : ℕ) → get_or n (s.attributes + c / 4) 0 / 2 ^ s.quadrant / 2 ^ (2 * (c / 2 % 2)) % 4 ≡ palette_of n s c
unfolding palette_of
palette_1 n s c = rw shr-shr

module _ (table n : List ℕ) (s : Strip) (c : ℕ) where
  strip_first : (j : ℕ) → j < 8 → column_pixel table n s c j ≡ strip_pixel table n s c j
  unfolding strip_pixel
  strip_first j h =
      let a : j / 8 ≡ 0 = omega arith in
      let b : j % 8 ≡ j = omega arith in
      rw (a, b, add-zero c)

  strip_from : (k j : ℕ) → strip_pixel table n s (c + k) j ≡ strip_pixel table n s c (8 * k + j)
  unfolding strip_pixel
  strip_from k j =
      let a : (8 * k + j) / 8 ≡ k + j / 8 = omega arith in
      let b : (8 * k + j) % 8 ≡ j % 8 = omega arith in
      rw (a, b, add_assoc c k (j / 8))

  -- k tiles, and what follows them
  strip_more : (l l' l'' : List ℕ) (at k m : ℕ) → l' ≡ store_tab (strip_pixel table n s c) at (8 * k) l
      → l'' ≡ store_tab (strip_pixel table n s (c + k)) (at + 8 * k) m l'
      → l'' ≡ store_tab (strip_pixel table n s c) at (8 * k + m) l
  strip_more l l' l'' at k m e d =
      rw (d, e, store_split (strip_pixel table n s c) at (8 * k) m l)
      (store_cong _ (λ (j : ℕ). strip_pixel table n s c (8 * k + j)) (at + 8 * k) m _ (λ j h. strip_from k j))

module _ (table n l l' : List ℕ) (s : Strip) (c at q : ℕ) where
  pub column_1 : q ≡ palette_of n s c
      → l' ≡ store_tab (λ (j : ℕ). number_of q (colour_of (get_or table (16 * get_or n (s.tiles + c) 0 + s.fine) 0) (get_or table (16 * get_or n (s.tiles + c) 0 + s.fine + 8) 0) (7 - j))) at 8 l
      → l' ≡ store_tab (strip_pixel table n s c) at 8 l
  unfolding column_pixel
  column_1 a e = e ∙ rw a (store_cong _ _ at 8 l (strip_first table n s c))

module _ (table n l l' l'' : List ℕ) (s : Strip) (c at q : ℕ) where
  -- the tile to the right has the same palette
  pub pair_palette : c % 2 ≡ 0 → q ≡ palette_of n s c → q ≡ palette_of n s (c + 1)
  unfolding palette_of
  pair_palette h e =
      let a : (c + 1) / 4 ≡ c / 4 = omega arith in
      let b : (c + 1) / 2 ≡ c / 2 = omega arith in
      rw (a, b) e

  pub pair_1 : l' ≡ store_tab (strip_pixel table n s c) at 8 l → l'' ≡ store_tab (strip_pixel table n s (c + 1)) (at + 8) 8 l'
      → l'' ≡ store_tab (strip_pixel table n s c) at 16 l
  pair_1 = strip_more table n s c l l' l'' at 1 8

pub ruleset pair_cases = (pair_palette, pair_1)

module _ (table n l l' l'' : List ℕ) (s : Strip) (g at : ℕ) where
  pub group_1 : l' ≡ store_tab (strip_pixel table n s (4 * g)) at 16 l → l'' ≡ store_tab (strip_pixel table n s (4 * g + 2)) (at + 16) 16 l'
      → l'' ≡ store_tab (strip_pixel table n s (4 * g)) at 32 l
  group_1 = strip_more table n s (4 * g) l l' l'' at 2 16

module _ (table n l l' l'' : List ℕ) (s : Strip) (g at t m : ℕ) where
  -- one group more
  pub run_more : l' ≡ store_tab (strip_pixel table n s (4 * g)) (32 * at) (32 * t) l
      → l'' ≡ store_tab (strip_pixel table n s (4 * (g + t))) (32 * (at + t)) 32 l'
      → l'' ≡ store_tab (strip_pixel table n s (4 * g)) (32 * at) (32 * (t + 1)) l
  run_more e d =
      let a : 32 * t ≡ 8 * (4 * t) = omega arith in
      let b : 32 * (at + t) ≡ 32 * at + 8 * (4 * t) = omega arith in
      let i : 32 * (t + 1) ≡ 8 * (4 * t) + 32 = omega arith in
      let j : 4 * (g + t) ≡ 4 * g + 4 * t = omega arith in
      rw i (strip_more table n s (4 * g) l l' l'' (32 * at) (4 * t) 32 (e ∙ rw a) (d ∙ rw (b, j)))

  pub run_start : l ≡ store_tab (strip_pixel table n s (4 * g)) (32 * at) (32 * 0) l
  unfolding store_tab
  run_start = refl

pub ruleset run_cases = (run_start, run_more)
