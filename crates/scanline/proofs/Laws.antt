-- A line as it is shown: columns hidden at the left edge, the sprites over the background, the hit.
use Prim.Native.Nat.{ℕ, zero, suc, ◌-◌, ◌<◌, ◌≤◌}
use mathlib.Core.Path.{◌≡◌, refl, sym, ap, ◌∙◌}
use mathlib.Core.Bool.{Bool, true, false, cond, ◌&&◌, ◌||◌}
use mathlib.Core.Logic.{⊎_elim}
use mathlib.Core.List.{List, []}
use native.Mathlib.Omega.{arith}
use lib.Dec.{eqb, ltb, leb}
use lib.ListN.{length, get_or, take, replicate}
use borrow.Author.Tests.{lt-ltb, le-ltb, lt-leb, le-leb}
use Rattle.model.specs.declared.Ppu.{Ppu}
use Rattle.model.specs.Unit.{bit, is_rendering}
use Rattle.model.specs.Address.{table_of}
use Rattle.model.specs.Background.{background_at, background_shown}
use Rattle.model.specs.Sprites.{covers, places_of, sprite_on, sprite_zero_on, sprite_shown}
use Rattle.model.specs.Line.{tab, any_of, merged, background_on, pixel_of, hit_of, picture}
use Rattle.model.proofs.Tab.{tab_ext, tab_cong, get_or_tab}
use Rattle.model.proofs.Scroll.{lt_or_ge}
use Rattle.pixels.specs.Row.{meets_of}
use Rattle.pixels.proofs.Hit.{any_cong, any_none}
use Rattle.sprites.proofs.Winner.{none_on, none_zero}
use Rattle.scanline.specs.Shown.{back_of, over_of, zero_of, over_line, hit_line}

-- the first eight columns, hidden or not
cut : (b : Bool) (n p x : ℕ) → n ≡ cond b 0 8 → cond (ltb p n) 0 x ≡ cond (leb 8 p || b) x 0
cut true n p x e = ⊎_elim (λ (lt : p < 8). rw (e, le-ltb p 0 (omega arith), lt-leb 8 p lt)) (λ (ge : 8 ≤ p). rw (e, le-ltb p 0 (omega arith), le-leb 8 p ge)) (lt_or_ge p 8)
cut false n p x e = ⊎_elim (λ (lt : p < 8). rw (e, lt-ltb p 8 lt, lt-leb 8 p lt)) (λ (ge : 8 ≤ p). rw (e, le-ltb p 8 ge, le-leb 8 p ge)) (lt_or_ge p 8)

pub back_cut : (mask n p x : ℕ) → bit 8 mask ≡ true → n ≡ cond (bit 2 mask) 0 8 → cond (ltb p n) 0 x ≡ background_shown mask p x
unfolding background_shown
back_cut mask n p x on e = rw on (cut (bit 2 mask) n p x e)

pub over_cut : (mask n p x : ℕ) → bit 16 mask ≡ true → n ≡ cond (bit 4 mask) 0 8 → cond (ltb p n) 0 x ≡ sprite_shown mask p x
unfolding sprite_shown
over_cut mask n p x on e = rw on (cut (bit 4 mask) n p x e)

pub over_off : (mask p x : ℕ) → bit 16 mask ≡ false → sprite_shown mask p x ≡ 0
unfolding sprite_shown
over_off mask p x off = rw off

either_none : (b : Bool) → ◌≡◌ {A = ℕ} (cond b 0 0) 0
either_none true = refl
either_none false = refl

pub over_nothing : (mask p x : ℕ) → x ≡ 0 → sprite_shown mask p x ≡ 0
unfolding sprite_shown
over_nothing mask p x e = rw e (either_none (bit 16 mask && (leb 8 p || bit 4 mask)))

-- a line over which nothing is drawn, and its hit
merged_none : (b s : ℕ) → s ≡ 0 → merged b s ≡ b
unfolding merged
merged_none b s e = rw e

pub unmerged : (b : List ℕ) (g : ℕ → ℕ) → length b ≡ 256 → ((p : ℕ) → g p ≡ 0) → b ≡ tab (λ (p : ℕ). merged (get_or b p 0) (g p)) 256
unmerged b g h e = tab_ext (λ (p : ℕ). merged (get_or b p 0) (g p)) 256 b h (λ p lt. sym (merged_none (get_or b p 0) (g p) (e p)))

pub zeros_at : (n k : ℕ) → ◌≡◌ {A = ℕ} (get_or (replicate n 0) k 0) 0
zeros_at zero k = refl
zeros_at (suc n) zero = refl
zeros_at (suc n) (suc k) = zeros_at n k

-- one column more
any_suc : (f : ℕ → Bool) (n : ℕ) → any_of f (suc n) ≡ any_of f n || f n
unfolding any_of
any_suc f n = refl

or_false : (b : Bool) → (b || false) ≡ b
or_false true = refl
or_false false = refl

-- no hit in column 255
pub any_below : (f g : ℕ → Bool) (n : ℕ) → ((p : ℕ) → p < n → f p ≡ g p) → g n ≡ false → any_of f n ≡ any_of g (suc n)
any_below f g n h e = any_cong f g n h ∙ sym (any_suc g n ∙ rw e (or_false (any_of g n)))

module _ (u : Ppu) (l r n : List ℕ) where
  back_is : (p : ℕ) → back_of u l r n p ≡ background_shown u.mask p (background_on u l r n p)
  unfolding back_of
  back_is p = refl

  -- the background: drawn and cut, or not shown
  pub back_1 : (k : ℕ) (b b' : List ℕ) → bit 8 u.mask ≡ true → k ≡ cond (bit 2 u.mask) 0 8 → length b' ≡ 256
      → b ≡ tab (background_at u.board.wiring n (table_of (bit 16 u.control) l r) u.v u.x) 256
      → ((p : ℕ) → get_or b' p 0 ≡ cond (ltb p k) 0 (get_or b p 0)) → b' ≡ tab (back_of u l r n) 256
  unfolding back_of
  back_1 k b b' on e h d c =
      tab_ext (back_of u l r n) 256 b' h
      (λ p lt.
      c p
      ∙ ap (λ (x : ℕ). cond (ltb p k) 0 x) (ap (λ (x : List ℕ). get_or x p 0) d ∙ get_or_tab (background_at u.board.wiring n (table_of (bit 16 u.control) l r) u.v u.x) 256 p lt)
      ∙ back_cut u.mask k p (background_on u l r n p) on e)

  pub back_2 : (b' : List ℕ) → bit 8 u.mask ≡ false → length b' ≡ 256 → ((p : ℕ) → get_or b' p 0 ≡ 0) → b' ≡ tab (back_of u l r n) 256
  unfolding back_of background_shown
  back_2 b' off h z = tab_ext (back_of u l r n) 256 b' h (λ p lt. z p ∙ rw off)

module _ (u : Ppu) (l r o : List ℕ) where
  -- the sprites: a row of winners cut and merged
  pub over_1 : (k : ℕ) (row row' b b' : List ℕ) → bit 16 u.mask ≡ true → k ≡ cond (bit 4 u.mask) 0 8
      → ((p : ℕ) → get_or row p 0 ≡ sprite_on u.control l r o u.scanline p) → ((p : ℕ) → get_or row' p 0 ≡ cond (ltb p k) 0 (get_or row p 0))
      → b' ≡ tab (λ (p : ℕ). merged (get_or b p 0) (get_or row' p 0)) 256 → b' ≡ over_line u l r o b
  unfolding over_line over_of
  over_1 k row row' b b' on e w c d =
      d
      ∙ tab_cong _ _ 256
      (λ p lt. ap (λ (x : ℕ). merged (get_or b p 0) x) (c p ∙ ap (λ (x : ℕ). cond (ltb p k) 0 x) (w p) ∙ over_cut u.mask k p (sprite_on u.control l r o u.scanline p) on e))

  -- sprite 0, cut
  pub hit_1 : (n k : ℕ) (b : List ℕ) (x : Bool) → n ≡ u.scanline → bit 16 u.mask ≡ true → k ≡ cond (bit 4 u.mask) 0 8
      → x ≡ meets_of b (sprite_zero_on u.control l r o n) k → x ≡ hit_line u l r o b
  unfolding hit_line zero_of meets_of
  hit_1 n k b x s on e d =
      d
      ∙ any_cong _ _ 255
      (λ p lt. rw s (ap (λ (z : ℕ). ltb 0 (get_or b p 0) && ltb 0 z) (over_cut u.mask k p (sprite_zero_on u.control l r o u.scanline p) on e)))

  -- sprites not shown, or none on the line
  pub over_2 : (b : List ℕ) → length b ≡ 256 → bit 16 u.mask ≡ false → b ≡ over_line u l r o b
  unfolding over_line over_of
  over_2 b h off = unmerged b (over_of u l r o) h (λ p. over_off u.mask p (sprite_on u.control l r o u.scanline p) off)

  pub hit_2 : (b : List ℕ) → bit 16 u.mask ≡ false → false ≡ hit_line u l r o b
  unfolding hit_line zero_of
  hit_2 b off = any_none (λ (p : ℕ). get_or b p 0) (zero_of u l r o) 255 (λ p. over_off u.mask p (sprite_zero_on u.control l r o u.scanline p) off)

module _ (u : Ppu) (l r n o : List ℕ) where
  -- both steps: the picture and its hit
  pub drawn_1 : (b b' : List ℕ) → is_rendering u ≡ true → b ≡ tab (back_of u l r n) 256 → b' ≡ over_line u l r o b → b' ≡ picture u l r n o
  unfolding picture over_line over_of pixel_of
  drawn_1 b b' on e d =
      d
      ∙ tab_cong _ _ 256
      (λ p lt. rw (on, e, get_or_tab (back_of u l r n) 256 p lt, back_is u l r n p))

  pub drawn_2 : (b : List ℕ) (x : Bool) → b ≡ tab (back_of u l r n) 256 → x ≡ hit_line u l r o b → x ≡ any_of (hit_of u l r n o) 256
  unfolding hit_line zero_of hit_of
  drawn_2 b x e d =
      d
      ∙ any_below _ (hit_of u l r n o) 255
      (λ p lt. rw (e, get_or_tab (back_of u l r n) 256 p (omega arith), back_is u l r n p, lt-ltb p 255 lt))
      refl

  pub drawn_off : (b' : List ℕ) → is_rendering u ≡ false → length b' ≡ 256 → ((p : ℕ) → get_or b' p 0 ≡ 0) → b' ≡ picture u l r n o
  unfolding picture pixel_of
  drawn_off b' off h z = tab_ext (pixel_of u l r n o) 256 b' h (λ p lt. z p ∙ rw off)

-- no sprite on the line
module _ (u : Ppu) (l r o list : List ℕ) (count : ℕ) (z : count ≡ 0)
    (e : take count list ≡ cond (eqb u.scanline 0) [] (take 8 (places_of (covers u.control o (u.scanline - 1)) 64))) where
  pub over_3 : (b : List ℕ) → length b ≡ 256 → b ≡ over_line u l r o b
  unfolding over_line over_of
  over_3 b h = unmerged b (over_of u l r o) h (λ p. over_nothing u.mask p (sprite_on u.control l r o u.scanline p) (none_on u.control u.scanline o (take count list) e (rw z) l r p))

  pub hit_3 : (b : List ℕ) → false ≡ hit_line u l r o b
  unfolding hit_line zero_of
  hit_3 b = any_none (λ (p : ℕ). get_or b p 0) (zero_of u l r o) 255 (λ p. over_nothing u.mask p (sprite_zero_on u.control l r o u.scanline p) (none_zero u.control u.scanline o (take count list) e (rw z) l r p))

pub ruleset none_shown = (over_2, hit_2, over_3, hit_3)
