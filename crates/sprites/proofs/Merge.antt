-- The sprites' row over a line, sprite by sprite: a column of a sprite is merged, any other stays, and merging twice is merging once.
use Prim.Native.Nat.{ℕ, ◌+◌, ◌<◌, ◌≤◌, min}
use mathlib.Core.Path.{◌≡◌, refl, ap, sym, ◌∙◌}
use mathlib.Core.Bool.{false, ◌&&◌}
use mathlib.Core.Logic.{◌⊎◌, inl, inr, ⊎_elim}
use mathlib.Core.List.{List}
use native.Mathlib.Omega.{arith}
use borrow.Author.Tests.{le-leb, lt-leb, le-ltb}
use lib.Dec.{leb, ltb}
use lib.ListN.{length, get_or}
use Rattle.model.specs.Line.{tab, merged}
use Rattle.model.specs.Sprites.{oam_at}
use Rattle.model.proofs.Tab.{tab_ext}
use Rattle.model.proofs.Scroll.{lt_or_ge}
use Rattle.pixels.specs.Row.{merged_in}
use Rattle.pixels.proofs.Merge.{merged_in_lem, merged_before, merged_after, merged_again}
use Rattle.sprites.specs.Row.{Beside}

-- column p is none of eight from x on
out_before : (x p : ℕ) → p < x → (leb x p && ltb p (x + 8)) ≡ false
out_before x p h = rw (lt-leb x p h)

out_after : (x p : ℕ) → x + 8 ≤ p → (leb x p && ltb p (x + 8)) ≡ false
out_after x p h = rw (le-leb x p (omega arith), le-ltb p (x + 8) h)

module _ (b s o list : List ℕ) where
  -- a column of the line l after i sprites
  abbrev Column : List ℕ → ℕ → ℕ → Type 0
  Column l i p = (get_or l p 0 ≡ merged (get_or b p 0) (get_or s p 0)) ⊎ ((get_or l p 0 ≡ get_or b p 0) × Beside o list i p)

  pub record Laid (l : List ℕ) (i : ℕ) : Type 0 where
    pub long : length l ≡ 256
    pub each : (p : ℕ) → p < 256 → Column l i p

  pub laid_start : (h : length b ≡ 256) → Laid b 0
  laid_start h = record { long = h; each = λ p lt. inr (refl, λ k none. absurd (omega arith)) }

  module _ (l : List ℕ) (i : ℕ) (m : Laid l i) where
    -- the sprite's own columns are among those from `at` on
    module _ (l' : List ℕ) (at x k : ℕ) (e : at ≡ min x 248) (d : x ≡ oam_at o k 3) (g : k ≡ get_or list i 0) (f : (p : ℕ) → get_or l' p 0 ≡ merged_in l s at 8 p) where
      here : (p : ℕ) → at ≤ p → p < at + 8 → Column l i p → get_or l' p 0 ≡ merged (get_or b p 0) (get_or s p 0)
      here p h u old =
          f p
          ∙ merged_in_lem l s at 8 p h u
          ∙ ⊎_elim
          (λ (done : get_or l p 0 ≡ merged (get_or b p 0) (get_or s p 0)). ap (λ (v : ℕ). merged v (get_or s p 0)) done ∙ merged_again (get_or b p 0) (get_or s p 0))
          (λ (not_yet : (get_or l p 0 ≡ get_or b p 0) × Beside o list i p). ap (λ (v : ℕ). merged v (get_or s p 0)) not_yet.0)
          old

      there : (p : ℕ) → get_or l' p 0 ≡ get_or l p 0 → (leb x p && ltb p (x + 8)) ≡ false → Column l i p → Column l' (i + 1) p
      there p same out old =
          ⊎_elim
          (λ (done : get_or l p 0 ≡ merged (get_or b p 0) (get_or s p 0)). inl (same ∙ done))
          (λ (not_yet : (get_or l p 0 ≡ get_or b p 0) × Beside o list i p).
          inr (
            same ∙ not_yet.0,
            λ j lt. ⊎_elim (λ (under : j < i). not_yet.1 j under) (λ (ge : i ≤ j). let z : j ≡ i = omega arith in rw (z, ← g, ← d) out) (lt_or_ge j i),
          ))
          old

      next : (p : ℕ) → p < 256 → Column l i p → Column l' (i + 1) p
      next p small old =
          ⊎_elim
          (λ (lt : p < at). there p (f p ∙ merged_before l s at 8 p lt) (out_before x p (before lt)) old)
          (λ (ge : at ≤ p).
          ⊎_elim
          (λ (lt : p < at + 8). inl (here p ge lt old))
          (λ (past : at + 8 ≤ p). there p (f p ∙ merged_after l s at 8 p past) (out_after x p (after past)) old)
          (lt_or_ge p (at + 8)))
          (lt_or_ge p at)
        where
          before : p < at → p < x
          before lt = omega (arith, e)

          after : at + 8 ≤ p → x + 8 ≤ p
          after past = omega (arith, e)

      pub laid_more : length l' ≡ length l → Laid l' (i + 1)
      laid_more h = record { long = h ∙ m.long; each = λ p small. next p small (m.each p small) }

    pub laid_done : i ≡ length list → ((p : ℕ) → Beside o list (length list) p → get_or s p 0 ≡ 0) → l ≡ tab (λ (p : ℕ). merged (get_or b p 0) (get_or s p 0)) 256
    unfolding merged
    laid_done z none =
        tab_ext (λ (p : ℕ). merged (get_or b p 0) (get_or s p 0)) 256 l m.long
        (λ p lt.
        ⊎_elim
        (λ (done : get_or l p 0 ≡ merged (get_or b p 0) (get_or s p 0)). done)
        (λ (not_yet : (get_or l p 0 ≡ get_or b p 0) × Beside o list i p). not_yet.0 ∙ sym (unmerged p (none p (rw z at not_yet.1))))
        (m.each p lt))
      where
        unmerged : (p : ℕ) → get_or s p 0 ≡ 0 → merged (get_or b p 0) (get_or s p 0) ≡ get_or b p 0
        unmerged p e = rw e

pub ruleset laid_loop = (laid_start, laid_more, laid_done)
