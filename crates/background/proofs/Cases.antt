-- The ways of each function, for `search`.
use Prim.Native.Nat.{ℕ, ◌+◌, ◌-◌, ◌*◌, ◌/◌, ◌%◌}
use mathlib.Core.Path.{◌≡◌, refl, ◌∙◌}
use mathlib.Core.List.{List}
use native.Mathlib.Omega.{arith}
use lib.ListN.{length}
use Rattle.model.specs.declared.Wiring.{Wiring}
use Rattle.model.specs.Scroll.{nametable, column}
use Rattle.model.specs.Background.{background_at}
use Rattle.model.specs.Line.{tab}
use Rattle.pixels.specs.Row.{store_tab}
use Rattle.strips.specs.declared.Strip.{Strip}
use Rattle.strips.specs.Strips.{row_length, strip_of, strip_pixel, beside_of, group_start}
use Rattle.background.proofs.Strips.{start_quarter, start_strip, two_runs}

module _ (w : Wiring) (n table l l₁ l₂ : List ℕ) (v g q o : ℕ) (here there : Strip) where
  pub tiles_1 : g ≡ v / 4 % 8 → q ≡ nametable v → o ≡ q % 2 → here ≡ strip_of w q v → there ≡ strip_of w (q + 1 - 2 * o) v → length l ≡ row_length
      → l₁ ≡ store_tab (strip_pixel table n here (4 * g)) (32 * 0) (32 * (8 - g)) l
      → l₂ ≡ store_tab (strip_pixel table n there (4 * 0)) (32 * (8 - g)) (32 * (g + 1)) l₁
      → l₂ ≡ tab (background_at w n table (group_start v) 0) row_length
  tiles_1 a b d e f h i j =
      let c : 4 * g ≡ column (group_start v) = omega arith in
      let k : 32 * (8 - g) ≡ 8 * (32 - column (group_start v)) = omega arith in
      let m : 32 * (g + 1) ≡ 8 * (column (group_start v) + 4) = omega arith in
      two_runs w n table l l₁ l₂ (group_start v) (32 - column (group_start v)) (omega arith) refl h
      (i ∙ rw (e, b, c, k, ← start_quarter v, start_strip w (nametable v) v))
      (j ∙ rw (f, d, b, k, m, ← start_quarter v, start_strip w (beside_of (nametable v)) v))
