-- What each function comes to, from what its calls and tests say: laws over plain variables.
use Prim.Native.Nat.{ℕ, ◌-◌, ◌<◌}
use mathlib.Core.Path.{◌≡◌, ◌∙◌}
use mathlib.Core.List.{List}
use native.Mathlib.Omega.{arith}
use Rattle.model.specs.Background.{colour_of, number_of}
use Rattle.words.specs.Pack.{byte_of, spread_of, pixels_by}
use Rattle.pixels.specs.Row.{store_tab}
use Rattle.words.proofs.Colours.{tile_bytes}
use Rattle.pixels.proofs.Store.{store_cong}

-- put_tile
pub tile_1 : (low high palette at l h n : ℕ) (m m' : List ℕ) → palette < 4 → l ≡ spread_of low → h ≡ spread_of high → n ≡ pixels_by l h palette → m' ≡ store_tab (byte_of n) at 8 m
    → m' ≡ store_tab (λ (j : ℕ). number_of palette (colour_of low high (7 - j))) at 8 m
tile_1 low high palette at l h n m m' k a b d e =
    e ∙ rw (d, a, b) (store_cong _ _ at 8 m (λ j lt. tile_bytes low high palette j (omega arith) lt))
