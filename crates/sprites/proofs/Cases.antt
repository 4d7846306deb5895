-- The ways of each function, for `search`.
use Prim.Native.Nat.{ℕ, ◌+◌, ◌-◌, ◌*◌, ◌/◌, ◌%◌, ◌<◌, ◌≤◌}
use mathlib.Core.Path.{◌≡◌, ◌∙◌}
use mathlib.Core.Bool.{Bool, false, cond}
use mathlib.Core.List.{List}
use mathlib.Core.Logic.{⊎_elim}
use native.Mathlib.Omega.{arith}
use borrow.Author.Tests.{le-leb, lt-leb, lt-ltb, le-ltb}
use lib.Dec.{eqb, ltb}
use lib.ListN.{length, get_or}
use Rattle.model.specs.declared.Sprite.{Sprite}
use Rattle.model.specs.Unit.{bit}
use Rattle.model.specs.Background.{colour_of, number_of}
use Rattle.model.specs.Sprites.{oam_at, height, covers, shade}
use Rattle.model.proofs.Scroll.{lt_or_ge}
use Rattle.words.specs.Pack.{pack, byte_of}
use Rattle.pixels.specs.Row.{over_tab}
use Rattle.pixels.proofs.Over.{over_shade}
use Rattle.choice.proofs.Places.{y_at}

module _ (c : ℕ) (o : List ℕ) (n i y : ℕ) (e : y ≡ get_or o (4 * i) 0) where
  pub covering_1 : (b : Bool) → n < y → b ≡ false → b ≡ covers c o n i
  unfolding covers
  covering_1 b p z = z ∙ rw (lt-leb (oam_at o i 0) n (omega (arith, y_at o i)))

  pub covering_2 : (b : Bool) (h : ℕ) → y ≤ n → b ≡ ltb (n - y) h → h ≡ height c → b ≡ covers c o n i
  unfolding covers
  covering_2 b h p z f =
      z ∙
      ⊎_elim
      (λ (lt : n - y < h). rw (lt-ltb (n - y) h lt, le-leb (oam_at o i 0) n (omega (arith, y_at o i)), lt-ltb n (oam_at o i 0 + height c) (omega (arith, y_at o i))))
      (λ (ge : h ≤ n - y). rw (le-ltb (n - y) h ge, le-leb (oam_at o i 0) n (omega (arith, y_at o i)), le-ltb n (oam_at o i 0 + height c) (omega (arith, y_at o i))))
      (lt_or_ge (n - y) h)

pub ruleset covering_cases = (covering_1, covering_2)

pub put_1 : (s : Sprite) (at n : ℕ) (row row' : List ℕ) → length row ≡ 264 → at ≡ s.x → at < 256
    → n ≡ pack (λ (j : ℕ). number_of (4 + s.attribute % 4 + s.attribute / 32 % 2 * 8) (colour_of s.low s.high (cond (bit 64 s.attribute) j (7 - j)))) 8
    → row' ≡ over_tab (byte_of n) at 8 row → (p : ℕ) → get_or row' p 0 ≡ cond (eqb (get_or row p 0) 0) (shade s p) (get_or row p 0)
put_1 s at n row row' h e lt f d p = over_shade s n f p row row' (omega arith) (rw e at d)
