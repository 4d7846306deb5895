-- The ways of each function, for `search`.
use Prim.Native.Nat.{ℕ, ◌+◌, ◌-◌, ◌*◌, ◌/◌, ◌%◌, ◌<◌, ◌≤◌}
use mathlib.Core.Path.{◌≡◌, sym, ◌∙◌}
use mathlib.Core.Bool.{Bool, true, false}
use mathlib.Core.List.{List}
use native.Mathlib.Omega.{arith}
use lib.ListN.{get_or}
use Rattle.model.specs.declared.Sprite.{Sprite}
use Rattle.model.specs.Unit.{bit}
use Rattle.model.specs.Address.{table_of}
use Rattle.model.specs.Sprites.{oam_at, height, covers, row_of, second_table, tile_of, pattern_at, fetched}
use Rattle.choice.proofs.Places.{height_le, covers_from, covers_to, y_at}

module _ (c : ℕ) (o : List ℕ) (n i y r : ℕ) (e : y ≡ get_or o (4 * i) 0) where
  pub row_1 : covers c o n i ≡ true → y ≤ n
  row_1 k = omega (arith, covers_from c o n i k, y_at o i)

  pub row_2 : (b : Bool) → b ≡ bit 128 (oam_at o i 2) → b ≡ false → r ≡ n - y → r ≡ row_of c o n i
  unfolding row_of
  row_2 b d t z = z ∙ rw (sym d ∙ t, e, y_at o i)

  pub row_3 : covers c o n i ≡ true → r ≡ n - y → r < 16
  row_3 k z = omega (arith, covers_to c o n i k, height_le c, y_at o i)

module _ (c : ℕ) (o : List ℕ) (n i y r h : ℕ) (e : y ≡ get_or o (4 * i) 0) (f : h ≡ height c) where
  pub row_4 : covers c o n i ≡ true → n - y ≤ h - 1
  row_4 k = omega (arith, covers_from c o n i k, covers_to c o n i k, y_at o i)

  pub row_5 : (b : Bool) → b ≡ bit 128 (oam_at o i 2) → b ≡ true → r ≡ h - 1 - (n - y) → r ≡ row_of c o n i
  unfolding row_of
  row_5 b d t z = z ∙ rw (sym d ∙ t, f, e, y_at o i)

pub ruleset row_cases = (row_1, row_2, row_3, row_4, row_5)

module _ (c : ℕ) (o : List ℕ) (i : ℕ) (b r : Bool) (e : b ≡ bit 32 c) where
  pub second_1 : b ≡ true → r ≡ bit 1 (oam_at o i 1) → r ≡ second_table c o i
  unfolding second_table
  second_1 t z = rw (sym e ∙ t) z

  pub second_2 : b ≡ false → r ≡ bit 8 c → r ≡ second_table c o i
  unfolding second_table
  second_2 t z = rw (sym e ∙ t) z

pub ruleset second_cases = (second_1, second_2)

module _ (c : ℕ) (o : List ℕ) (row i t r : ℕ) (b : Bool) (e : b ≡ bit 32 c) (f : t ≡ oam_at o i 1) where
  pub tile_1 : b ≡ true → r ≡ t / 2 * 2 + row / 8 → r ≡ tile_of c o row i
  unfolding tile_of
  tile_1 g z = z ∙ rw (sym e ∙ g, f)

  pub tile_2 : b ≡ false → r ≡ t → r ≡ tile_of c o row i
  unfolding tile_of
  tile_2 g z = z ∙ rw (sym e ∙ g, f)

pub ruleset tile_cases = (tile_1, tile_2)

pub pattern_1 : (c : ℕ) (o : List ℕ) (n i row t r : ℕ) → row ≡ row_of c o n i → t ≡ tile_of c o row i → r ≡ 16 * t + row % 8 → r ≡ pattern_at c o n i
unfolding pattern_at
pattern_1 c o n i row t r e f z = z ∙ rw (f, e)

pub fetch_1 : (c : ℕ) (left right o : List ℕ) (n i at a b : ℕ) (second : Bool) (s : Sprite) → at ≡ pattern_at c o n i → second ≡ second_table c o i
    → a ≡ get_or (table_of second left right) at 0 → b ≡ get_or (table_of second left right) (at + 8) 0
    → s ≡ record { low = a; high = b; attribute = oam_at o i 2; x = oam_at o i 3 } → s ≡ fetched c left right o n i
unfolding fetched
fetch_1 c left right o n i at a b second s e f g h z = z ∙ rw (g, h, e, f)
