-- The lengths of what a read or a write is lent.
use Prim.Native.Nat.{ℕ}
use mathlib.Core.Path.{◌≡◌, sym}
use mathlib.Core.Bool.{Bool, true, false, true≢false}
use mathlib.Core.List.{List}
use lib.Dec.{eqb}
use lib.ListN.{length}
use borrow.Author.Tests.{eqb-true}
use Rattle.std.specs.Prelude.{Option, None, Some, is_some, MatchOption}
use Rattle.model.specs.declared.Board.{Board}
use Rattle.model.specs.Unit.{access_cells, video, VideoLengths, nametable_length}
use Rattle.model.specs.Calls.{access_sizes}
use Rattle.model.proofs.Tests.{all5}
use Rattle.lent.specs.declared.Lent.{Lent}
use Rattle.lent.specs.Cells.{cells_of}

-- memories of which a Lent is made have the right lengths
module _ (d : Board) (l r n o p : List ℕ) where
  abbrev fits : Bool
  fits = access_sizes d (length l) (length r) (length n) (length o) (length p)

  pub lent_long : (lent : Option Lent) → MatchOption lent (fits ≡ false) (λ m. (fits ≡ true) × (cells_of m ≡ access_cells l r n o p)) → is_some lent ≡ true
      → VideoLengths d (video l r n p) × (length o ≡ 256)
  lent_long None made some = absurd (true≢false (sym some))
  lent_long (Some m) made some =
      let z = all5 (eqb (length l) 4096) (eqb (length r) 4096) (eqb (length n) (nametable_length d)) (eqb (length o) 256) (eqb (length p) 32) made.0 in (
        record {
          left = eqb-true (length l) 4096 z.0;
          right = eqb-true (length r) 4096 z.1;
          nametables = eqb-true (length n) (nametable_length d) z.2;
          palette = eqb-true (length p) 32 z.4;
        },
        eqb-true (length o) 256 z.3,
      )
