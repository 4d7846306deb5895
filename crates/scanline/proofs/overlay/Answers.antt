use mathlib.Core.Path.{ap, ◌∙◌}
use Prim.Native.Nat.{ℕ}
use lib.Dec.{ltb}
use Rattle.model.specs.Sprites.{sprite_on}
use Rattle.pixels.proofs.Hit.{off}
use Rattle.sprites.proofs.Winner.{listed_at, beside_none}
use Rattle.scanline.proofs.Laws.{zeros_at, over_1}
use borrow.Author.Rules.{rules}
use Rattle.scanline.proofs.overlay.Goals as goal

pub sprite_row-requires : goal.sprite_row-requires
sprite_row-requires c = (λ p. zeros_at 264 p, search rules)

pub merge_row-requires : goal.merge_row-requires
merge_row-requires c =
    let a = c.args in
    let given = c.requires in (
      λ k lt. (listed_at a.u.control a.n a.oam.now a.shown.now given.4 k lt).0,
      λ p beside. c.clear.ensures p ∙ off (ltb p a.skip) _ (c.sprite_row.ensures p
          ∙ beside_none a.u.control a.n a.oam.now a.shown.now given.4 a.tables.left.now a.tables.right.now p beside),
    )

pub returns : goal.returns
returns c =
    let a = c.args in
    let given = c.requires in
    over_1 a.u a.tables.left.now a.tables.right.now a.oam.now a.skip c.sprite_row.new.pixels c.clear.new.row a.line.now _ given.3 given.1
    (λ p. c.sprite_row.ensures p ∙ ap (λ (n : ℕ). sprite_on a.u.control a.tables.left.now a.tables.right.now a.oam.now n p) given.0)
    c.clear.ensures c.merge_row.ensures
