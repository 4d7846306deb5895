use Rattle.std.proofs.Common.{rules, refl, length}
use Rattle.lent.proofs.Sizes.{sizes_right}
use Rattle.lent.proofs.Lent.new.Goals as goal

pub returns : goal.returns
returns c = (
  sizes_right c.args.board (length c.args.left.now) (length c.args.right.now) (length c.args.nametables.now) (length c.args.oam.now) (length c.args.palette.now)
      c.in_ok-as_array.ensures.cases.long c.in_ok-as_array-2.ensures.cases.long (search rules) c.in_ok-as_array-3.ensures.cases.long c.in_ok-as_array-4.ensures.cases.long,
  rw (c.in_ok-as_array.ensures.cases.same, c.in_ok-as_array-2.ensures.cases.same, c.in_ok-as_array-3.ensures.cases.same, c.in_ok-as_array-4.ensures.cases.same) refl,
)
