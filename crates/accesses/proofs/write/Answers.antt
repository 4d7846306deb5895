use Rattle.std.proofs.Common.{◌∙◌, sym, ap, is_some}
use Rattle.accesses.proofs.Cases.{lent_long}
use Rattle.accesses.proofs.write.Goals as goal

pub write-requires : goal.write-requires
write-requires c =
    lent_long c.args.u.board c.args.left.now c.args.right.now c.args.nametables.now c.args.oam.now c.args.palette.now
    c.new.result c.new.ensures (sym c.map-fits.ensures.variant ∙ ap is_some c.in-Ok.ensures.value)
