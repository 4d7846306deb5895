use Rattle.std.proofs.Common.{rules}
use Rattle.runs.proofs.Cases.{formed, ram_long, run_is}
use Rattle.runs.proofs.run_bytes.Goals as goal

pub run-r-requires : goal.run-r-requires
run-r-requires c = (
  ram_long c.args.u c.args.left.now c.args.right.now c.args.nametables.now c.args.oam.now c.args.palette.now _ _ c.new.ensures c.in-Ok.ensures.value c.in-Ok.ensures.number,
  formed c.args.u _ c.in-Ok.ensures.number,
)

pub returns : goal.returns
returns c =
    run_is _ _ _ _ _ _ _ _ c.new.ensures c.in-Ok.ensures.value c.in-Ok.ensures.number
    _ _ _ c.in-Some.ensures.cases _ _ c.requires _ _ c.in-Some-as_mut_array.ensures.cases _ _ _ _ _ c.run-r.ensures (search rules)
