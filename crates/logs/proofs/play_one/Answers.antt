use Rattle.logs.proofs.Playing.{printable, step_done}
use Rattle.logs.proofs.play_one.Goals as goal

pub put_text-written-requires : goal.put_text-written-requires
put_text-written-requires c = (printable _ _ _ _ c.play_entry-x.ensures, c.requires)

pub returns : goal.returns
returns c = search step_done
