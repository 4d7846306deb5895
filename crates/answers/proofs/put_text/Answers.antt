use native.Mathlib.Nat.{add-zero}
use Rattle.std.proofs.Common.{refl, rules, sym}
use Rattle.answers.proofs.Text.{printed, spelled, text_refused, text_read, text_run, text_none}
use Rattle.answers.proofs.put_text.Goals as goal

pub returns-then-x-ne0 : goal.returns-then-x-ne0
returns-then-x-ne0 c = spelled _ _ _ _ _ _ (text_refused _ _ _ c.if-x-ne0.true) c.put_refused.ensures

pub put_run-requires : goal.put_run-requires
put_run-requires c = (search printed, search rules)

pub returns-in-Read : goal.returns-in-Read
returns-in-Read c = spelled _ _ _ _ _ _ (text_read _ _ _ c.if-x-ne0.false _ c.in-Read.is) c.put_read.ensures

pub returns-in-Run : goal.returns-in-Run
returns-in-Run c = spelled _ _ _ _ _ _ (text_run _ _ _ c.if-x-ne0.false _ c.in-Run.is) c.put_run.ensures

pub returns-in-Write : goal.returns-in-Write
returns-in-Write c = spelled _ _ _ _ _ _ (text_none _ _ _ c.if-x-ne0.false c.in-Write.is) (refl, sym (add-zero c.args.at))
