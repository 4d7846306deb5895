use Rattle.std.proofs.Common.{arith}
use Rattle.reader.proofs.Cases.{cut, stands}
use Rattle.reader.proofs.Cursor.next.Goals as goal

pub returns-then-saturating_sub-lt4 : goal.returns-then-saturating_sub-lt4
returns-then-saturating_sub-lt4 c = cut _ _ (omega arith)

pub returns : goal.returns
returns c = stands _ _ _ (omega arith) c.whole_entry.ensures
