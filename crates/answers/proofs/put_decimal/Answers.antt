use Rattle.std.proofs.Common.{arith}
use Rattle.answers.proofs.Text.{spelled, decimal_1, decimal_2, decimal_3}
use Rattle.answers.proofs.put_decimal.Goals as goal

pub returns-then-n-lt10 : goal.returns-then-n-lt10
returns-then-n-lt10 c =
    let s = spelled _ _ _ _ _ _ (decimal_1 _ _ c.if-n-lt10.true c.digit-3.ensures) c.put.ensures in
    (s.0, s.1, omega arith)

pub returns-then-n-lt100 : goal.returns-then-n-lt100
returns-then-n-lt100 c =
    let s = spelled _ _ _ _ _ _ (decimal_2 _ _ _ c.if-n-lt10.false c.if-n-lt100.true c.digit-2.ensures c.digit-3.ensures) c.put-then-n-lt100.ensures in
    (s.0, s.1, omega arith)

pub returns-else-n-lt100 : goal.returns-else-n-lt100
returns-else-n-lt100 c =
    let s = spelled _ _ _ _ _ _ (decimal_3 _ _ _ _ c.if-n-lt10.false c.if-n-lt100.false c.digit.ensures c.digit-2.ensures c.digit-3.ensures) c.put-else-n-lt100.ensures in
    (s.0, s.1, omega arith)
