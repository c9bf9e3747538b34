-- `text::put_decimal` meets its contract: a law for each number of digits. Assumes nothing.
use native.Mathlib.Omega.{arith}
use Rattle.text.proofs.Writing.{the_same, one_digit, two_digits, three_digits}
use Rattle.text.proofs.put_decimal.Goals as goal

pub returns-then-n-lt10 : goal.returns-then-n-lt10
returns-then-n-lt10 c =
    let w = c.put.ensures in
    let n = c.args.n in
    (the_same w (one_digit n c.if-n-lt10.true c.digit.ensures), omega (arith, w.place))

pub returns-then-n-lt100 : goal.returns-then-n-lt100
returns-then-n-lt100 c =
    let w = c.put-then-n-lt100.ensures in
    let n = c.args.n in
    (the_same w (two_digits n c.if-n-lt10.false c.if-n-lt100.true c.digit-then-n-lt100.ensures c.digit-then-n-lt100-2.ensures), omega (arith, w.place))

pub returns : goal.returns
returns c =
    let w = c.put-2.ensures in
    let n = c.args.n in
    (the_same w (three_digits n c.if-n-lt10.false c.if-n-lt100.false c.digit-2.ensures c.digit-3.ensures c.digit-4.ensures), omega (arith, w.place))
