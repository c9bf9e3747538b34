-- `cases::number` meets its contract: the value with the digits left behind it is the number. Assumes nothing.
use mathlib.Core.Path.{refl, ◌∙◌}
use native.Mathlib.Omega.{arith}
use Rattle.cases.proofs.Laws.{digits_over, no_digit, one_digit}
use Rattle.cases.proofs.number.Goals as goal

pub loop-byte-preserved : goal.loop-byte-preserved
loop-byte-preserved c =
    let at = c.loop-byte in
    (one_digit _ at.byte-index at.value _ at.invariant.0 c.loop-byte-test.true (c.from.ensures ∙ c.in-Some.ensures.0) (omega (arith, c.in-Some.ensures.1)), omega arith)

pub returns-in_default : goal.returns-in_default
returns-in_default c =
    let at = c.loop-byte in
    (no_digit _ at.byte-index at.value _ at.invariant.0 c.loop-byte-test.true refl c.in_default.ensures, omega arith)

pub returns-after-loop-byte : goal.returns-after-loop-byte
returns-after-loop-byte c =
    let at = c.loop-byte in
    (digits_over _ at.byte-index at.value _ at.invariant.0 c.loop-byte-test.false, omega arith)
