use mathlib.Core.Path.{◌∙◌}
use native.Mathlib.Omega.{arith}
use Rattle.machine.specs.Parts.{operation_number}
use Rattle.delivery.proofs.Outcomes.{to_register, to_address, unlisted}
use Rattle.delivery.proofs.to_slot.Goals as goal

pub returns-then-k-lt-ADDRESS : goal.returns-then-k-lt-ADDRESS
returns-then-k-lt-ADDRESS c = λ l s.
    let a = c.args in
    to_register a.map.now (operation_number a.op) a.x a.q a.values.now l s _ _ _ a.k c.if-k-lt-ADDRESS.true c.result-y.ensures c.set_overflow.ensures c.went.ensures

pub returns-then-not-listed : goal.returns-then-not-listed
returns-then-not-listed c = λ l s.
    let a = c.args in
    c.stopped.ensures a.values.now l s ∙ unlisted a.map.now (operation_number a.op) a.x a.q a.values.now l s a.k c.result-y-2.result c.if-k-lt-ADDRESS.false c.result-y-2.ensures (cc (c.if-not-listed.true))

pub returns : goal.returns
returns c = λ l s.
    let a = c.args in
    to_address a.map.now (operation_number a.op) a.x a.q a.values.now l s _ _ _ a.k _ c.if-k-lt-ADDRESS.false c.result-y-2.ensures (cc (c.if-not-listed.false)) c.set_overflow-2.ensures (omega (arith, c.if-k-lt-ADDRESS.false)) c.went-2.ensures
