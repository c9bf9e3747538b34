-- `passing::pass_act` meets its contract. Assumes nothing.
use native.Mathlib.Omega.{arith}
use Rattle.machine.specs.Shape.{target_of}
use Rattle.machine.specs.Parts.{delivery_source, operation_number}
use Rattle.passing.proofs.Going.{act_passed}
use Rattle.passing.proofs.pass_act.Goals as goal

pub returns-clause-passed : goal.returns-clause-passed
returns-clause-passed c =
    let a = c.args in
    let d = a.a in
    act_passed a.t.now.image.now a.t.now.asked.now a.p.now.depth a.p.now.pc a.p.now.facts (delivery_source d) (operation_number d.op) (target_of d.d d.l) c.argument_fact-x.ensures
    (grind arith) c.pass.ensures.passed
