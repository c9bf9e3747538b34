-- `passing::pass_if` meets its contract. Assumes nothing.
use Rattle.machine.specs.Step.{word_count}
use Rattle.transfer.specs.Passes.{toward}
use Rattle.passing.proofs.Passing.{passed_not}
use Rattle.passing.proofs.pass_if.Goals as goal

pub returns-clause-passed : goal.returns-clause-passed
returns-clause-passed c =
    let start = c in
    let a = start.args in
    passed_not a.t.now.image.now a.t.now.asked.now a.to.depth a.t.now.table.now a.t.now.marks.now a.test (toward (word_count a.t.now.image.now) a.to.depth a.to.pc a.to.facts) c.if-test.false start.requires.0
