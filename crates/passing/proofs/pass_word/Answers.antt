-- `passing::pass_word` meets its contract. Assumes nothing.
use Rattle.transfer.specs.Passes.{word_passes}
use Rattle.passing.proofs.Going.{retold, none_told}
use Rattle.passing.proofs.pass_word.Goals as goal

pub returns-in-Jump-clause-passed : goal.returns-in-Jump-clause-passed
unfolding word_passes
returns-in-Jump-clause-passed c =
    let a = c.args in
    retold a.t.now.image.now a.t.now.asked.now a.p.now.depth a.p.now.pc a.p.now.facts c.in-Jump.is c.pass.ensures.passed

pub returns-in-Defer-clause-passed : goal.returns-in-Defer-clause-passed
returns-in-Defer-clause-passed c =
    let a = c.args in
    none_told a.t.now.image.now a.t.now.asked.now a.p.now.depth a.p.now.pc a.p.now.facts c.in-Defer.is c.requires.0
