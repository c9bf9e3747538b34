-- `passing::pass_branch` meets its contract. Assumes nothing.
use mathlib.Core.Path.{ap, ◌∙◌}
use Rattle.machine.specs.Step.{in_page}
use Rattle.machine.specs.Shape.{source_of}
use Rattle.control.specs.Pages.{page_size}
use mathlib.Core.List.{[]}
use Prim.Native.Nat.{◌+◌}
use lib.Dec.{ltb}
use Rattle.choice.specs.Choice.{pick}
use Rattle.machine.specs.Step.{word_count}
use Rattle.transfer.specs.Passes.{toward}
use Rattle.passing.proofs.Going.{branch_passed}
use Rattle.passing.proofs.Loans.{passed_on}
use Rattle.passing.proofs.pass_branch.Goals as goal

pub returns-clause-passed : goal.returns-clause-passed
returns-clause-passed c =
    let a = c.args in
    branch_passed a.t.now.image.now a.t.now.asked.now a.p.now.depth a.p.now.pc a.p.now.facts (source_of a.w.s 0 0 a.w.l) (page_size a.w.page) a.w.i c.values_of-v.result c.in_page-pc.result
    c.values_of-v.ensures.0 (c.in_page-pc.ensures ∙ ap (in_page (page_size a.w.page) a.p.now.pc) c.from.ensures) c.pass_if-on.ensures.passed
    (passed_on c.pass_if-on.ensures.lent c.pass_if-away.new.t (λ image _. pick (ltb 1 (c.values_of-v.result.low + c.values_of-v.result.count)) (toward (word_count image) a.p.now.depth c.in_page-pc.result a.p.now.facts) []) c.pass_if-away.ensures.passed)
