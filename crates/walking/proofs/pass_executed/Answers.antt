-- `walking::pass_executed` meets its contract. The invariant: the words at the first k places are passed on. Assumes nothing.
use native.Mathlib.Omega.{arith}
use Rattle.machine.specs.Step.{word_count}
use Rattle.transfer.specs.Passes.{all_passes}
use Rattle.passing.proofs.Loans.{loans_same, loans_then, passed_on}
use Rattle.machine.specs.Shape.{source_of}
use Rattle.control.specs.Pages.{page_size}
use Rattle.callers.specs.Callers.{span_is}
use Rattle.walking.proofs.Executing.{executed_at, executed_begins, executed_next, executed_all}
use Rattle.walking.proofs.pass_executed.Goals as goal

pub loop-k-init : goal.loop-k-init
loop-k-init c =
    let a = c.args in
    (executed_begins a.t.now.image.now a.t.now.asked.now a.p.now.depth a.p.now.pc a.p.now.facts (page_size a.w.page) a.w.i (span_is c.values_of-v.result) c.requires.0, loans_same)

pub loop-k-preserved : goal.loop-k-preserved
loop-k-preserved c =
    let a = c.args in
    let p = c.loop-k in
    let span = span_is c.values_of-v.result in (
      executed_next a.t.now.image.now a.t.now.asked.now a.p.now.depth a.p.now.pc a.p.now.facts (page_size a.w.page) a.w.i span p.k
          p.invariant.0
          (passed_on p.invariant.1 c.pass_place-changed.new.t (λ image _. all_passes (word_count image) a.p.now.depth a.p.now.pc a.p.now.facts (executed_at image a.p.now.pc (page_size a.w.page) a.w.i span p.k)) c.pass_place-changed.ensures.passed),
      loans_then p.invariant.1 c.pass_place-changed.ensures.lent,
    )

pub returns-clause-passed : goal.returns-clause-passed
returns-clause-passed c =
    let a = c.args in
    let p = c.loop-k in
    executed_all a.t.now.image.now a.t.now.asked.now a.p.now.depth a.p.now.pc a.p.now.facts (page_size a.w.page) a.w.i (span_is c.values_of-v.result) (source_of a.w.s 0 0 a.w.l) p.k
    c.values_of-v.ensures.0 (omega (arith, c.loop-k-test.false, p.auto.k-end, c.size-k-end.ensures.0)) p.invariant.0
