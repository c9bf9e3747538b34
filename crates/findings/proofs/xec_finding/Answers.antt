-- `findings::xec_finding` meets its contract. The invariant: the places before k have told nothing.
-- Assumes nothing.
use mathlib.Core.Path.{refl}
use native.Mathlib.Omega.{arith}
use Rattle.control.specs.Pages.{page_size, defer_shape}
use Rattle.machine.specs.Shape.{source_of}
use Rattle.callers.specs.Callers.{span_is}
use Rattle.transfer.specs.Findings.{defer_findings}
use Rattle.findings.specs.Findings.{fault_number}
use Rattle.findings.proofs.Telling.{fault_some, hand_on}
use Rattle.findings.proofs.Passing.{begins, skips, goes_on_lem, stops, ends}
use Rattle.findings.proofs.xec_finding.Goals as goal
use Rattle.findings.proofs.xec_finding.Goals.{then-gives+in_ok-executed_finding, else-gives}

pub loop-k-init : goal.loop-k-init
loop-k-init c =
    let a = c.args in
    begins a.q.now.image.now a.q.now.map.now a.q.now.facts a.q.now.depth a.q.now.pc (page_size a.w.page) a.w.i (source_of a.w.s 0 0 a.w.l) a.q.now.back

pub returns-in_err-executed_finding : goal.returns-in_err-executed_finding
returns-in_err-executed_finding c = λ table asked.
    let a = c.args in
    let p = c.loop-k in
    let v = c.values_of-v in
    let g = c.gives in
    let fault = c.in_err-executed_finding.field-0.0 in
    hand_on c.from_residual.result fault (defer_findings a.q.now.image.now a.q.now.map.now table a.q.now.depth a.q.now.pc a.q.now.facts (defer_shape a.w)) c.from_residual.ensures.1
    (stops a.q.now.image.now a.q.now.map.now a.q.now.facts a.q.now.depth a.q.now.pc (page_size a.w.page) a.w.i (source_of a.w.s 0 0 a.w.l) a.q.now.back p.k (span_is v.result) g.result (omega (arith, c.loop-k-test.true)) v.ensures.0 g.ensures p.invariant c.if-gives.true
    c.in_page.result (fault_number fault) c.in_page.ensures c.in_err-executed_finding.ensures (fault_some fault) table asked)

pub loop-k-preserved : goal.loop-k-preserved
loop-k-preserved c =
    let a = c.args in
    let p = c.loop-k in
    let v = c.values_of-v in
    let g = c.gives in
    elim c.if-gives.branch [
      | then-gives+in_ok-executed_finding w ↦
          goes_on_lem a.q.now.image.now a.q.now.map.now a.q.now.facts a.q.now.depth a.q.now.pc (page_size a.w.page) a.w.i (source_of a.w.s 0 0 a.w.l) a.q.now.back p.k (span_is v.result) g.result (omega (arith, c.loop-k-test.true)) v.ensures.0 g.ensures p.invariant w.if-gives.true
          w.in_page.result 0 w.in_page.ensures w.in_ok-executed_finding.ensures refl
      | else-gives w ↦ skips a.q.now.image.now a.q.now.map.now a.q.now.facts a.q.now.depth a.q.now.pc (page_size a.w.page) a.w.i (source_of a.w.s 0 0 a.w.l) a.q.now.back p.k (span_is v.result) g.result (omega (arith, c.loop-k-test.true)) v.ensures.0 g.ensures p.invariant w.if-gives.false
    ]

pub returns : goal.returns
returns c =
    let a = c.args in
    ends a.q.now.image.now a.q.now.map.now a.q.now.facts a.q.now.depth a.q.now.pc (page_size a.w.page) a.w.i (source_of a.w.s 0 0 a.w.l) a.q.now.back c.loop-k.k (omega (arith, c.loop-k-test.false)) c.loop-k.invariant
