-- `findings::branch_finding` meets its contract. Assumes nothing.
use Rattle.machine.specs.Shape.{source_of, branch}
use Rattle.control.specs.Pages.{page_size, branch_shape}
use Rattle.transfer.specs.Findings.{word_findings}
use Rattle.findings.specs.Findings.{fault_number}
use Rattle.findings.proofs.Telling.{fault_some, hand_on}
use Rattle.findings.proofs.Asking.{go_stop}
use Rattle.findings.proofs.branch_finding.Goals as goal

pub returns-in_err-read_finding : goal.returns-in_err-read_finding
returns-in_err-read_finding c = λ table depth.
    let a = c.args in
    let fault = c.in_err-read_finding.field-0.0 in
    hand_on c.from_residual.result fault (word_findings a.q.now.image.now a.q.now.map.now table depth a.q.now.pc a.q.now.facts (branch_shape a.w)) c.from_residual.ensures.1
    (go_stop a.q.now.image.now a.q.now.map.now table a.q.now.facts depth a.q.now.pc (source_of a.w.s 0 0 a.w.l) (branch (page_size a.w.page) a.w.i) (fault_number fault) (fault_some fault) (c.in_err-read_finding.ensures 0 0 a.w.l))
