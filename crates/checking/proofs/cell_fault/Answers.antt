-- `checking::cell_fault` meets its contract. Assumes nothing.
use mathlib.Core.Bool.{Bool, not}
use mathlib.Core.Path.{sym, ◌∙◌, ap}
use Rattle.choice.specs.Choice.{pick}
use Rattle.machine.specs.Step.{word_count}
use Rattle.transfer.specs.Passes.{point_at}
use Rattle.findings.proofs.Telling.{fault_some, handed}
use Rattle.checking.proofs.Faults.{some_records, fault_found, fault_nowhere, walked}
use Rattle.checking.proofs.cell_fault.Goals as goal

pub returns-then-not-reached : goal.returns-then-not-reached
returns-then-not-reached c =
    let a = c.args in
    fault_nowhere a.image.now a.map.now a.table.now (point_at (word_count a.image.now) a.depth a.pc) c.reached.ensures (ap not c.if-not-reached.true)

pub returns-in_err-cell_finding : goal.returns-in_err-cell_finding
returns-in_err-cell_finding c =
    let a = c.args in
    let fault = c.in_err-cell_finding.field-0.0 in
    let found = c.in_err-cell_finding.ensures in
    handed c.from_residual.result fault c.from_residual.ensures.1 ∙ found
    ∙ fault_found a.image.now a.map.now a.table.now (point_at (word_count a.image.now) a.depth a.pc) (λ z. fault_some fault (found ∙ z))

pub returns-then-pass_cell : goal.returns-then-pass_cell
returns-then-pass_cell c =
    let start = c in
    let a = start.args in
    ap (λ (b : Bool). pick (not b) 0 43) (sym c.if-pass_cell.true)
    ∙ walked a.image.now a.map.now a.table.now a.depth a.pc start.requires.2.inside (some_records a.image.now a.table.now a.pc start.requires.0 start.requires.2.inside)
    c.reached.ensures (ap not c.if-not-reached.false) c.load-c.ensures (sym c.in_ok-cell_finding.ensures) (rw c.of-facts.ensures at c.pass_cell.ensures.passed)

pub returns : goal.returns
returns c =
    let start = c in
    let a = start.args in
    ap (λ (b : Bool). pick (not b) 0 43) (sym c.if-pass_cell.false)
    ∙ walked a.image.now a.map.now a.table.now a.depth a.pc start.requires.2.inside (some_records a.image.now a.table.now a.pc start.requires.0 start.requires.2.inside)
    c.reached.ensures (ap not c.if-not-reached.false) c.load-c.ensures (sym c.in_ok-cell_finding.ensures) (rw c.of-facts.ensures at c.pass_cell.ensures.passed)
