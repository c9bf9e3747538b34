-- `findings::cell_finding` meets its contract. Assumes nothing.
use mathlib.Core.Path.{refl, ◌∙◌, sym, subst}
use Rattle.forms.specs.Forms.{shape_is}
use Rattle.processor.specs.Fetching.{Fetches}
use Rattle.machine.proofs.Fetching.{no_shape}
use Rattle.processor.proofs.Forming.{read_shape}
use Rattle.transfer.specs.Findings.{cell_questions}
use Rattle.findings.specs.Findings.{fault_number, finding_number}
use Rattle.findings.proofs.Telling.{fault_some, hand_on}
use Rattle.findings.proofs.Passing.{asked_below_lem, cell_unreached, cell_told, cell_invalid, cell_stop, cell_on}
use Rattle.findings.proofs.cell_finding.Goals as goal

pub returns-then-not-reached : goal.returns-then-not-reached
returns-then-not-reached c =
    let start = c in
    let a = start.args in
    cell_unreached a.image.now a.map.now a.table.now a.depth a.pc (sym c.reached.ensures ∙ c.if-not-reached.true)

pub returns-in_default : goal.returns-in_default
returns-in_default c =
    let start = c in
    let a = start.args in
    let cell = c.load-c in
    let none = subst (Fetches c.word_at.result) c.in_default.is c.fetched_of.ensures in
    cell_told a.image.now a.map.now a.table.now a.depth a.pc start.requires.2 cell.result cell.ensures 22 (sym c.reached.ensures ∙ c.if-not-reached.false)
    (cell_invalid a.image.now a.map.now a.table.now cell.result.facts a.depth a.pc (no_shape a.image.now a.pc c.word_at.ensures.0 none))

pub returns-in_err-word_finding : goal.returns-in_err-word_finding
returns-in_err-word_finding c =
    let start = c in
    let a = start.args in
    let cell = c.load-c in
    let asked = asked_below_lem a.image.now a.table.now a.depth c.below.result c.returns_inside.result c.returns_inside.ensures c.below.ensures in
    let word = (subst (Fetches c.word_at.result) c.in-Some.is c.fetched_of.ensures).0 in
    let shape = read_shape a.image.now a.pc (sym word ∙ c.word_at.ensures.0) c.form_of-form.ensures.0 in
    let fault = c.in_err-word_finding.field-0.0 in
    cell_told a.image.now a.map.now a.table.now a.depth a.pc start.requires.2 cell.result cell.ensures (finding_number c.from_residual.result) (sym c.reached.ensures ∙ c.if-not-reached.false)
    (hand_on c.from_residual.result fault (cell_questions a.image.now a.map.now a.table.now a.depth a.pc cell.result.facts) c.from_residual.ensures.1
    (cell_stop a.image.now a.map.now a.table.now cell.result.facts a.depth a.pc (shape_is c.form_of-form.result) (sym shape) (fault_number fault) (fault_some fault)
    (rw c.of-facts.ensures at (c.in_err-word_finding.ensures a.table.now asked))))

pub returns : goal.returns
returns c =
    let start = c in
    let a = start.args in
    let cell = c.load-c in
    let asked = asked_below_lem a.image.now a.table.now a.depth c.below.result c.returns_inside.result c.returns_inside.ensures c.below.ensures in
    let word = (subst (Fetches c.word_at.result) c.in-Some.is c.fetched_of.ensures).0 in
    let shape = read_shape a.image.now a.pc (sym word ∙ c.word_at.ensures.0) c.form_of-form.ensures.0 in
    cell_told a.image.now a.map.now a.table.now a.depth a.pc start.requires.2 cell.result cell.ensures (finding_number c.defer_finding.result) (sym c.reached.ensures ∙ c.if-not-reached.false)
    (cell_on a.image.now a.map.now a.table.now cell.result.facts a.depth a.pc (shape_is c.form_of-form.result) (sym shape) 0 (finding_number c.defer_finding.result) refl
    (rw c.of-facts.ensures at (c.in_ok-word_finding.ensures a.table.now asked)) (rw c.of-facts.ensures at (c.defer_finding.ensures a.table.now asked)))
