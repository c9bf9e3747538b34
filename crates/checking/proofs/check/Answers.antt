-- `checking::check` meets its contract. Assumes nothing.
use mathlib.Core.Path.{refl, ◌∙◌, ap}
use Rattle.choice.proofs.Library.{handed_on}
use Rattle.refusal.proofs.Laws.{some_refusal}
use Rattle.admission.proofs.Opening.{opened}
use Rattle.checking.specs.Check.{check_told, judged, answering}
use Rattle.checking.proofs.Judging.{check_refused, check_judged}
use Rattle.checking.proofs.check.Goals as goal

pub returns-in_err-map : goal.returns-in_err-map
returns-in_err-map c =
    let a = c.args in
    let refusal = c.in_err-map.field-0.0 in
    ap (λ r. answering (check_told r)) (handed_on c.from_residual.result c.from_residual.ensures.1 refl)
    ∙ check_refused a.image.now a.map.now a.table.now c.in_err-map.ensures.number (some_refusal refusal)

pub returns : goal.returns
returns c =
    let a = c.args in
    let o = opened a.image.now a.map.now a.table.now c.in_ok-map.ensures.number refl in
    ap answering (c.judge.ensures ∙ ap (λ map. judged a.image.now map a.table.now) c.in_ok-map.ensures.map) ∙ check_judged a.image.now a.map.now a.table.now o
