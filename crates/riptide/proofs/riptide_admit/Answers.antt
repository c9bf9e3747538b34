-- `riptide::riptide_admit` meets its contract. Assumes nothing.
use mathlib.Core.Path.{◌∙◌, ap, subst⁻¹}
use Prim.Native.Nat.{◌<◌}
use Rattle.admission.specs.Admission.{AdmitResult}
use Rattle.answers.specs.Numbers.{admit_number}
use Rattle.answers.specs.Fits.{VerdictFits}
use Rattle.answers.proofs.Fits.{verdict_fits, sweeps_fit}
use Rattle.riptide.proofs.riptide_admit.Goals as goal

pub admit_number-requires : goal.admit_number-requires
admit_number-requires c =
    let a = c.args in
    subst⁻¹ (λ (r : AdmitResult). VerdictFits r.answer × (r.sweeps < 4294967296)) c.admit.ensures.0
    (verdict_fits a.image.now a.map.now a.table.now, sweeps_fit a.image.now a.map.now a.table.now (λ k. (c.type_inv.image k).fits))

pub returns : goal.returns
returns c =
    let e = c.admit.ensures.0 in
    (c.admit_number.ensures ∙ ap (λ (r : AdmitResult). admit_number r.answer r.sweeps) e, ap (λ (r : AdmitResult). r.table) e)
