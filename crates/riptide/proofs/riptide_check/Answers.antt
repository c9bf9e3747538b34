-- `riptide::riptide_check` meets its contract. Assumes nothing.
use mathlib.Core.Path.{◌∙◌, ap, subst⁻¹}
use Rattle.checking.specs.Check.{CheckResult}
use Rattle.answers.specs.Numbers.{check_number}
use Rattle.answers.specs.Fits.{CheckFits}
use Rattle.answers.proofs.Fits.{check_fits}
use Rattle.riptide.proofs.riptide_check.Goals as goal

pub check_number-requires : goal.check_number-requires
check_number-requires c =
    let a = c.args in
    subst⁻¹ (λ (r : CheckResult). CheckFits r.answer) c.check.ensures (check_fits a.image.now a.map.now a.table.now)

pub returns : goal.returns
returns c = c.check_number.ensures ∙ ap (λ (r : CheckResult). check_number r.answer) c.check.ensures
