-- `riptide::riptide_foretell` meets its contract. Assumes nothing.
use mathlib.Core.Path.{◌∙◌, ap, subst⁻¹}
use Rattle.answers.specs.Numbers.{foretell_number}
use Rattle.answers.specs.Fits.{ForetoldFits}
use Rattle.answers.proofs.Fits.{foretold_fits}
use Rattle.riptide.proofs.riptide_foretell.Goals as goal

pub foretell_number-requires : goal.foretell_number-requires
foretell_number-requires c = subst⁻¹ ForetoldFits c.foretell.ensures.forecast.0 (foretold_fits c.args.image.now).0

pub returns : goal.returns
returns c = c.foretell_number.ensures ∙ ap foretell_number c.foretell.ensures.forecast.0
