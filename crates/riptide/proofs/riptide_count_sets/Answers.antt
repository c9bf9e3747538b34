-- `riptide::riptide_count_sets` meets its contract. Assumes nothing.
use mathlib.Core.Path.{◌∙◌, ap, subst⁻¹}
use Rattle.answers.specs.Numbers.{count_number}
use Rattle.answers.specs.Fits.{CountsFit}
use Rattle.answers.proofs.Fits.{counts_fit}
use Rattle.riptide.proofs.riptide_count_sets.Goals as goal

pub count_number-requires : goal.count_number-requires
count_number-requires c = subst⁻¹ CountsFit c.count.ensures.counts.0 (counts_fit c.args.map.now)

pub returns : goal.returns
returns c = c.count_number.ensures ∙ ap count_number c.count.ensures.counts.0
