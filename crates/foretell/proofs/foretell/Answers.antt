-- `foretell::foretell` meets its contract. Assumes nothing.
use mathlib.Core.Path.{sym, ◌∙◌}
use native.Mathlib.Omega.{arith}
use Rattle.emulator.proofs.Door.{image_words}
use Rattle.foretell.proofs.Door.{refused_11, tells}
use Rattle.foretell.proofs.foretell.Goals as goal

pub returns-then-not-image_fits-clause-forecast : goal.returns-then-not-image_fits-clause-forecast
returns-then-not-image_fits-clause-forecast c = refused_11 c.args.image.now (sym c.image_fits.ensures ∙ c.if-not-image_fits.true)

pub overflow_mul-result : goal.overflow_mul-result
overflow_mul-result c = omega (arith, image_words c.args.image.now (sym c.image_fits.ensures ∙ c.if-not-image_fits.false))

pub overflow_mul-result-2 : goal.overflow_mul-result-2
overflow_mul-result-2 c = omega (arith, image_words c.args.image.now (sym c.image_fits.ensures ∙ c.if-not-image_fits.false))

pub returns-clause-forecast : goal.returns-clause-forecast
returns-clause-forecast c = tells c.args.image.now (sym c.image_fits.ensures ∙ c.if-not-image_fits.false)
