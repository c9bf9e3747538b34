-- `admission::door` meets its contract. Assumes nothing.
use mathlib.Core.Path.{sym, ◌∙◌}
use native.Mathlib.Omega.{arith}
use Rattle.emulator.proofs.Door.{image_words}
use Rattle.admission.proofs.door.Goals as goal

pub overflow_mul-image : goal.overflow_mul-image
overflow_mul-image c =
    let a = c.args in
    omega (arith, image_words a.image.now (sym c.image_fits.ensures ∙ c.if-not-image_fits.false))
