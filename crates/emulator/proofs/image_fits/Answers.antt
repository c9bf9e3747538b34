-- `emulator::image_fits` meets its contract. Assumes nothing.
use mathlib.Core.Path.{refl}
use Rattle.emulator.specs.Run.{image_fits}
use Rattle.emulator.proofs.image_fits.Goals as goal

pub returns : goal.returns
unfolding image_fits
returns c = refl
