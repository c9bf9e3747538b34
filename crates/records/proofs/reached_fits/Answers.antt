-- `records::reached_fits` meets its contract. Assumes nothing.
use mathlib.Core.Path.{refl}
use Rattle.records.specs.Records.{reached_fits}
use Rattle.records.proofs.reached_fits.Goals as goal

pub returns : goal.returns
unfolding reached_fits
returns c = rw (c.mask.ensures, c.values_fit.ensures) refl
