-- `records::record_fits` meets its contract. Assumes nothing.
use Rattle.records.proofs.Laws.{fits_reached, fits_zero}
use Rattle.records.proofs.record_fits.Goals as goal

pub returns-then-b-eq1 : goal.returns-then-b-eq1
returns-then-b-eq1 c = fits_reached c.args.b.now c.reached_fits.ensures c.if-b-eq1.true

pub returns-else-b-eq1 : goal.returns-else-b-eq1
returns-else-b-eq1 c = fits_zero c.args.b.now c.all_zero.ensures c.if-b-eq1.false
