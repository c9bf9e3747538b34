-- `cells::reached` meets its contract. Assumes nothing.
use Rattle.cells.proofs.Laws.{first_byte}
use Rattle.cells.proofs.reached.Goals as goal

pub returns : goal.returns
returns c = first_byte c.args.table.now c.args.i
