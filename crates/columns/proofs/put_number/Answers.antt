-- `columns::put_number` meets its contract. Assumes nothing.
use Rattle.text.proofs.Writing.{behind}
use Rattle.columns.proofs.put_number.Goals as goal

pub returns : goal.returns
returns c = behind c.put-b.ensures c.put_octal.ensures
