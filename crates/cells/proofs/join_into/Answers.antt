-- `cells::join_into` meets its contract. Assumes nothing.
use Rattle.cells.proofs.Joins.{room, joined_fine, already}
use Rattle.cells.proofs.join_into.Goals as goal

pub returns-then-holds : goal.returns-then-holds
returns-then-holds c =
    let start = c in
    already start.args.table.now start.args.i start.requires.0 start.args.d start.requires.1 c.load-c.ensures c.holds.ensures c.if-holds.true

pub store-requires : goal.store-requires
store-requires c =
    let start = c in
    (room start.args.table.now start.args.i start.requires.0, joined_fine start.args.table.now start.args.i start.requires.0 start.args.d start.requires.1 c.load-c.ensures c.joined.ensures)
