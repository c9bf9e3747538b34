-- `order::joined` meets its contract. Assumes nothing.
use Rattle.order.proofs.Order.{join_nothing, join_first, join_both}
use Rattle.order.proofs.joined.Goals as goal

pub returns-then-not-d : goal.returns-then-not-d
returns-then-not-d c = join_nothing c.args.c c.args.d c.if-not-d.true

pub returns-then-not-c : goal.returns-then-not-c
returns-then-not-c c = join_first c.args.c c.args.d c.if-not-d.false c.if-not-c.true

pub returns : goal.returns
returns c =
    let start = c in
    join_both start.args.c start.args.d c.if-not-d.false c.if-not-c.false c.join_facts.ensures
