-- `order::holds` meets its contract. Assumes nothing.
use Rattle.order.proofs.Order.{holds_nothing, holds_first, holds_facts}
use Rattle.order.proofs.holds.Goals as goal

pub returns-then-not-d : goal.returns-then-not-d
returns-then-not-d c = holds_nothing c.args.c c.args.d c.if-not-d.true

pub returns-then-not-c : goal.returns-then-not-c
returns-then-not-c c = holds_first c.args.c c.args.d c.if-not-d.false c.if-not-c.true

pub returns : goal.returns
returns c =
    let start = c in
    holds_facts start.args.c start.args.d c.if-not-d.false c.if-not-c.false c.all_know_no_more.ensures
