-- `order::join_facts` meets its contract. Assumes nothing.
use Rattle.std.proofs.Common.{rules, get_or}
use native.Mathlib.Omega.{arith}
use Rattle.facts.specs.Facts.{join_fact}
use Rattle.order.proofs.Order.{join_at, called_each}
use Rattle.order.proofs.join_facts.Goals as goal

pub returns : goal.returns
returns c =
    let made = c.from_fn.ensures.items in
    join_at c.args.f c.args.g c.from_fn.result (omega (arith, c.well_formed.0, c.well_formed.1.0))
    (omega (arith, c.well_formed.0, made.long))
    (λ k h. called_each _ c.from_fn.result (λ j. join_fact (get_or c.args.f j 0) (get_or c.args.g j 0)) (λ j y q m. search rules) 0 11 k made.each
    (omega arith) (omega (arith, c.well_formed.0)))
