-- `cells::load_record` meets its contract. Assumes nothing.
use Rattle.std.proofs.Common.{rules}
use mathlib.Core.Path.{ap, ◌∙◌}
use Prim.Native.Nat.{◌+◌, ◌/◌, ◌%◌, ◌^◌}
use native.Mathlib.Omega.{arith}
use lib.ListN.{get_or}
use lib.Dec.{eqb}
use Rattle.choice.specs.Choice.{pick}
use Rattle.facts.specs.Facts.{unknown}
use Rattle.facts.specs.Record.{fact_at, cell_of, read_cell}
use Rattle.order.proofs.Order.{called_each}
use Rattle.cells.proofs.Laws.{fact_eq, facts_at}
use Rattle.cells.proofs.load_record.Goals as goal

pub returns : goal.returns
unfolding read_cell
returns c =
    let b = c.args.b.now in
    let mask = c.from_le_bytes-mask.result in
    let made = c.from_fn.ensures.items in
    ap (cell_of (eqb (get_or b 0 0) 1))
    (facts_at b c.from_fn.result 0 11 made.long
    (λ k h. fact_eq b k (omega (arith, c.from_le_bytes-mask.ensures))
    (called_each _ c.from_fn.result (λ j. pick (eqb (mask / 2 ^ j % 2) 1) (get_or b (4 + j) 0) unknown) (λ j y q m. search rules) 0 11 k
    made.each (omega arith) h) ∙ ap (fact_at b) {x = k} {y = 0 + k} (omega arith)))
