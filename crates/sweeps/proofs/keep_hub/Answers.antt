-- `sweeps::keep_hub` meets its contract. Assumes nothing.
use mathlib.Core.Path.{◌∙◌, ap, subst⁻¹}
use native.Mathlib.Omega.{arith}
use Rattle.facts.specs.declared.Cell.{Cell}
use Rattle.facts.specs.Record.{cell_at, join_cell, FineCell}
use Rattle.facts.proofs.Cells.{join_fine}
use Rattle.sweeps.proofs.keep_hub.Goals as goal

pub store-requires-2 : goal.store-requires-2
store-requires-2 c =
    let start = c in
    let a = start.args in
    let read = c.load.ensures in (
      omega (arith, start.requires.1.long, start.requires.2),
      subst⁻¹ FineCell (c.joined-wider.ensures ∙ ap (λ (x : Cell). join_cell x a.c) read)
          (join_fine (cell_at a.hubs.now a.depth) a.c (start.requires.1.fine a.depth start.requires.2) start.requires.4),
    )
