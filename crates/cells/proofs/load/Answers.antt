-- `cells::load` meets its contract. Assumes nothing.
use mathlib.Core.Path.{ap, ◌∙◌}
use native.Mathlib.Omega.{arith}
use lib.ListN.{get_or}
use Prim.Native.Nat.{◌/◌}
use lib.ListN.{length}
use mathlib.Core.List.{[]}
use Rattle.facts.specs.Record.{read_cell, cell_at}
use Rattle.choice.proofs.Library.{chunk_at}
use Rattle.cells.proofs.load.Goals as goal

pub returns : goal.returns
unfolding cell_at
returns c =
    c.load_record.ensures
    ∙ ap (λ l. read_cell (get_or l c.args.i [])) c.as_chunks.ensures.front
    ∙ ap read_cell (chunk_at 16 (length c.args.table.now / 16) c.args.table.now c.args.i [] (omega (arith, c.requires)))
