-- `cells::store` meets its contract. Assumes nothing.
use mathlib.Core.Path.{◌∙◌, ap}
use lib.ListN.{length}
use Rattle.cells.proofs.Laws.{part_put}
use Rattle.facts.proofs.Mask.{record_length_lem}
use Rattle.facts.specs.Record.{put_record}
use Rattle.cells.proofs.store.Goals as goal

pub returns : goal.returns
returns c =
    let start = c in
    let e = c.record_of.ensures in
    part_put start.args.table.now start.args.i _ _ start.requires.0 (ap length e ∙ record_length_lem start.args.c start.args.finding start.requires.1) c.copy_from_slice.ensures.after
    ∙ ap (put_record start.args.table.now start.args.i) e
