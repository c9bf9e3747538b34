-- `report::put_answer` meets its contract: the door refuses nothing, and what is found is small. Assumes nothing.
use mathlib.Core.Path.{refl, ap}
use native.Mathlib.Omega.{arith}
use Rattle.admission.specs.Admission.{admit_told}
use Rattle.text.proofs.Writing.{the_same}
use Rattle.report.proofs.Answers.{part_long, verdict, the_line, never_refused, first_small}
use Rattle.report.proofs.put_answer.Goals as goal

pub slice_bounds-admit-end-2 : goal.slice_bounds-admit-end-2
slice_bounds-admit-end-2 c = part_long c.table_buffer-table.result _ (omega (arith, c.requires.2, c.table_buffer-table.ensures))

pub put_door-requires : goal.put_door-requires
put_door-requires c =
    let image = c.args.image.now in
    let map = c.args.map.now in
    let e = verdict image map c.requires c.told-map c.table_buffer-table.result c.table_buffer-table.ensures c.admit-answered.ensures.0 in
    absurd (never_refused image map e (ap admit_told c.in-Err.is))

pub returns-in-Err : goal.returns-in-Err
returns-in-Err c =
    let image = c.args.image.now in
    let map = c.args.map.now in
    let e = verdict image map c.requires c.told-map c.table_buffer-table.result c.table_buffer-table.ensures c.admit-answered.ensures.0 in
    absurd (never_refused image map e (ap admit_told c.in-Err.is))

pub put_first-requires : goal.put_first-requires
put_first-requires c =
    let image = c.args.image.now in
    let map = c.args.map.now in
    let e = verdict image map c.requires c.told-map c.table_buffer-table.result c.table_buffer-table.ensures c.admit-answered.ensures.0 in
    (c.requires.0, omega arith, first_small image map e c.requires.2 c.in-Ok.first (ap admit_told c.in-Ok.is))

pub returns-in-Ok : goal.returns-in-Ok
returns-in-Ok c =
    let image = c.args.image.now in
    let map = c.args.map.now in
    let e = verdict image map c.requires c.told-map c.table_buffer-table.result c.table_buffer-table.ensures c.admit-answered.ensures.0 in
    let w = c.put_first.ensures in
    (the_same (w.0 image refl) (the_line image map e (ap admit_told c.in-Ok.is)), w.1)
