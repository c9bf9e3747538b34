-- `passing::join_at` meets its contract. Assumes nothing.
use Rattle.callers.proofs.Points.{point_inside}
use Rattle.passing.proofs.Joining.{joined_held, joined_same, joined_noted}
use mathlib.Core.Path.{ap}
use mathlib.Core.Bool.{not}
use Rattle.passing.proofs.join_at.Goals as goal

pub join_into-requires : goal.join_into-requires
join_into-requires c =
    let start = c in (
      record {
        cells = _;
        layout = start.requires.0.layout;
        inside = point_inside _ start.args.depth start.args.a start.requires.3.inside start.requires.2;
      },
      start.requires.4,
    )

pub returns-then-not-join_into : goal.returns-then-not-join_into
returns-then-not-join_into c =
    let start = c in
    let a = start.args in
    let done = c.join_into.ensures in
    joined_same a.image.now (λ k. (c.type_inv.image k).fits) a.table.now a.marks.now a.depth a.a a.d start.requires.0 start.requires.1 start.requires.2 start.requires.3.inside start.requires.4
    done.0 done.1 (ap not c.if-not-join_into.true)

pub note-requires : goal.note-requires
note-requires c =
    let start = c in
    let a = start.args in (
      joined_held a.image.now (λ k. (c.type_inv.image k).fits) a.table.now a.marks.now a.depth a.a a.d start.requires.0 start.requires.1 start.requires.2 start.requires.3.inside start.requires.4
          c.join_into.ensures.0,
      start.requires.1.long,
      start.requires.2,
      start.requires.3.inside,
    )

pub returns : goal.returns
returns c =
    let start = c in
    let a = start.args in
    let done = c.join_into.ensures in
    joined_noted a.image.now (λ k. (c.type_inv.image k).fits) a.table.now a.marks.now a.depth a.a a.d start.requires.0 start.requires.1 start.requires.2 start.requires.3.inside start.requires.4
    done.0 done.1 (ap not c.if-not-join_into.false) c.note.ensures
