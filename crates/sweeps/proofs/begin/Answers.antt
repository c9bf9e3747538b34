-- `sweeps::begin` meets its contract. Assumes nothing.
use Rattle.sweeps.proofs.Beginning.{begun_still, begun_changed}
use mathlib.Core.Path.{ap}
use mathlib.Core.Bool.{not}
use Rattle.sweeps.proofs.begin.Goals as goal

pub returns-then-not-has : goal.returns-then-not-has
returns-then-not-has c =
    let start = c in
    let a = start.args in
    begun_still a.image.now a.t.i a.t.depth a.t.pc start.requires.1 a.t.c a.marks.now c.take.ensures c.has.ensures (ap not c.if-not-has.true)

pub returns : goal.returns
returns c =
    let start = c in
    let a = start.args in
    begun_changed a.image.now a.t.i a.t.depth a.t.pc start.requires.1 a.t.c a.marks.now c.take.ensures c.has.ensures (ap not c.if-not-has.false)
    c.take-2.ensures c.returns.ensures c.tell.ensures
