-- `sweeps::own_turn` meets its contract. Assumes nothing.
use Rattle.std.proofs.Common.{rules}
use mathlib.Core.List.{[]}
use Rattle.marks.specs.Marks.{own_passes}
use Rattle.passing.proofs.Passing.{passed_as, passed_none, passed_not}
use Rattle.sweeps.proofs.Beginning.{own_unreached, own_told}
use mathlib.Core.Path.{ap}
use mathlib.Core.Bool.{not}
use Rattle.sweeps.proofs.own_turn.Goals as goal

pub returns-then-not-changed : goal.returns-then-not-changed
returns-then-not-changed c =
    let start = c in
    let a = start.args in
    passed_not a.image.now [] a.t.depth a.table.now a.marks.now a.changed (own_passes a.image.now a.t.i a.t.c) (c.if-not-changed.true) start.requires.0

pub returns-then-not-t : goal.returns-then-not-t
returns-then-not-t c =
    let start = c in
    let a = start.args in
    passed_as (own_unreached a.image.now a.t.i a.t.depth a.t.pc start.requires.1 a.t.c c.if-not-t.true a.changed) (passed_none start.requires.0)

pub returns : goal.returns
returns c =
    let start = c in
    let a = start.args in
    let done = passed_as (own_told a.image.now a.t.i a.t.depth a.t.pc start.requires.1 a.t.c a.changed (ap not c.if-not-changed.false) c.if-not-t.false start.requires.3) (rw c.of.ensures at c.pass_words.ensures.passed) in
    let lent = c.pass_words.ensures.lent in
    search rules
