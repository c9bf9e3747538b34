-- `walking::pass_returns` meets its contract. Assumes nothing.
use Rattle.forms.specs.Forms.{shape_is}
use Rattle.transfer.specs.Passes.{is_return, some, words_at}
use Rattle.walking.proofs.Returning.{back_at_zero, back_without}
use mathlib.Core.Path.{ap}
use mathlib.Core.Bool.{not}
use Rattle.walking.proofs.pass_returns.Goals as goal

pub returns-then-p-eq0-clause-passed : goal.returns-then-p-eq0-clause-passed
returns-then-p-eq0-clause-passed c =
    let start = c in
    let a = start.args in
    back_at_zero a.t.now.image.now a.t.now.asked.now a.t.now.table.now a.t.now.marks.now a.p.now.depth a.p.now.facts (some is_return (words_at a.t.now.image.now a.p.now.pc a.p.now.facts (shape_is a.form))) c.if-p-eq0.true start.requires.0

pub returns-then-not-performs-clause-passed : goal.returns-then-not-performs-clause-passed
returns-then-not-performs-clause-passed c =
    let start = c in
    let a = start.args in
    back_without a.t.now.image.now a.t.now.asked.now a.t.now.table.now a.t.now.marks.now a.p.now.depth a.p.now.facts (some is_return (words_at a.t.now.image.now a.p.now.pc a.p.now.facts (shape_is a.form))) c.performs.ensures (ap not c.if-not-performs.true) start.requires.0
