-- `walking::pass_place` meets its contract. Assumes nothing.
use Rattle.control.specs.Pages.{page_size}
use Rattle.callers.specs.Callers.{span_is}
use Rattle.walking.proofs.Executing.{not_given, not_inside, executed}
use mathlib.Core.Path.{ap}
use mathlib.Core.Bool.{not}
use Rattle.walking.proofs.pass_place.Goals as goal

pub returns-then-not-gives-clause-passed : goal.returns-then-not-gives-clause-passed
returns-then-not-gives-clause-passed c =
    let start = c in
    let a = start.args in
    not_given a.t.now.image.now a.t.now.asked.now a.p.now.depth a.p.now.pc a.p.now.facts (page_size a.w.page) a.w.i (span_is a.v) a.k c.gives.result c.gives.ensures (ap not c.if-not-gives.true) start.requires.0

pub returns-then-t-a-clause-passed : goal.returns-then-t-a-clause-passed
returns-then-t-a-clause-passed c =
    let start = c in
    let a = start.args in
    not_inside a.t.now.image.now a.t.now.asked.now a.p.now.depth a.p.now.pc a.p.now.facts (page_size a.w.page) a.w.i (span_is a.v) a.k start.requires.4 c.in_page-a.ensures c.if-t-a.true start.requires.0

pub returns-clause-passed : goal.returns-clause-passed
returns-clause-passed c =
    let start = c in
    let a = start.args in
    executed a.t.now.image.now a.t.now.asked.now a.p.now.depth a.p.now.pc a.p.now.facts (page_size a.w.page) a.w.i (span_is a.v) a.k c.gives.result start.requires.4
    c.gives.ensures (ap not c.if-not-gives.false) c.in_page-a.ensures c.if-t-a.false c.form_at.ensures.0 c.pass_word.ensures.passed
