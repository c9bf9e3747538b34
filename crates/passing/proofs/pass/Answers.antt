-- `passing::pass` meets its contract. Assumes nothing.
use mathlib.Core.Path.{subst}
use Rattle.facts.specs.Record.{FineCell}
use Rattle.passing.proofs.Passing.{passed_toward, passed_nowhere}
use Rattle.passing.proofs.Loans.{loans_same}
use Rattle.passing.proofs.pass.Goals as goal

pub returns-clause-passed : goal.returns-clause-passed
returns-clause-passed c =
    let start = c in
    let a = start.args in
    let made = c.cell.ensures in
    let done = rw made.0 at c.hand_on.ensures.handed in
    passed_toward a.t.now.image.now a.t.now.asked.now a.t.now.table.now a.t.now.marks.now a.to.depth a.to.pc a.to.facts start.requires.0 start.requires.1 (subst FineCell made.0 made.1) c.if-t-to.false done.0 done.1 done.2 done.3

pub returns-then-t-to : goal.returns-then-t-to
returns-then-t-to c =
    let a = c.args in
    record { passed = passed_nowhere a.to.facts c.requires.0 c.if-t-to.true; lent = loans_same }
