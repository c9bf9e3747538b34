use Rattle.passing.specs.Tables.{SameLoans}
use Rattle.walking.proofs.Returning.{Backing}
use Rattle.walking.proofs.pass_back.Given as goal

abbrev pub invariant-loop-site : goal.invariant-loop-site
invariant-loop-site l =
    Backing l.initial.t.image.now l.initial.t.asked.now l.initial.t.table.now l.initial.t.marks.now l.depth l.facts l.end l.t.table.now l.t.marks.now l.changed
    × SameLoans l.initial.t l.t

abbrev pub decreases-loop-site : goal.decreases-loop-site
decreases-loop-site l = l.end
