use Rattle.machine.specs.Step.{word_count}
use Rattle.passing.specs.Tables.{PassedIn, SameLoans}
use Rattle.passing.proofs.Going.{called_to}
use Rattle.passing.proofs.pass_call.Given as goal

abbrev pub invariant-loop-n : goal.invariant-loop-n
invariant-loop-n l =
    PassedIn l.initial.t l.p.depth (called_to (word_count l.initial.t.image.now) l.p.depth l.p.facts l.i l.v.low l.n) l.t l.changed × SameLoans l.initial.t l.t
