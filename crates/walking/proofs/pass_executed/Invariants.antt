use Rattle.machine.specs.Step.{word_count}
use Rattle.transfer.specs.Passes.{all_passes}
use Rattle.control.specs.Pages.{page_size}
use Rattle.callers.specs.Callers.{span_is}
use Rattle.passing.specs.Tables.{PassedIn, SameLoans}
use Rattle.walking.proofs.Executing.{executed_to}
use Rattle.walking.proofs.pass_executed.Given as goal

abbrev pub invariant-loop-k : goal.invariant-loop-k
invariant-loop-k l =
    PassedIn l.initial.t l.p.depth (all_passes (word_count l.initial.t.image.now) l.p.depth l.p.pc l.p.facts (executed_to l.initial.t.image.now l.p.pc (page_size l.w.page) l.w.i (span_is l.v) l.k)) l.t l.changed
    × SameLoans l.initial.t l.t
