use Rattle.walking.proofs.Returning.{Above}
use Rattle.walking.proofs.asked_below.Given as goal

abbrev pub invariant-loop-b : goal.invariant-loop-b
invariant-loop-b l = Above l.image l.asked l.depth l.a l.b
