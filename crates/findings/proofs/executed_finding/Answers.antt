-- `findings::executed_finding` meets its contract. Assumes nothing.
use mathlib.Core.Path.{subst}
use Rattle.processor.specs.Fetching.{Fetches}
use Rattle.machine.proofs.Fetching.{no_shape}
use Rattle.findings.proofs.Passing.{executed_invalid}
use Rattle.findings.proofs.executed_finding.Goals as goal

pub returns-in_default : goal.returns-in_default
returns-in_default c = λ table e.
    let a = c.args in
    let none = subst (Fetches c.word_at.result) c.in_default.is c.fetched_of.ensures in
    executed_invalid a.q.now.image.now a.q.now.map.now table a.q.now.facts a.q.now.depth a.q.now.pc a.a c.if-q-a.false (no_shape a.q.now.image.now a.a c.word_at.ensures.0 none)
