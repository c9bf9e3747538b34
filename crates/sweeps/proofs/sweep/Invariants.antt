use Prim.Native.Nat.{◌-◌, ◌*◌}
use Rattle.machine.specs.Step.{word_count}
use Rattle.facts.specs.Record.{depths}
use Rattle.sweeps.proofs.Rounds.{Round}
use Rattle.sweeps.proofs.sweep.Given as goal

abbrev pub invariant-loop-i : goal.invariant-loop-i
invariant-loop-i l = Round l.image l.initial.table l.i l.table l.marks l.hubs l.changed

abbrev pub decreases-loop-i : goal.decreases-loop-i
decreases-loop-i l = depths * word_count l.image - l.i
