use Rattle.flow.specs.Flow.{sum_weights}
use Rattle.transfer.specs.Passes.{table_space}
use Rattle.marks.specs.Marks.{Agenda}
use Rattle.passing.specs.Passing.{Laid}
use Rattle.filling.proofs.Filling.{Way}
use Rattle.filling.proofs.sweep_all.Given as goal

abbrev pub invariant-loop-count : goal.invariant-loop-count
invariant-loop-count l = Laid l.image l.table × Agenda l.image l.table l.marks l.hubs × Way l.image l.count l.table

abbrev pub decreases-loop-count : goal.decreases-loop-count
decreases-loop-count l = sum_weights (table_space l.image) l.table
