use Prim.Native.Nat.{◌*◌}
use Rattle.machine.specs.Step.{word_count}
use Rattle.transfer.specs.Passes.{point_at}
use Rattle.admission.proofs.Marks.{Marks}
use Rattle.admission.proofs.mark.Given as goal

-- the cells before have their findings, and the first that has one is told
abbrev pub invariant-loop-depth : goal.invariant-loop-depth
invariant-loop-depth l = Marks l.image l.map l.fn.table (l.depth * word_count l.image) l.table l.first

abbrev pub invariant-loop-address : goal.invariant-loop-address
invariant-loop-address l = Marks l.image l.map l.fn.table (point_at (word_count l.image) l.depth l.address) l.table l.first
