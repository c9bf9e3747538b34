use Prim.Native.Nat.{◌*◌}
use Rattle.machine.specs.Step.{word_count}
use Rattle.transfer.proofs.First.{NoneBefore}
use Rattle.transfer.specs.Passes.{point_at}
use Rattle.checking.specs.Check.{fault_at}
use Rattle.checking.proofs.settle.Given as goal

-- no cell before fails
abbrev pub invariant-loop-depth : goal.invariant-loop-depth
invariant-loop-depth l = NoneBefore (fault_at l.image l.map l.table) (l.depth * word_count l.image)

abbrev pub invariant-loop-address : goal.invariant-loop-address
invariant-loop-address l = NoneBefore (fault_at l.image l.map l.table) (point_at (word_count l.image) l.depth l.address)
