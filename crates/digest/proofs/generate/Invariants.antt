use Prim.Native.Nat.{◌-◌}
use mathlib.Core.Path.{◌≡◌}
use mathlib.Core.List.{◌++◌}
use lib.ListN.{length, take}
use Rattle.digest.specs.Digest.{generated}
use Rattle.digest.proofs.generate.Given as goal

abbrev pub invariant-loop-byte : goal.invariant-loop-byte
invariant-loop-byte l =
    take l.byte-index l.byte-items ++ generated l.x (length l.byte-items - l.byte-index) ≡ generated l.seed (length l.initial.byte-items)
