use Prim.Native.Nat.{◌+◌, ◌*◌, ◌-◌, ◌≤◌, ◌<◌}
use lib.ListN.{length}
use Rattle.cases.specs.Cases.{hex_from}
use Rattle.cases.proofs.Laying.{Partly}
use Rattle.cases.proofs.hex.Given as goal

abbrev pub invariant-loop-k : goal.invariant-loop-k
invariant-loop-k l =
    (0 < l.k → l.from + 2 * l.k ≤ length l.s) × Partly l.initial.out l.k (hex_from l.s (l.from + 2 * l.k) (length l.out - l.k)) l.out (hex_from l.s l.from (length l.initial.out))
