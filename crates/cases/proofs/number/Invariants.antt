use Prim.Native.Nat.{◌<◌}
use mathlib.Core.Path.{◌≡◌}
use lib.ListN.{drop}
use Rattle.cases.specs.Cases.{with_digits, decimal_at}
use Rattle.cases.proofs.number.Given as goal

abbrev pub invariant-loop-byte : goal.invariant-loop-byte
invariant-loop-byte l = (with_digits l.value (drop l.byte-index l.byte-items) ≡ decimal_at l.s l.from) × (l.value < 4294967296)
