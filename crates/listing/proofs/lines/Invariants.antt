use mathlib.Core.Path.{◌≡◌}
use Prim.Native.Nat.{◌*◌}
use lib.ListN.{length, take}
use Rattle.columns.specs.Line.{line_length}
use Rattle.listing.specs.Listing.{lines_below}
use Rattle.listing.proofs.lines.Given as goal

abbrev pub invariant-loop-a : goal.invariant-loop-a
invariant-loop-a l = (take (line_length * l.a) l.page ≡ lines_below l.fn.image l.a) × (length l.page ≡ length l.initial.page)
