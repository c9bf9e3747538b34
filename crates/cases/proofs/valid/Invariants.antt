use Prim.Native.Nat.{◌-◌, ◌≤◌}
use lib.ListN.{length}
use Rattle.cases.specs.Cases.{valid_words}
use Rattle.cases.proofs.Laying.{Partly}
use Rattle.cases.proofs.valid.Given as goal

abbrev pub invariant-loop : goal.invariant-loop
invariant-loop l =
    (l.at ≤ l.room) × (l.room ≤ length l.out)
    × Partly l.initial.out l.at (valid_words (65536 - l.counter) l.x (l.room - l.at)) l.out (valid_words 65536 l.seed l.room)
