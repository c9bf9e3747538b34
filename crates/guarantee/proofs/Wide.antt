-- The table of `Wider`: that of the program of `Witness`, with those facts alone on which its questions rest.
use mathlib.Core.Bool.{true}
use mathlib.Core.List.{List}
use Prim.Native.Nat.{ℕ}
use lib.ListN.{set, replicate}
use Rattle.facts.specs.declared.Cell.{Cell}
use Rattle.facts.specs.Facts.{unknown}
use Rattle.facts.specs.Record.{cell_of, put_cell}
use Rattle.transfer.specs.Passes.{table_length}
use Rattle.guarantee.proofs.Witness.{image}

-- CALL asks AUX, and XEC asks R2: both are 0; words 3 and 4 ask the left address, which is 5
unfoldable pub begins : Cell
begins = cell_of true (set (set (replicate 11 unknown) 0 0) 2 0)

unfoldable pub goes_on : Cell
goes_on = cell_of true (set (set (set (replicate 11 unknown) 0 0) 2 0) 9 5)

unfoldable pub wide : List ℕ
wide =
    put_cell (put_cell (put_cell (put_cell (put_cell (put_cell (replicate (table_length image) 0) 0 begins) 1 goes_on) 2 goes_on) 10 goes_on) 11 goes_on)
    12 goes_on
