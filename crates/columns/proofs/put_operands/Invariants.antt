use mathlib.Core.Path.{◌≡◌}
use mathlib.Core.List.{List, ◌++◌}
use Prim.Native.Nat.{ℕ}
use lib.ListN.{drop}
use Rattle.text.specs.Parts.{Written}
use Rattle.mnemonics.specs.Parts.{operands_in}
use Rattle.columns.specs.Parts.{spaced_text}
use Rattle.columns.proofs.put_operands.Given as goal

abbrev pub invariant-loop-field : goal.invariant-loop-field
invariant-loop-field l =
    (t : List ℕ) × Written l.initial.out l.at t l.out l.b × (t ++ spaced_text (operands_in (drop l.field-index l.field-items)) ≡ spaced_text (operands_in l.field-items))
