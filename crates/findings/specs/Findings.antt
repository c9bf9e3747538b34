-- What a cell fails with, in the paper's numbers, and what a part of the cell questions tells.
use Rattle.std.specs.Prelude.{◌≡◌, List, ◌++◌, ℕ, eqb, Option, Some, None, Result, Ok, Err, ⊤}
use Rattle.choice.specs.Choice.{pick, Question, first_no}
use Rattle.findings.specs.declared.Failure.{Failure}
use Rattle.findings.specs.declared.Fault.{Fault}
use Rattle.findings.specs.declared.Fault.TheVariants.{Stop, Unknown, Executed, Layout, Unheld}
use Rattle.machine.specs.Parts.{stop_number}

-- the number of each (28 and 29 by "Cell questions" of document 01; 42 and 43 of a table that came along, 2026-09 of document 02)
abbrev pub fault_number : Fault → ℕ
fault_number (Stop why) = stop_number why
fault_number Unknown = 28
fault_number Executed = 29
fault_number Layout = 42
fault_number Unheld = 43

-- and of what a cell answers: 0 where it fails with nothing
abbrev pub finding_number : Result ⊤ Fault → ℕ
finding_number (Ok fine) = 0
finding_number (Err fault) = fault_number fault

abbrev pub failing : Option Failure → ℕ
failing None = 0
failing (Some failure) = fault_number failure.fault

-- What a part of the cell questions tells: the number of its first no, or 0, with which the questions after it go on.
abbrev pub Tells : ℕ → List Question → Type 0
Tells number questions = (rest : List Question) → first_no (questions ++ rest) ≡ pick (eqb number 0) (first_no rest) number
