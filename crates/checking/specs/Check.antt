-- A table that came along (2026-09 of document 02): when it is accepted with an image and a map, and which cell fails.
use Rattle.std.specs.Prelude.{◌≡◌, Bool, true, List, [], ◌∷◌, ℕ, ◌*◌, ◌/◌, ◌%◌, ◌<◌, ltb, eqb, length, take, drop, Option, Some, None, Result, Ok, Err}
use Rattle.choice.specs.Choice.{pick, asked}
use Rattle.map.specs.Map.{map_length}
use Rattle.machine.specs.Step.{word_count}
use Rattle.emulator.specs.Run.{image_fits}
use Rattle.flow.specs.Flow.{all_covered, Closed}
use Rattle.facts.specs.Record.{record_size, depths, reset_cell, holds_cell, cell_at}
use Rattle.records.specs.Records.{record_fits}
use Rattle.transfer.specs.Passes.{passes_from, table_space, table_length}
use Rattle.transfer.specs.Findings.{finding_at, first_of, NoFinding}
use Rattle.admission.specs.Admission.{admit_questions}
use Rattle.refusal.specs.declared.Refusal.{Refusal}
use Rattle.refusal.specs.Refusal.{refusal_number}
use Rattle.findings.specs.declared.Failure.{Failure}
use Rattle.findings.specs.Findings.{fault_number}

-- What a check answers: a refusal at the door; accepted; or what the first cell that fails fails with.
pub data CheckAnswer : Type 0 where
  Refused : ℕ → CheckAnswer
  Accepted : CheckAnswer
  Failed : ℕ → ℕ → ℕ → CheckAnswer

-- what the code answers past the door, and in all
abbrev pub judged_as : Option Failure → CheckAnswer
judged_as None = Accepted
judged_as (Some failure) = Failed (fault_number failure.fault) failure.depth failure.address

abbrev pub check_told : Result (Option Failure) Refusal → CheckAnswer
check_told (Ok failure) = judged_as failure
check_told (Err refusal) = Refused (refusal_number refusal)

-- "Every record has the layout of document 01 with byte 1 zero and OVF unknown, 0 or 1, else 42"
abbrev pub layout_at : List ℕ → ℕ → ℕ
layout_at table i = pick (record_fits (take record_size (drop (record_size * i) table))) 0 42

-- "Cell (0, 0) is reached with at most the reset facts"
abbrev pub start_held : List ℕ → Bool
start_held table = holds_cell (cell_at table 0) reset_cell

-- "Each reached cell, in table order, has no finding, else its number, and every next cell is reached and knows no more than is
-- passed on, else 43". A cell that is not reached has no finding and passes nothing on.
unfoldable pub fault_at : List ℕ → List ℕ → List ℕ → ℕ → ℕ
fault_at image map table i =
    pick (eqb (finding_at image map table i) 0) (pick (all_covered (table_space image) table (passes_from image table i)) 0 43)
    (finding_at image map table i)

-- The cells in table order: the first that has a number fails with it; where none has, what is asked next.
abbrev pub fails_at : List ℕ → (ℕ → ℕ) → CheckAnswer → ℕ → CheckAnswer
fails_at image number next i =
    pick (ltb i (depths * word_count image)) (Failed (number i) (i / word_count image) (i % word_count image)) next

abbrev pub in_order : List ℕ → (ℕ → ℕ) → CheckAnswer → CheckAnswer
in_order image number next = fails_at image number next (first_of number 0 (depths * word_count image))

unfoldable pub judged : List ℕ → List ℕ → List ℕ → CheckAnswer
judged image map table =
    in_order image (layout_at table)
    (pick (start_held table) (in_order image (fault_at image map table) Accepted) (Failed 43 0 0))

-- The numbers for each case: the refusal, 0 for accepted, or the number that a cell fails with; and that cell's depth and
-- address, 0 and 0 for the others.
abbrev pub check_numbers : CheckAnswer → List ℕ
check_numbers (Refused number) = number ∷ 0 ∷ 0 ∷ []
check_numbers Accepted = 0 ∷ 0 ∷ 0 ∷ []
check_numbers (Failed number depth address) = number ∷ depth ∷ address ∷ []

pub record CheckResult : Type 0 where
  pub answer : CheckAnswer
  pub numbers : List ℕ

abbrev pub answering : CheckAnswer → CheckResult
answering answer = record { answer = answer; numbers = check_numbers answer }

-- "in this order after questions 11, 12 and 13", which are those of admission
unfoldable pub check_result : List ℕ → List ℕ → List ℕ → CheckResult
check_result image map table =
    asked (admit_questions image map table) (answering (judged image map table)) (λ number. answering (Refused number))

-- "accepts exactly when these hold": the door questions; each record's layout; the table is closed, which is cell (0, 0) with
-- at most the reset facts and every next cell reached and knowing no more than is passed on; no cell has a finding.
pub record Acceptable (image map table : List ℕ) : Type 0 where
  pub fits : image_fits image ≡ true
  pub long : length map ≡ map_length
  pub room : length table ≡ table_length image
  pub laid : (i : ℕ) → i < depths * word_count image → record_fits (take record_size (drop (record_size * i) table)) ≡ true
  pub closed : Closed (table_space image) reset_cell table
  pub clear : NoFinding image map table
