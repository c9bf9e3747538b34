-- Admission ("Admission fills the table" and "Questions at the door" of document 01).
use Rattle.std.specs.Prelude.{◌≡◌, true, List, [], ◌∷◌, ℕ, zero, suc, ◌*◌, ◌/◌, ◌%◌, ltb, eqb, length, Option, Some, None, Result, Ok, Err}
use Rattle.choice.specs.Choice.{pick, Question, ask, asked}
use Rattle.map.specs.Map.{map_length}
use Rattle.machine.specs.Step.{word_count}
use Rattle.emulator.specs.Run.{image_fits}
use Rattle.facts.specs.Record.{depths, record_of, cell_at, put_record}
use Rattle.transfer.specs.Passes.{table_length, least_table, sweeps_of}
use Rattle.transfer.specs.Findings.{finding_at, first_finding, NoFinding}
use Rattle.refusal.specs.declared.Refusal.{Refusal}
use Rattle.refusal.specs.Refusal.{refusal_number}
use Rattle.findings.specs.declared.Failure.{Failure}
use Rattle.findings.specs.Findings.{fault_number}

-- "A finding": byte 1 of each record. From cell i on, the records of n cells of a table get their findings.
unfoldable pub with_findings : List ℕ → List ℕ → List ℕ → List ℕ → ℕ → ℕ → List ℕ
with_findings image map table marked i zero = marked
with_findings image map table marked i (suc n) =
    with_findings image map table (put_record marked i (record_of (cell_at table i) (finding_at image map table i))) (suc i) n

-- the table that admission fills: the least table with its findings
unfoldable pub filled_table : List ℕ → List ℕ → List ℕ
filled_table image map = with_findings image map (least_table image) (least_table image) 0 (depths * word_count image)

-- What admission answers: a refusal at the door; admitted; or a finding with its depth and address.
pub data AdmitAnswer : Type 0 where
  Refused : ℕ → AdmitAnswer
  Admitted : AdmitAnswer
  Found : ℕ → ℕ → ℕ → AdmitAnswer

-- what the code answers
abbrev pub admit_told : Result (Option Failure) Refusal → AdmitAnswer
admit_told (Ok None) = Admitted
admit_told (Ok (Some failure)) = Found (fault_number failure.fault) failure.depth failure.address
admit_told (Err refusal) = Refused (refusal_number refusal)

-- what the door answers: 0 where no question gets a no
abbrev pub door_number : {A : Type 0} → Result A Refusal → ℕ
door_number (Ok fine) = 0
door_number (Err refusal) = refusal_number refusal

-- "With no finding the program is admitted; else the answer is one finding with its depth and address": the first in the
-- table's order, as 2026-02 of document 02 asks. Lowest.antt says so of the table's bytes.
abbrev pub verdict_at : List ℕ → List ℕ → List ℕ → ℕ → AdmitAnswer
verdict_at image map table i =
    pick (ltb i (depths * word_count image)) (Found (finding_at image map table i) (i / word_count image) (i % word_count image)) Admitted

unfoldable pub verdict_of : List ℕ → List ℕ → List ℕ → AdmitAnswer
verdict_of image map table = verdict_at image map table (first_finding image map table 0 (depths * word_count image))

-- "Admission puts 11, 12, 13": "Table 144 × N bytes? 13"
abbrev pub admit_questions : List ℕ → List ℕ → List ℕ → List Question
admit_questions image map table =
    ask 11 (image_fits image) ∷ ask 12 (eqb (length map) map_length) ∷ ask 13 (eqb (length table) (table_length image)) ∷ []

-- The paper's numbers for each case: the refusal or the finding, and the finding's depth and address; 0 where admitted.
abbrev pub verdict_numbers : AdmitAnswer → List ℕ
verdict_numbers (Refused number) = number ∷ []
verdict_numbers Admitted = 0 ∷ []
verdict_numbers (Found number depth address) = number ∷ depth ∷ address ∷ []

-- What admission yields: its answer, the same in the paper's numbers, beside it the count of sweeps that changed the table
-- (request 2026-07 of document 02), and the table's bytes afterwards.
pub record AdmitResult : Type 0 where
  pub answer : AdmitAnswer
  pub numbers : List ℕ
  pub sweeps : ℕ
  pub table : List ℕ

abbrev pub resulting : AdmitAnswer → ℕ → List ℕ → AdmitResult
resulting answer sweeps table = record { answer = answer; numbers = verdict_numbers answer; sweeps = sweeps; table = table }

-- The admission of an image under a map, into a table. "A no changes no lent byte"; "a door refusal has count 0".
unfoldable pub admit_result : List ℕ → List ℕ → List ℕ → AdmitResult
admit_result image map table =
    asked (admit_questions image map table) (resulting (verdict_of image map (least_table image)) (sweeps_of image) (filled_table image map))
    (λ number. resulting (Refused number) 0 table)

-- "a program is admitted exactly when the least table of facts shows no finding": what admission asks of an image, a map
-- and a table
pub record Cleared (image map table : List ℕ) : Type 0 where
  pub fits : image_fits image ≡ true
  pub long : length map ≡ map_length
  pub room : length table ≡ table_length image
  pub clear : NoFinding image map (least_table image)
