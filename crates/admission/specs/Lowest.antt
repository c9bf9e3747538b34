-- Which finding a refused admission names (request 2026-02 of document 02), told of the table's bytes afterwards and apart
-- from how `verdict_of` finds it.
use Rattle.std.specs.Prelude.{◌≡◌, ◌≢◌, List, ℕ, ◌+◌, ◌*◌, ◌<◌, get_or}
use Rattle.choice.specs.Choice.{first_no}
use Rattle.state.specs.State.{EachBelow}
use Rattle.machine.specs.Step.{word_count}
use Rattle.facts.specs.Record.{record_size, depths}
use Rattle.transfer.specs.Passes.{point_at}
use Rattle.admission.specs.Admission.{AdmitAnswer}
use Rattle.admission.specs.Admission.{Refused, Admitted, Found}
use Rattle.admission.specs.Admission.{admit_questions, admit_result}

-- The finding that stands in a table at a depth and an address: byte 1 of that cell's record.
abbrev pub finding_in : List ℕ → List ℕ → ℕ → ℕ → ℕ
finding_in image table depth address = get_or table (record_size * point_at (word_count image) depth address + 1) 0

-- No cell has a finding; `finding` gives that of each depth and address.
abbrev pub Clear : ℕ → (ℕ → ℕ → ℕ) → Type 0
Clear words finding = (depth address : ℕ) → depth < depths → address < words → finding depth address ≡ 0

-- "the finding of lowest depth, and among those the one of lowest address": the number stands at the cell, and no cell of
-- lower depth, nor of the same depth and lower address, has a finding.
pub record Lowest (words : ℕ) (finding : ℕ → ℕ → ℕ) (number depth address : ℕ) : Type 0 where
  pub deep : depth < depths
  pub near : address < words
  pub here : finding depth address ≡ number
  pub some : number ≢ 0
  pub shallower : (d a : ℕ) → d < depth → a < words → finding d a ≡ 0
  pub before : (a : ℕ) → a < address → finding depth a ≡ 0

-- What an answer says of the table as it was lent and after, `door` being the number of the first no at the door, or 0.
abbrev pub Says : List ℕ → List ℕ → List ℕ → ℕ → AdmitAnswer → Type 0
Says image table after door (Refused number) = (door ≡ number) × (number ≢ 0) × (after ≡ table)
Says image table after door Admitted = (door ≡ 0) × Clear (word_count image) (finding_in image after)
Says image table after door (Found number depth address) =
    (door ≡ 0) × Lowest (word_count image) (finding_in image after) number depth address

-- what an answer says holds of the bytes that admission leaves
abbrev pub Holds : List ℕ → List ℕ → List ℕ → AdmitAnswer → Type 0
Holds image map table = Says image table (admit_result image map table).table (first_no (admit_questions image map table))

-- "With this no freedom is left in admission's answer": what `admit` answers holds, and nothing else does.
pub record OneAnswer (image map table : List ℕ) : Type 0 where
  pub holds : Holds image map table (admit_result image map table).answer
  pub only : (other : AdmitAnswer) → Holds image map table other → other ≡ (admit_result image map table).answer

abbrev pub NoFreedom : List ℕ → List ℕ → List ℕ → Type 0
NoFreedom image map table = EachBelow 256 image → OneAnswer image map table
