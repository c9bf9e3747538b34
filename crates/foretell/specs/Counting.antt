-- What admission's count says, and how it and the second call agree (request 2026-07 of document 02), told of the tables that
-- sweeps leave, apart from how `sweep_count` counts.
use Rattle.std.specs.Prelude.{◌≡◌, ◌≢◌, List, ℕ, ◌≤◌, ◌<◌, length}
use Rattle.choice.specs.Choice.{first_no}
use Rattle.map.specs.Map.{map_length}
use Rattle.state.specs.State.{EachBelow}
use Rattle.flow.specs.Flow.{sweep, sweeps}
use Rattle.transfer.specs.Passes.{table_space, start_table, least_table, sweeps_of}
use Rattle.admission.specs.Admission.{Refused as NotAdmitted}
use Rattle.admission.specs.Admission.{admit_questions, AdmitResult, admit_result}
use Rattle.foretell.specs.Foretell.{ForetellAnswer}
use Rattle.foretell.specs.Foretell.{Refused, Foretold}
use Rattle.foretell.specs.Foretell.{foretold, bound_of}

-- What admission yields and foretelling answers of an image, a map and a table, `door` being the number of the first no that
-- admission's questions get, or 0.
pub record Agree (image map table : List ℕ) (door : ℕ) (admitted : AdmitResult) (told : ForetellAnswer) : Type 0 where
  -- Past the door, from the reset cell on: each sweep that is counted leaves another table than it found; all of them leave the
  -- least table; and one more leaves it as it is.
  pub changed : door ≡ 0 → (j : ℕ) → j < admitted.sweeps
      → sweep (table_space image) (sweeps (table_space image) j (start_table image)) ≢ sweeps (table_space image) j (start_table image)
  pub filled : door ≡ 0 → sweeps (table_space image) admitted.sweeps (start_table image) ≡ least_table image
  pub still : door ≡ 0 → sweep (table_space image) (least_table image) ≡ least_table image
  -- That count is the image's own: no map changes it, and nothing that the table held.
  pub alike : door ≡ 0 → admitted.sweeps ≡ sweeps_of image
  -- "a door refusal has count 0"
  pub unswept : door ≢ 0 → admitted.sweeps ≡ 0
  -- What is counted is at most what was foretold.
  pub bounded : admitted.sweeps ≤ bound_of told
  -- A table of the length that was foretold is let in, with a map of its length.
  pub let_in : {long most : ℕ} → told ≡ Foretold long most → length table ≡ long → length map ≡ map_length → door ≡ 0
  -- Where foretelling refuses, admission does.
  pub turned_away : told ≡ Refused → admitted.answer ≡ NotAdmitted 11

-- so it is for every image of bytes, every map and every table
abbrev pub CountsForetold : List ℕ → List ℕ → List ℕ → Type 0
CountsForetold image map table =
    EachBelow 256 image → Agree image map table (first_no (admit_questions image map table)) (admit_result image map table) (foretold image)
