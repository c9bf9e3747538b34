-- What the numbers that C and Rust see say: which finding is named, how many sweeps were made, and demand 3 from the moment
-- when the number of riptide_admit or of riptide_check is 0.
use Rattle.std.specs.Prelude.{◌≡◌, List, [], ◌∷◌, ℕ, ◌*◌, ◌^◌, ◌≤◌, ◌<◌, length}
use Rattle.state.specs.State.{EachBelow, state_length, reset_number_of, reset_state}
use Rattle.machine.specs.Step.{word_count}
use Rattle.emulator.specs.Run.{pair_count, run_result}
use Rattle.admission.specs.Admission.{admit_result}
use Rattle.admission.specs.Lowest.{finding_in, Lowest}
use Rattle.checking.specs.Check.{check_result}
use Rattle.foretell.specs.Foretell.{foretold}
use Rattle.guarantee.specs.Demand.{Job, Fault, Flawless}
use Rattle.numbers.specs.Words.{bits_from, number_in}
use Rattle.answers.specs.Numbers.{verdict_number, admit_number, check_number, foretell_number, run_number, sweeps_in}

-- What riptide_admit, riptide_check, riptide_foretell and riptide_run give: their contracts equate their results with these.
abbrev pub admit_gives : List ℕ → List ℕ → List ℕ → ℕ
admit_gives image map table = admit_number (admit_result image map table).answer (admit_result image map table).sweeps

abbrev pub check_gives : List ℕ → List ℕ → List ℕ → ℕ
check_gives image map table = check_number (check_result image map table).answer

abbrev pub foretell_gives : List ℕ → ℕ
foretell_gives image = foretell_number (foretold image)

abbrev pub run_gives : List ℕ → List ℕ → List ℕ → Job → ℕ
run_gives image map state job = run_number (run_result image map state job.recording job.trace).answer

-- Which finding riptide_admit names (request 2026-02 of document 02). Where its number is a finding, RIPTIDE_NUMBER stands in
-- the table at RIPTIDE_DEPTH and RIPTIDE_ADDRESS, and no cell of lower depth, nor of the same depth and lower address, has
-- a finding.
abbrev pub NumberNames : List ℕ → List ℕ → List ℕ → Type 0
NumberNames image map table =
    EachBelow 256 image → 21 ≤ number_in (admit_gives image map table)
    → Lowest (word_count image) (finding_in image (admit_result image map table).table) (number_in (admit_gives image map table))
    (bits_from 8 8 (admit_gives image map table)) (bits_from 16 16 (admit_gives image map table))

-- The sweeps (request 2026-07 of document 02): the low 32 bits of riptide_admit's number tell the answer alone, as they did
-- before; RIPTIDE_SWEEPS is admission's count; and it is at most RIPTIDE_SWEEP_BOUND of riptide_foretell's number.
pub record CountTold (image map table : List ℕ) : Type 0 where
  pub low : bits_from 0 32 (admit_gives image map table) ≡ verdict_number (admit_result image map table).answer
  pub above : sweeps_in (admit_gives image map table) ≡ (admit_result image map table).sweeps
  pub bounded : sweeps_in (admit_gives image map table) ≤ bits_from 32 32 (foretell_gives image)

abbrev pub NumberCounts : List ℕ → List ℕ → List ℕ → Type 0
NumberCounts image map table = EachBelow 256 image → CountTold image map table

-- Recordings of fewer than 2^56 pairs, whose count fits its place; no memory holds a longer one.
pub data Countable : List Job → Type 0 where
  no_job : Countable []
  few_pairs : {job : Job} {jobs : List Job} → pair_count job.recording < 2 ^ 56 → Countable jobs → Countable (job ∷ jobs)

-- Calls of riptide_run one after another, each on the state that the one before left. Each gives the number of its pairs
-- times 256, so RIPTIDE_COUNT is that number and RIPTIDE_NUMBER 0; or it gives 15 or 16 for a fault of its own recording
-- or trace, and leaves state and trace as they were.
pub data Calls (image map : List ℕ) : List ℕ → List Job → Type 0 where
  no_more : {state : List ℕ} → Calls image map state []
  gave_pairs : {state : List ℕ} {job : Job} {jobs : List Job} → run_gives image map state job ≡ pair_count job.recording * 256
      → Calls image map (run_result image map state job.recording job.trace).state jobs → Calls image map state (job ∷ jobs)
  gave_refusal : {state : List ℕ} {job : Job} {jobs : List Job} {number : ℕ} → Fault job number → run_gives image map state job ≡ number
      → (run_result image map state job.recording job.trace).state ≡ state
      → (run_result image map state job.recording job.trace).trace ≡ job.trace
      → Calls image map (run_result image map state job.recording job.trace).state jobs → Calls image map state (job ∷ jobs)

-- What a host has from then on: riptide_reset gives 0 for a state of 36 bytes, and from the bytes that it leaves every list of runs
-- is flawless, in the sense of demand 3, within the facts of a table, and gives those numbers.
pub record RunsFrom (image map table state : List ℕ) : Type 0 where
  pub reset : reset_number_of state ≡ 0
  pub runs : (jobs : List Job) → Countable jobs
      → Flawless image map table (reset_state state) jobs × Calls image map (reset_state state) jobs

-- After riptide_admit gave the number 0 (RIPTIDE_NUMBER says it), with the table as it leaves it.
abbrev pub AdmittedCalls : List ℕ → List ℕ → List ℕ → List ℕ → Type 0
AdmittedCalls image map table state =
    EachBelow 256 image → number_in (admit_gives image map table) ≡ 0 → length state ≡ state_length
    → RunsFrom image map (admit_result image map table).table state

-- After riptide_check gave the number 0, with the table that came along (request 2026-09 of document 02).
abbrev pub AcceptedCalls : List ℕ → List ℕ → List ℕ → List ℕ → Type 0
AcceptedCalls image map table state =
    EachBelow 256 image → number_in (check_gives image map table) ≡ 0 → length state ≡ state_length → RunsFrom image map table state

-- And riptide_check gives 0 for the table that riptide_admit filled where its number was 0.
abbrev pub AdmittedChecks : List ℕ → List ℕ → List ℕ → Type 0
AdmittedChecks image map table =
    EachBelow 256 image → number_in (admit_gives image map table) ≡ 0 → check_gives image map (admit_result image map table).table ≡ 0
