-- Demand 3, in one piece: a program admitted with a map runs every list of runs from reset without a stop.
use Rattle.std.specs.Prelude.{◌≡◌, true, false, List, [], ◌∷◌, ℕ, length}
use Rattle.choice.specs.Choice.{first_no}
use Rattle.map.specs.Map.{map_length}
use Rattle.state.specs.declared.State.{State}
use Rattle.state.specs.State.{EachBelow, loaded, stored, reset_bytes}
use Rattle.machine.specs.Step.{step_questions, stepped}
use Rattle.emulator.specs.Run.{Refused, Ended}
use Rattle.emulator.specs.Run.{pair_count, image_fits, recording_fits, trace_fits, run_result}
use Rattle.transfer.specs.Findings.{NoFinding}
use Rattle.admission.specs.Admission.{Admitted}
use Rattle.admission.specs.Admission.{admit_result}
use Rattle.guarantee.specs.Safe.{Inside}

-- A run of the list "brings a recording and a trace of its own", of any bytes and any length.
pub record Job : Type 0 where
  pub recording : List ℕ
  pub trace : List ℕ
  pub bytes : EachBelow 256 recording

-- The steps of a run, from a state to its last one. "every other run executes one word per pair": for each pair in turn
-- the state lies within the facts that the table holds at its depth and PC, none of the seven step questions gets a no
-- (no fetch outside the code, no invalid word, no read or data write that the map withholds, no chosen address outside
-- the map, no ninth return address, no return from an empty stack), and the next state is the one of document 01's step
-- with that pair's bytes; after the last step the state lies within the facts as well.
pub data Steps (image map table : List ℕ) : List ℕ → State → State → Type 0 where
  ends : {s : State} → Inside image table s → Steps image map table [] s s
  goes : {left right : ℕ} {rest : List ℕ} {s last : State} → Inside image table s
      → first_no (step_questions image map (left ∷ right ∷ []) s) ≡ 0
      → Steps image map table rest (stepped image map (left ∷ right ∷ []) s).state last
      → Steps image map table (left ∷ right ∷ rest) s last

-- A run that executes: "its answer is the number of its pairs, stop 0", and it leaves its last state.
pub record Executes (image map table state : List ℕ) (job : Job) : Type 0 where
  pub last : State
  pub steps : Steps image map table job.recording (loaded state) last
  pub answer : (run_result image map state job.recording job.trace).answer ≡ Ended (pair_count job.recording) 0
  pub left : (run_result image map state job.recording job.trace).state ≡ stored last

-- A run that is refused at the door: only for its own recording or trace, and "a refused run leaves it as it was".
pub data Fault (job : Job) : ℕ → Type 0 where
  odd : recording_fits job.recording ≡ false → Fault job 15
  short : recording_fits job.recording ≡ true → trace_fits job.recording job.trace ≡ false → Fault job 16

pub record TurnedAway (image map given : List ℕ) (job : Job) : Type 0 where
  pub number : ℕ
  pub fault : Fault job number
  pub answer : (run_result image map given job.recording job.trace).answer ≡ Refused number
  pub state : (run_result image map given job.recording job.trace).state ≡ given
  pub trace : (run_result image map given job.recording job.trace).trace ≡ job.trace

-- A whole list of runs from a state's bytes: "each run gets the state the one before left".
pub data Flawless (image map table : List ℕ) : List ℕ → List Job → Type 0 where
  finished : {state : List ℕ} → Flawless image map table state []
  executes : {state : List ℕ} {job : Job} {jobs : List Job} → Executes image map table state job
      → Flawless image map table (run_result image map state job.recording job.trace).state jobs
      → Flawless image map table state (job ∷ jobs)
  turned_away : {state : List ℕ} {job : Job} {jobs : List Job} → TurnedAway image map state job
      → Flawless image map table (run_result image map state job.recording job.trace).state jobs
      → Flawless image map table state (job ∷ jobs)

-- The demand, for a table: an image that question 11 accepts, a map that question 12 accepts, no finding in the table;
-- then every list of runs, whatever bytes their recordings hold, is flawless from the state that reset makes.
abbrev pub Demand : List ℕ → List ℕ → List ℕ → Type 0
Demand image map table =
    EachBelow 256 image → image_fits image ≡ true → length map ≡ map_length → NoFinding image map table → (jobs : List Job)
    → Flawless image map table reset_bytes jobs

-- The same in the words of the three calls: what `admit` answers admitted, from whatever bytes the table held, runs
-- flawlessly by `run` from what `reset` makes, within the facts of the table as `admit` leaves it.
abbrev pub AdmittedRuns : List ℕ → List ℕ → List ℕ → Type 0
AdmittedRuns image map table =
    EachBelow 256 image → (admit_result image map table).answer ≡ Admitted → (jobs : List Job)
    → Flawless image map (admit_result image map table).table reset_bytes jobs
