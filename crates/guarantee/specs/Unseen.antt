-- "A bank that is not granted is not seen" (2026-08 of document 02): what bytes it has in the recordings makes no difference.
-- Stated once over the bank b, 0 left and 1 right; byte k of a recording is of bank k mod 2.
use Rattle.std.specs.Prelude.{◌≡◌, ◌≢◌, List, [], ◌∷◌, ℕ, ◌%◌, length, get_or}
use Rattle.choice.specs.Choice.{first_no}
use Rattle.map.specs.Map.{NothingReadable}
use Rattle.state.specs.State.{state_length, EachBelow, reset_bytes, reset_state}
use Rattle.emulator.specs.Run.{Ended}
use Rattle.emulator.specs.Run.{pair_length, door_questions, RunResult, run_result}
use Rattle.admission.specs.Admission.{Admitted}
use Rattle.admission.specs.Admission.{admit_result}
use Rattle.guarantee.specs.Demand.{Job}

-- "recordings of one length and equal left bytes", where b is the right bank: they may differ in the bytes of bank b alone
pub record SameBut (b : ℕ) (one other : List ℕ) : Type 0 where
  pub long : length one ≡ length other
  pub equal : (k : ℕ) → k % pair_length ≢ b → get_or one k 0 ≡ get_or other k 0

-- Every program, admitted or not, from every state: two runs over such recordings into one trace yield the same, refused runs
-- included. All that is asked beside is that image, state and one of the recordings are bytes.
abbrev pub RunUnseen : Type 0
RunUnseen =
    (b : ℕ) (image map state one other trace : List ℕ) → NothingReadable map b → SameBut b one other → EachBelow 256 image
    → EachBelow 256 state → EachBelow 256 other → run_result image map state one trace ≡ run_result image map state other trace

-- The runs at one place of two lists: such recordings, and traces of one length, whatever bytes they hold before.
pub record Twins (b : ℕ) : Type 0 where
  pub one : Job
  pub other : Job
  pub recordings : SameBut b one.recording other.recording
  pub traces : length one.trace ≡ length other.trace

-- what a run of a list yields from a state's bytes
abbrev pub job_result : List ℕ → List ℕ → List ℕ → Job → RunResult
job_result image map state job = run_result image map state job.recording job.trace

-- "equal traces, equal answers and equal end states". A run that is refused leaves the trace that it was lent, as demand 3
-- says; so of two such runs the answers and the states are equal.
pub record Alike (one other : RunResult) : Type 0 where
  pub answer : one.answer ≡ other.answer
  pub numbers : one.numbers ≡ other.numbers
  pub state : one.state ≡ other.state
  pub trace : {count stop : ℕ} → one.answer ≡ Ended count stop → one.trace ≡ other.trace

-- Two whole lists, each from a state of its own, run by run: each run gets the state that the one before it in its list left.
pub data Unseen (image map : List ℕ) {b : ℕ} : List ℕ → List ℕ → List (Twins b) → Type 0 where
  no_twins : {state its : List ℕ} → Unseen image map state its []
  next_twins : {state its : List ℕ} {twins : Twins b} {rest : List (Twins b)}
      → Alike (job_result image map state twins.one) (job_result image map its twins.other)
      → Unseen image map (job_result image map state twins.one).state (job_result image map its twins.other).state rest
      → Unseen image map state its (twins ∷ rest)

-- "an admitted program whose right readable set is empty", of bank b: `admit` answers admitted, whatever the lent table held
pub record Ungranted (b : ℕ) (image map table : List ℕ) : Type 0 where
  pub bytes : EachBelow 256 image
  pub admitted : (admit_result image map table).answer ≡ Admitted
  pub nothing : NothingReadable map b

-- The law of lists: such a program, run by `run` in two lists from what `reset` makes of two states, whatever they held.
abbrev pub ListsUnseen : List ℕ → List ℕ → List ℕ → Type 0
ListsUnseen image map table =
    (b : ℕ) → Ungranted b image map table → (given its : List ℕ) → length given ≡ state_length → length its ≡ state_length
    → (list : List (Twins b)) → Unseen image map (reset_state given) (reset_state its) list

-- The request's sentence: two runs "from reset that no door question refuses" yield the same, that is equal answers, equal end
-- states and equal traces.
abbrev pub BankUnseen : List ℕ → List ℕ → List ℕ → Type 0
BankUnseen image map table =
    (b : ℕ) → Ungranted b image map table → (given its : List ℕ) → length given ≡ state_length → length its ≡ state_length
    → (one other : Job) → SameBut b one.recording other.recording
    → first_no (door_questions image map (reset_state given) one.recording one.trace) ≡ 0
    → first_no (door_questions image map (reset_state its) other.recording other.trace) ≡ 0
    → job_result image map (reset_state given) one ≡ job_result image map (reset_state its) other

-- The condition is needed: a program that is admitted, and two runs of it from reset that meet all the rest and leave other
-- traces and other states.
pub record Seen (b : ℕ) : Type 0 where
  pub image : List ℕ
  pub map : List ℕ
  pub lent : List ℕ
  pub twins : Twins b
  pub bytes : EachBelow 256 image
  pub admitted : (admit_result image map lent).answer ≡ Admitted
  pub let_in : first_no (door_questions image map reset_bytes twins.one.recording twins.one.trace) ≡ 0
  pub its_let_in : first_no (door_questions image map reset_bytes twins.other.recording twins.other.trace) ≡ 0
  pub traces : (job_result image map reset_bytes twins.one).trace ≢ (job_result image map reset_bytes twins.other).trace
  pub states : (job_result image map reset_bytes twins.one).state ≢ (job_result image map reset_bytes twins.other).state
