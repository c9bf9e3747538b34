-- The run ("A run" and "Questions at the door" of document 01).
use Rattle.std.specs.Prelude.{Bool, ◌&&◌, List, [], ◌∷◌, ◌++◌, ℕ, suc, ◌*◌, ◌/◌, ◌%◌, leb, eqb, length, drop, Result, Ok, Err}
use Rattle.choice.specs.Choice.{pick, Question, ask, asked}
use Rattle.map.specs.Map.{map_length}
use Rattle.state.specs.declared.State.{State}
use Rattle.state.specs.State.{state_length, two_bytes, loaded, stored, well_formed}
use Rattle.machine.specs.Step.{Step, stepped}
use Rattle.refusal.specs.declared.Refusal.{Refusal}
use Rattle.refusal.specs.Refusal.{refusal_number}
use Rattle.emulator.specs.declared.RunEnd.{RunEnd}

-- "A recording is records of 2 bytes, left then right, one for each step."
abbrev pub pair_length : ℕ
pair_length = 2

abbrev pub pair_count : List ℕ → ℕ
pair_count recording = length recording / pair_length

-- "Each trace record grows to 8 bytes" (2026-03 of document 02)
abbrev pub record_length : ℕ
record_length = 8

-- "the old four, then PC before the step and the fetch address, each two bytes, low byte first"
abbrev pub record_of : Step → List ℕ
record_of o = o.event ++ (two_bytes o.pc ++ two_bytes o.fetch)

-- A run's last state, the count of its steps, and their trace records one after another.
pub record Ran : Type 0 where
  pub state : State
  pub count : ℕ
  pub trace : List ℕ

-- no step
abbrev pub no_step : State → Ran
no_step s = record { state = s; count = 0; trace = [] }

-- one step, and what follows it
abbrev pub after : Step → Ran → Ran
after o r = record { state = r.state; count = suc r.count; trace = record_of o ++ r.trace }

-- A step for each pair, until the machine stops. "A stopped machine stays so": it executes nothing. "The stopping step
-- has its record".
unfoldable pub ran_over : List ℕ → List ℕ → List ℕ → State → Ran
ran_over image map [] s = no_step s
ran_over image map (left ∷ []) s = no_step s
ran_over image map (left ∷ right ∷ rest) s =
    pick (eqb s.stop 0)
    (after (stepped image map (left ∷ right ∷ []) s) (ran_over image map rest (stepped image map (left ∷ right ∷ []) s).state))
    (no_step s)

-- "later trace bytes are untouched"
abbrev pub written_over : List ℕ → List ℕ → List ℕ
written_over records trace = records ++ drop (length records) trace

-- "Image length even, 2 to 16,384 bytes? 11"
unfoldable pub image_fits : List ℕ → Bool
image_fits image = eqb (length image % 2) 0 && (leb 2 (length image) && leb (length image) 16384)

-- "State 36 bytes and well formed? 14"
unfoldable pub state_fits : List ℕ → Bool
state_fits state = eqb (length state) state_length && well_formed (loaded state)

-- "Recording length even? 15"
abbrev pub recording_fits : List ℕ → Bool
recording_fits recording = eqb (length recording % pair_length) 0

-- "Question 16 now wants a trace of four times the recording's length": a record for each pair
abbrev pub trace_fits : List ℕ → List ℕ → Bool
trace_fits recording trace = eqb (length trace) (pair_count recording * record_length)

-- "A run puts 11, 12, 14, 15, 16"
abbrev pub door_questions : List ℕ → List ℕ → List ℕ → List ℕ → List ℕ → List Question
door_questions image map state recording trace =
    ask 11 (image_fits image) ∷ ask 12 (eqb (length map) map_length) ∷ ask 14 (state_fits state) ∷
    ask 15 (recording_fits recording) ∷ ask 16 (trace_fits recording trace) ∷ []

-- What a run answers: a refusal at the door, or the count of records and the stop number or 0.
pub data RunAnswer : Type 0 where
  Refused : ℕ → RunAnswer
  Ended : ℕ → ℕ → RunAnswer

-- what the code answers
abbrev pub run_told : Result RunEnd Refusal → RunAnswer
run_told (Ok end) = Ended end.count end.stop
run_told (Err refusal) = Refused (refusal_number refusal)

-- The paper's numbers for each case: the refusal; the count of records and the stop number or 0.
abbrev pub answer_numbers : RunAnswer → List ℕ
answer_numbers (Refused number) = number ∷ []
answer_numbers (Ended count stop) = count ∷ stop ∷ []

-- What a run yields: its answer, the same in the paper's numbers, and the bytes of the state and the trace afterwards.
pub record RunResult : Type 0 where
  pub answer : RunAnswer
  pub numbers : List ℕ
  pub state : List ℕ
  pub trace : List ℕ

abbrev pub yielded : RunAnswer → List ℕ → List ℕ → RunResult
yielded answer state trace = record { answer = answer; numbers = answer_numbers answer; state = state; trace = trace }

-- "A no changes no lent byte."
abbrev pub refused : List ℕ → List ℕ → ℕ → RunResult
refused state trace number = record { answer = Refused number; numbers = number ∷ []; state = state; trace = trace }

-- "The answer is the count of records and the stop number or 0."
abbrev pub ended : List ℕ → Ran → RunResult
ended trace r =
    record {
      answer = Ended r.count r.state.stop;
      numbers = r.count ∷ r.state.stop ∷ [];
      state = stored r.state;
      trace = written_over r.trace trace;
    }

-- The run of an image under a map, from a state's bytes, over a recording, into a trace.
unfoldable pub run_result : List ℕ → List ℕ → List ℕ → List ℕ → List ℕ → RunResult
run_result image map state recording trace =
    asked (door_questions image map state recording trace) (ended trace (ran_over image map recording (loaded state))) (refused state trace)
