-- What ADD's mask changes in the bytes of a step ("Within one step only OVF can change", 2026-04 of document 02).
use Rattle.std.specs.Prelude.{List, [], ◌∷◌, ◌≡◌, ℕ, ◌+◌, eqb, set}
use Rattle.choice.specs.Choice.{pick, asked}
use Rattle.state.specs.declared.State.{State}
use Rattle.state.specs.State.{overflow_slot, loaded}
use Rattle.machine.specs.Step.{Step}
use Rattle.machine.specs.Overflow.{stepped_whole}
use Rattle.emulator.specs.Run.{Ran, no_step, after, door_questions, RunResult, refused, ended, run_result}

-- "A step by itself is a run of one pair": what it leaves, from the state s, where the step leaves o
abbrev pub ran_step : State → Step → Ran
ran_step s o = pick (eqb s.stop 0) (after o (no_step o.state)) (no_step s)

-- what the run of one pair yields by document 01, which sums the whole register
abbrev pub whole_result : List ℕ → List ℕ → List ℕ → ℕ → ℕ → List ℕ → RunResult
whole_result image map state left right trace =
    asked (door_questions image map state (left ∷ right ∷ []) trace)
    (ended trace (ran_step (loaded state) (stepped_whole image map (left ∷ right ∷ []) (loaded state))))
    (refused state trace)

-- OVF's byte of a state: the first of the eleven values is byte 5
abbrev pub overflow_byte : ℕ
overflow_byte = 5 + overflow_slot

-- what a run yields, where OVF's byte is not looked at
abbrev pub result_but_overflow : RunResult → RunResult
result_but_overflow r =
    record { answer = r.answer; numbers = r.numbers; state = set r.state overflow_byte 0; trace = r.trace }

-- The law: answer, trace and state of every run of one pair, refused ones included, are those of document 01 but for
-- OVF's byte.
abbrev pub OnlyOverflowByte : Type 0
OnlyOverflowByte =
    (image map state trace : List ℕ) (left right : ℕ)
    → result_but_overflow (run_result image map state (left ∷ right ∷ []) trace)
    ≡ result_but_overflow (whole_result image map state left right trace)
