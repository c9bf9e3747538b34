-- The numbers of a run's answer: a refusal 11 to 16; a count of at most the pairs, and a stop number 0 or 21 to 27.
-- Assumes nothing.
use mathlib.Core.Bool.{true}
use mathlib.Core.List.{List}
use mathlib.Core.Logic.{◌⊎◌}
use mathlib.Core.Path.{◌≡◌}
use Prim.Native.Nat.{ℕ, ◌≤◌, ◌<◌}
use native.Mathlib.Omega.{arith}
use borrow.Author.Tests.{eqb-true}
use lib.Dec.{eqb}
use lib.ListN.{length}
use Rattle.choice.proofs.Laws.{pick_both, pick_cases, and_first, and_second}
use Rattle.map.specs.Map.{map_length}
use Rattle.state.specs.State.{state_length, EachBelow, loaded, well_formed}
use Rattle.state.proofs.RoundTrip.{loaded_sized}
use Rattle.state.proofs.WellFormed.{well_formed_parts}
use Rattle.machine.proofs.Keeps.{Sound}
use Rattle.emulator.specs.Run.{RunAnswer}
use Rattle.emulator.specs.Run.{Refused, Ended}
use Rattle.emulator.specs.Run.{pair_count, image_fits, state_fits, recording_fits, trace_fits, RunResult, run_result}
use Rattle.emulator.proofs.Door.{image_words}
use Rattle.emulator.proofs.Laws.{count_most, run_sound}

-- a refusal can be told from a stop number
abbrev pub Ranged : ℕ → RunAnswer → Type 0
Ranged pairs (Refused number) = (11 ≤ number) × (number < 17)
Ranged pairs (Ended count stop) = (count ≤ pairs) × ((stop ≡ 0) ⊎ ((21 ≤ stop) × (stop ≤ 27)))

-- a state that question 14 lets in
pub let_in_state : (state : List ℕ) → EachBelow 256 state → state_fits state ≡ true → Sound (loaded state)
unfolding state_fits
let_in_state state bytes h =
    record {
      formed = well_formed_parts (loaded state) (and_second (eqb (length state) state_length) (well_formed (loaded state)) h);
      sized = loaded_sized state (eqb-true (length state) state_length (and_first (eqb (length state) state_length) (well_formed (loaded state)) h)) bytes;
    }

pub answer_ranged : (image map state recording trace : List ℕ) → EachBelow 256 image → EachBelow 256 state → EachBelow 256 recording
    → Ranged (pair_count recording) (run_result image map state recording trace).answer
unfolding run_result
answer_ranged image map state recording trace bytes before pairs =
    pick_cases R (image_fits image)
    (λ words. pick_both R (eqb (length map) map_length)
    (pick_cases R (state_fits state)
    (λ formed. pick_both R (recording_fits recording)
    (pick_both R (trace_fits recording trace) (
      count_most image map recording (loaded state),
      (run_sound image map recording (loaded state) (image_words image words) bytes pairs (let_in_state state before formed)).formed.stop,
    )
    (omega arith, omega arith))
    (omega arith, omega arith))
    (λ _. (omega arith, omega arith)))
    (omega arith, omega arith))
    (λ _. (omega arith, omega arith))
  where
    R : RunResult → Type 0
    R r = Ranged (pair_count recording) r.answer
