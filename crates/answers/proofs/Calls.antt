-- The finding that riptide_admit's number names, the sweeps that it counts, and demand 3 from the moment when it or
-- riptide_check's number is 0. Assumes nothing.
use mathlib.Core.List.{List}
use mathlib.Core.Path.{◌≡◌, sym, ap, ◌∙◌, subst⁻¹}
use Prim.Native.Nat.{ℕ, ◌*◌, ◌^◌, ◌<◌}
use native.Mathlib.Nat.{mod-eq_of_lt}
use native.Mathlib.Omega.{arith}
use lib.ListN.{length}
use Rattle.state.specs.State.{state_length, reset_bytes}
use Rattle.emulator.specs.Run.{pair_count, run_result}
use Rattle.admission.specs.Admission.{admit_result}
use Rattle.admission.proofs.OneAnswer.{found_lowest}
use Rattle.checking.specs.Check.{CheckAnswer}
use Rattle.foretell.proofs.Counting.{counts_foretold}
use Rattle.guarantee.specs.Demand.{Job, Executes, Flawless, finished, executes, turned_away}
use Rattle.guarantee.proofs.ResetSafe.{reset_done}
use Rattle.guarantee.proofs.Admitted.{admitted_demand}
use Rattle.guarantee.proofs.Accepted.{accepted_runs, admitted_accepted}
use Rattle.answers.specs.Numbers.{check_number, run_number}
use Rattle.answers.specs.Calls.{admit_gives, NumberNames, NumberCounts, Countable, no_job, few_pairs, run_gives, Calls, no_more, gave_pairs, gave_refusal, RunsFrom, AdmittedCalls, AcceptedCalls, AdmittedChecks}
use Rattle.answers.proofs.Apart.{found_in, admit_apart, admit_low, admit_keeps, check_low, sweeps_apart, bound_apart}

pub number_names : (image map table : List ℕ) → NumberNames image map table
number_names image map table bytes finding =
    found_lowest image map table bytes (sym (admit_apart image map table) ∙ found_in (admit_gives image map table) finding)

pub number_counts : (image map table : List ℕ) → NumberCounts image map table
number_counts image map table bytes =
    let above = sweeps_apart image map table bytes in
    record {
      low = admit_keeps image map table;
      above = above;
      bounded = omega (arith, above, bound_apart image, (counts_foretold image map table bytes).bounded);
    }

module _ {image map table : List ℕ} where
  gives_pairs : {state : List ℕ} {job : Job} → pair_count job.recording < 2 ^ 56 → Executes image map table state job
      → run_gives image map state job ≡ pair_count job.recording * 256
  gives_pairs {state} {job} few e =
      let kept = mod-eq_of_lt few in ap run_number e.answer ∙ omega arith

  calls : {state : List ℕ} {jobs : List Job} → Countable jobs → Flawless image map table state jobs → Calls image map state jobs
  calls no_job finished = no_more
  calls {state = state} (few_pairs {job = job} {jobs = jobs} few rest) (executes e more) =
      gave_pairs (gives_pairs few e) (calls {state = (run_result image map state job.recording job.trace).state} rest more)
  calls {state = state} (few_pairs {job = job} {jobs = jobs} few rest) (turned_away t more) =
      gave_refusal t.fault (ap run_number t.answer) t.state t.trace (calls rest more)

-- every list of runs that is flawless from reset, from what riptide_reset leaves
runs_from : (image map table state : List ℕ) → length state ≡ state_length → ((jobs : List Job) → Flawless image map table reset_bytes jobs)
    → RunsFrom image map table state
runs_from image map table state long flawless =
    let done = reset_done state long in
    record {
      reset = done.0;
      runs = λ jobs few.
          let all = subst⁻¹ (λ (s : List ℕ). Flawless image map table s jobs) done.1 (flawless jobs) in
          (all, calls few all);
    }

pub admitted_calls : (image map table state : List ℕ) → AdmittedCalls image map table state
admitted_calls image map table state bytes z long =
    runs_from image map (admit_result image map table).table state long (admitted_demand image map table bytes ((admit_low image map table).0 z))

pub accepted_calls : (image map table state : List ℕ) → AcceptedCalls image map table state
accepted_calls image map table state bytes z long =
    runs_from image map table state long (accepted_runs image map table bytes ((check_low image map table).0 z))

pub admitted_checks : (image map table : List ℕ) → AdmittedChecks image map table
admitted_checks image map table bytes z =
    ap (λ (a : CheckAnswer). check_number a) (admitted_accepted image map table bytes ((admit_low image map table).0 z))
