-- Demand 3 for every closed table, and so for the least one.
use mathlib.Core.Path.{◌≡◌, refl, ◌∙◌, ap, subst, subst⁻¹}
use mathlib.Core.Bool.{Bool, true, false, false≢true}
use mathlib.Core.List.{List, [], ◌∷◌}
use Prim.Native.Nat.{ℕ, zero, suc, ◌%◌, ◌<◌}
use native.Mathlib.Omega.{arith}
use lib.ListN.{length, get_or}
use borrow.Author.Tests.{eq-eqb, eqb-true}
use Rattle.choice.specs.Choice.{pick, first_no}
use Rattle.choice.proofs.Laws.{and_both}
use Rattle.map.specs.Map.{map_length}
use Rattle.state.specs.declared.State.{State}
use Rattle.state.specs.State.{EachBelow, state_length, stored, well_formed, zero_state}
use Rattle.state.proofs.Laws.{stored_length}
use Rattle.state.proofs.RoundTrip.{store_then_load, reset_stored}
use Rattle.state.proofs.WellFormed.{formed}
use Rattle.machine.specs.Step.{step_questions, stepped}
use Rattle.machine.proofs.Keeps.{step_formed}
use Rattle.emulator.specs.Run.{Ended}
use Rattle.emulator.specs.Run.{RunResult, pair_count, image_fits, state_fits, recording_fits, trace_fits, ran_over, refused, ended, run_result}
use Rattle.emulator.proofs.Door.{image_some, image_words}
use Rattle.flow.specs.Flow.{Closed}
use Rattle.facts.specs.Record.{reset_cell}
use Rattle.transfer.specs.Passes.{table_space, least_table}
use Rattle.transfer.specs.Findings.{NoFinding}
use Rattle.transfer.proofs.TableLaws.{least_table_lem}
use Rattle.guarantee.specs.Safe.{Safe}
use Rattle.guarantee.specs.Demand.{Job, Steps, ends, goes, Fault, odd, short, Flawless, finished, executes, turned_away, Demand}
use Rattle.guarantee.proofs.StepSafe.{step_safe}
use Rattle.guarantee.proofs.ResetSafe.{reset_safe}

pair_bytes : (left right : ℕ) → left < 256 → right < 256 → (k : ℕ) → get_or (left ∷ right ∷ []) k 0 < 256
pair_bytes left right l r zero = l
pair_bytes left right l r (suc zero) = r
pair_bytes left right l r (suc (suc k)) = omega arith

module _ (image map table : List ℕ) (bytes : EachBelow 256 image) (fits : image_fits image ≡ true) (long : length map ≡ map_length) (closed : Closed (table_space image) reset_cell table) (clean : NoFinding image map table) where
  -- a step with a pair of bytes
  pair_safe : (left right : ℕ) → left < 256 → right < 256 → (s : State) → Safe image table s
      → (first_no (step_questions image map (left ∷ right ∷ []) s) ≡ 0) × Safe image table (stepped image map (left ∷ right ∷ []) s).state
  pair_safe left right l r s safe =
      step_safe image map table closed clean bytes (left ∷ right ∷ [])
      (λ s f z run. step_formed image map (left ∷ right ∷ []) s (image_words image fits) bytes (pair_bytes left right l r) f z)
      s safe

  -- the steps over a recording, and that the run over it takes them all
  record Went (recording : List ℕ) (s : State) : Type 0 where
    last : State
    steps : Steps image map table recording s last
    safe : Safe image table last
    arrives : (ran_over image map recording s).state ≡ last
    counted : (ran_over image map recording s).count ≡ pair_count recording

  fewer : (left right : ℕ) (rest : List ℕ) → recording_fits (left ∷ right ∷ rest) ≡ true → recording_fits rest ≡ true
  fewer left right rest even = let n = eqb-true (length (left ∷ right ∷ rest) % 2) 0 even in eq-eqb (length rest % 2) 0 (omega arith)

  went_on_lem : (left right : ℕ) (rest : List ℕ) (s : State) → Safe image table s → first_no (step_questions image map (left ∷ right ∷ []) s) ≡ 0
      → Went rest (stepped image map (left ∷ right ∷ []) s).state → Went (left ∷ right ∷ rest) s
  unfolding ran_over
  went_on_lem left right rest s safe granted more =
      let go = eq-eqb s.stop 0 safe.running in
      record {
        last = more.last;
        steps = goes safe.inside granted more.steps;
        safe = more.safe;
        arrives = rw go more.arrives;
        counted = rw go (let n = more.counted in omega arith);
      }

  went : (recording : List ℕ) → EachBelow 256 recording → recording_fits recording ≡ true → (s : State) → Safe image table s → Went recording s
  unfolding ran_over
  went [] b even s safe = record { last = s; steps = ends safe.inside; safe = safe; arrives = refl; counted = refl }
  went (left ∷ []) b even s safe = absurd (false≢true even)
  went (left ∷ right ∷ rest) b even s safe =
      let one = pair_safe left right (b 0) (b 1) s safe in
      went_on_lem left right rest s safe one.0
      (went rest (λ k. b (suc (suc k))) (fewer left right rest even) (stepped image map (left ∷ right ∷ []) s).state one.1)

  -- a state that is safe passes the door
  state_fits_lem : (s : State) → Safe image table s → state_fits (stored s) ≡ true
  unfolding state_fits
  state_fits_lem s safe =
      and_both (eq-eqb (length (stored s)) state_length (stored_length s)) (ap well_formed (store_then_load s safe.sized) ∙ formed s safe.formed)

  -- the run past the first three questions
  past_door : (s : State) (job : Job) → Safe image table s → run_result image map (stored s) job.recording job.trace
      ≡ pick (recording_fits job.recording)
      (pick (trace_fits job.recording job.trace) (ended job.trace (ran_over image map job.recording s)) (refused (stored s) job.trace 16))
      (refused (stored s) job.trace 15)
  unfolding run_result
  past_door s job safe = rw (fits, eq-eqb (length map) map_length long, state_fits_lem s safe, store_then_load s safe.sized)

  module _ (job : Job) (jobs : List Job) (s : State) (safe : Safe image table s) where
    run : RunResult
    run = run_result image map (stored s) job.recording job.trace

    away : (number : ℕ) → Fault job number → run ≡ refused (stored s) job.trace number → Flawless image map table (stored s) jobs → Flawless image map table (stored s) (job ∷ jobs)
    unfolding run
    away number fault e rest =
        turned_away {job = job}
        (record { number = number; fault = fault; answer = ap (λ (r : RunResult). r.answer) e; state = ap (λ (r : RunResult). r.state) e; trace = ap (λ (r : RunResult). r.trace) e })
        (subst⁻¹ (λ (b : List ℕ). Flawless image map table b jobs) (ap (λ (r : RunResult). r.state) e) rest)

    done : (all : Went job.recording s) → run ≡ ended job.trace (ran_over image map job.recording s) → Flawless image map table (stored all.last) jobs → Flawless image map table (stored s) (job ∷ jobs)
    unfolding run
    done all e rest =
        let left = ap (λ (r : RunResult). r.state) e ∙ ap stored all.arrives in
        executes {job = job}
        (record {
          last = all.last;
          steps = subst⁻¹ (λ (x : State). Steps image map table job.recording x all.last) (store_then_load s safe.sized) all.steps;
          answer = ap (λ (r : RunResult). r.answer) e ∙ (λ i. Ended (all.counted i) ((ap (λ (x : State). x.stop) all.arrives ∙ all.safe.running) i));
          left = left;
        })
        (subst⁻¹ (λ (b : List ℕ). Flawless image map table b jobs) left rest)

  one_job : (job : Job) (jobs : List Job) → ((s : State) → Safe image table s → Flawless image map table (stored s) jobs)
      → (s : State) → Safe image table s → Flawless image map table (stored s) (job ∷ jobs)
  unfolding run
  one_job job jobs others s safe = go (recording_fits job.recording) refl (trace_fits job.recording job.trace) refl
    where
      go : (a : Bool) → recording_fits job.recording ≡ a → (b : Bool) → trace_fits job.recording job.trace ≡ b → Flawless image map table (stored s) (job ∷ jobs)
      go false ea b eb = away job jobs s safe 15 (odd ea) (past_door s job safe ∙ rw ea) (others s safe)
      go true ea false eb = away job jobs s safe 16 (short ea eb) (past_door s job safe ∙ rw (ea, eb)) (others s safe)
      go true ea true eb =
          let all = went job.recording job.bytes ea s safe in
          done job jobs s safe all (past_door s job safe ∙ rw (ea, eb)) (others all.last all.safe)

  pub flawless_from : (jobs : List Job) (s : State) → Safe image table s → Flawless image map table (stored s) jobs
  flawless_from [] s safe = finished
  flawless_from (job ∷ jobs) s safe = one_job job jobs (flawless_from jobs) s safe

-- ---- the demand for every closed table, and for the least one

pub demand_closed : (image map table : List ℕ) → Closed (table_space image) reset_cell table → Demand image map table
demand_closed image map table closed bytes fits long clean jobs =
    subst (λ (b : List ℕ). Flawless image map table b jobs) reset_stored
    (flawless_from image map table bytes fits long closed clean jobs zero_state (reset_safe image table closed (image_some image fits)))

pub demand_3 : (image map : List ℕ) → Demand image map (least_table image)
demand_3 image map bytes fits long clean jobs =
    demand_closed image map (least_table image) (least_table_lem image bytes (image_some image fits)).closed bytes fits long clean jobs
