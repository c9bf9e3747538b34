-- Laws of a run: runs chain, what a step keeps a run keeps, a refused run changes nothing, counts and trace lengths.
-- Assumes nothing.
use mathlib.Core.Bool.{true}
use mathlib.Core.List.{List, [], ◌∷◌, ◌++◌, append_assoc}
use mathlib.Core.Path.{◌≡◌, refl, sym, ap, ap₂, ◌∙◌}
use Prim.Native.Nat.{ℕ, zero, suc, ◌+◌, ◌*◌, ◌%◌, ◌<◌, ◌≤◌}
use native.Mathlib.Omega.{arith}
use borrow.Author.Tests.{eqb-true, eqb-false}
use lib.Dec.{eqb}
use lib.ListN.{length, length-append}
use Rattle.choice.specs.Choice.{first_no}
use Rattle.choice.proofs.Laws.{pick_cases, pick_beside, asked_beside}
use Rattle.map.specs.Map.{map_length}
use Rattle.state.specs.declared.State.{State}
use Rattle.state.specs.State.{EachBelow, loaded, stored, well_formed}
use Rattle.state.proofs.Laws.{stored_length}
use Rattle.state.proofs.RoundTrip.{store_then_load}
use Rattle.state.proofs.WellFormed.{formed}
use Rattle.machine.specs.Step.{word_count, Step, stepped}
use Rattle.machine.proofs.Keeps.{Sound, step_sound, step_event_long}
use Rattle.emulator.specs.Run.{pair_length, pair_count, record_length, record_of, Ran, no_step, after, ran_over, image_fits, state_fits, recording_fits, trace_fits, door_questions, RunResult, refused, ended, run_result}
use Rattle.emulator.proofs.Going.{ran_stopped, ran_pair, further, further_none, record_long}
use Rattle.emulator.proofs.Door.{fits}

-- ---- the pairs of a recording, one by one

module _ (image map : List ℕ) (Q : List ℕ → State → Ran → Type 0)
    (none : (recording : List ℕ) (s : State) → length recording < pair_length → Q recording s (no_step s))
    (idle : (recording : List ℕ) (s : State) → (s.stop ≡ 0 → ⊥) → Q recording s (no_step s))
    (one : (left right : ℕ) (rest : List ℕ) (s : State) (r : Ran) → s.stop ≡ 0
    → Q rest (stepped image map (left ∷ right ∷ []) s).state r
    → Q (left ∷ right ∷ rest) s (after (stepped image map (left ∷ right ∷ []) s) r)) where
  -- what holds where there is no step, and is carried on by one step, holds of every run
  pub by_pairs : (recording : List ℕ) (s : State) → Q recording s (ran_over image map recording s)
  unfolding ran_over
  by_pairs [] s = none [] s (omega arith)
  by_pairs (left ∷ []) s = none (left ∷ []) s (omega arith)
  by_pairs (left ∷ right ∷ rest) s =
      pick_cases (Q (left ∷ right ∷ rest) s) (eqb s.stop 0)
      (λ e. one left right rest s _ (eqb-true s.stop 0 e) (by_pairs rest (stepped image map (left ∷ right ∷ []) s).state))
      (λ e. idle (left ∷ right ∷ rest) s (eqb-false s.stop 0 e))

-- ---- counts and trace records

-- a record for each pair: "four times the recording's length"
pub four_times : (recording : List ℕ) → length recording % pair_length ≡ 0 → pair_count recording * record_length ≡ 4 * length recording
four_times recording even = omega arith

module _ (image map : List ℕ) where
  -- a record for each step that is counted
  pub trace_length : (recording : List ℕ) (s : State)
      → length (ran_over image map recording s).trace ≡ record_length * (ran_over image map recording s).count
  trace_length =
      by_pairs image map (λ recording s r. length r.trace ≡ record_length * r.count) (λ recording s h. refl) (λ recording s h. refl)
      (λ left right rest s r h e.
      length-append (record_of (stepped image map (left ∷ right ∷ []) s)) r.trace
      ∙ omega (arith, record_long (stepped image map (left ∷ right ∷ []) s) (step_event_long image map (left ∷ right ∷ []) s)))

  -- at most a step for each pair
  pub count_most : (recording : List ℕ) (s : State) → (ran_over image map recording s).count ≤ pair_count recording
  count_most =
      by_pairs image map (λ recording s r. r.count ≤ pair_count recording) (λ recording s h. omega arith) (λ recording s h. omega arith)
      (λ left right rest s r h e. omega arith)

  -- a run that has not stopped has made a step for each pair
  pub count_all : (recording : List ℕ) (s : State) → (ran_over image map recording s).state.stop ≡ 0
      → (ran_over image map recording s).count ≡ pair_count recording
  count_all =
      by_pairs image map (λ recording s r. r.state.stop ≡ 0 → r.count ≡ pair_count recording) (λ recording s h e. omega arith)
      (λ recording s h e. absurd (h e)) (λ left right rest s r h e z. omega (arith, e z))

-- ---- runs chain

-- a step before a run that goes further
after_further : (o : Step) (n : ℕ) (records : List ℕ) (r : Ran)
    → after o (further n records r) ≡ further (suc n) (record_of o ++ records) r
after_further o n records r =
    ap₂ (λ (k : ℕ) (t : List ℕ). record { state = r.state; count = k; trace = t }) count (sym (append_assoc (record_of o) records r.trace))
  where
    count : suc (n + r.count) ≡ suc n + r.count
    count = omega arith

-- a run over a first part and a rest is the run over the first part, and then over the rest from the state that it left
pub runs_chain : (image map first rest : List ℕ) (s : State) → length first % pair_length ≡ 0
    → ran_over image map (first ++ rest) s
    ≡ further (ran_over image map first s).count (ran_over image map first s).trace (ran_over image map rest (ran_over image map first s).state)
runs_chain image map first rest = by_pairs image map Chains none idle one first
  where
    Chains : List ℕ → State → Ran → Type 0
    Chains part s r =
        length part % pair_length ≡ 0 → ran_over image map (part ++ rest) s ≡ further r.count r.trace (ran_over image map rest r.state)

    none : (part : List ℕ) (s : State) → length part < pair_length → Chains part s (no_step s)
    none [] s h even = sym (further_none (ran_over image map rest s))
    none (left ∷ []) s h even = absurd (omega arith)
    none (left ∷ right ∷ part) s h even = absurd (omega arith)

    idle : (part : List ℕ) (s : State) → (s.stop ≡ 0 → ⊥) → Chains part s (no_step s)
    idle part s h even =
        ran_stopped image map (part ++ rest) s h ∙ sym (further_none (no_step s))
        ∙ ap (further 0 []) (sym (ran_stopped image map rest s h))

    one : (left right : ℕ) (part : List ℕ) (s : State) (r : Ran) → s.stop ≡ 0
        → Chains part (stepped image map (left ∷ right ∷ []) s).state r
        → Chains (left ∷ right ∷ part) s (after (stepped image map (left ∷ right ∷ []) s) r)
    one left right part s r h chain even =
        ran_pair image map left right (part ++ rest) s h
        ∙ ap (after (stepped image map (left ∷ right ∷ []) s)) (chain (omega arith))
        ∙ after_further (stepped image map (left ∷ right ∷ []) s) r.count r.trace (ran_over image map rest r.state)

-- ---- what a step keeps

-- a property that a step of a machine that is not stopped keeps, a run keeps
pub run_keeps : (image map : List ℕ) (P : State → Type 0)
    → ((left right : ℕ) (s : State) → left < 256 → right < 256 → s.stop ≡ 0 → P s → P (stepped image map (left ∷ right ∷ []) s).state)
    → (recording : List ℕ) (s : State) → EachBelow 256 recording → P s → P (ran_over image map recording s).state
run_keeps image map P step =
    by_pairs image map (λ recording s r. EachBelow 256 recording → P s → P r.state) (λ recording s h b p. p) (λ recording s h b p. p)
    (λ left right rest s r h keeps b p. keeps (λ k. b (suc (suc k))) (step left right s (b 0) (b 1) h p))

pub two_below : {left right : ℕ} → left < 256 → right < 256 → EachBelow 256 (left ∷ right ∷ [])
two_below hl hr zero = hl
two_below hl hr (suc zero) = hr
two_below hl hr (suc (suc k)) = omega arith

-- a run leaves a sound state sound
pub run_sound : (image map recording : List ℕ) (s : State) → word_count image ≤ 8192 → EachBelow 256 image → EachBelow 256 recording
    → Sound s → Sound (ran_over image map recording s).state
run_sound image map recording s words bytes =
    run_keeps image map Sound
    (λ left right t hl hr h sound. (step_sound image map (left ∷ right ∷ []) t words bytes (two_below hl hr) sound).state) recording s

-- whose bytes question 14 lets in
pub sound_fits : (s : State) → Sound s → state_fits (stored s) ≡ true
sound_fits s sound =
    fits (stored s) (stored_length s) (ap well_formed (store_then_load s sound.sized) ∙ formed s sound.formed)

-- ---- at the door

module _ (image map state recording trace : List ℕ) where
  -- a refused run answers the first no, and every byte is as it was
  pub refused_run : (first_no (door_questions image map state recording trace) ≡ 0 → ⊥)
      → run_result image map state recording trace ≡ refused state trace (first_no (door_questions image map state recording trace))
  unfolding run_result
  refused_run =
      asked_beside (λ (r : RunResult) (n : ℕ). (n ≡ 0 → ⊥) → r ≡ refused state trace n) (door_questions image map state recording trace)
      {refuse = refused state trace} (λ h. absurd (h refl)) (λ n h. refl)

  -- a run that is let in
  pub let_in_run : first_no (door_questions image map state recording trace) ≡ 0
      → run_result image map state recording trace ≡ ended trace (ran_over image map recording (loaded state))
  unfolding run_result
  let_in_run =
      pick_beside R (image_fits image) (λ _. pick_beside R (eqb (length map) map_length) (λ _. pick_beside R (state_fits state)
      (λ _. pick_beside R (recording_fits recording) (λ _. pick_beside R (trace_fits recording trace)
      (λ _ e. refl) (λ _ e. absurd (omega arith))) (λ _ e. absurd (omega arith))) (λ _ e. absurd (omega arith)))
      (λ _ e. absurd (omega arith))) (λ _ e. absurd (omega arith))
    where
      R : RunResult → ℕ → Type 0
      R r n = n ≡ 0 → r ≡ ended trace (ran_over image map recording (loaded state))
