-- A run on its way: what has been run and what is left of the recording make the whole run. Assumes nothing.
use mathlib.Core.List.{List, [], ◌∷◌, ◌++◌, append-nil, append_assoc}
use mathlib.Core.Path.{◌≡◌, refl, sym, ap, ap₂, ◌∙◌, subst}
use Prim.Native.Nat.{ℕ, zero, suc, ◌+◌, ◌-◌, ◌*◌, ◌<◌, ◌≤◌}
use native.Mathlib.Nat.{zero-add, add-zero}
use native.Mathlib.Omega.{arith}
use borrow.Rule.Slice.PartMut.{put_mid}
use borrow.Author.Tests.{eq-eqb, ne_eqb}
use lib.ListN.{length, get_or, take, drop, length-append, take-append-drop}
use lib.Seq.{drop-cons, drop-drop, length-take-le}
use Rattle.state.specs.declared.State.{State}
use Rattle.state.specs.State.{two_bytes, EachBelow}
use Rattle.machine.specs.declared.Sequencer.{Sequencer}
use Rattle.machine.specs.declared.Effect.{Effect}
use Rattle.machine.specs.Parts.{whole, outcome, event_kind, event_bytes, event_stop}
use Rattle.machine.specs.Step.{word_count, Step, step_from, stepped}
use Rattle.machine.proofs.Fetching.{fetch_numbers}
use Rattle.machine.proofs.Keeps.{Sound, SoundOutcome, outcome_of, step_sound}
use Rattle.emulator.specs.Run.{pair_length, pair_count, record_length, record_of, Ran, no_step, after, ran_over, written_over}
use Rattle.emulator.specs.Parts.{half_length, address_bytes, last_state, ran_to, laid_over, Accepted}
use Rattle.emulator.proofs.Written.{room_from, part_written, written, written_take, written_drop, written_length, written_before}

-- ---- the run by its parts

-- a stopped machine executes nothing
pub ran_stopped : (image map recording : List ℕ) (s : State) → (s.stop ≡ 0 → ⊥) → ran_over image map recording s ≡ no_step s
unfolding ran_over
ran_stopped image map [] s h = refl
ran_stopped image map (left ∷ []) s h = refl
ran_stopped image map (left ∷ right ∷ rest) s h = rw (ne_eqb s.stop 0 h)

-- without a pair there is no step
pub ran_none : (image map recording : List ℕ) (s : State) → length recording < pair_length → ran_over image map recording s ≡ no_step s
unfolding ran_over
ran_none image map [] s h = refl
ran_none image map (left ∷ []) s h = refl
ran_none image map (left ∷ right ∷ rest) s h = absurd (omega arith)

pub ran_pair : (image map : List ℕ) (left right : ℕ) (rest : List ℕ) (s : State) → s.stop ≡ 0
    → ran_over image map (left ∷ right ∷ rest) s
    ≡ after (stepped image map (left ∷ right ∷ []) s) (ran_over image map rest (stepped image map (left ∷ right ∷ []) s).state)
unfolding ran_over
ran_pair image map left right rest s h = rw (eq-eqb s.stop 0 h)

-- the pair at a place of a recording
abbrev pub pair_of : List ℕ → ℕ → List ℕ
pair_of recording i = get_or recording (pair_length * i) 0 ∷ get_or recording (pair_length * i + 1) 0 ∷ []

pair_below : (recording : List ℕ) (i : ℕ) → EachBelow 256 recording → EachBelow 256 (pair_of recording i)
pair_below recording i h zero = h (pair_length * i)
pair_below recording i h (suc zero) = h (pair_length * i + 1)
pair_below recording i h (suc (suc k)) = omega arith

pair_at : (recording : List ℕ) (i : ℕ) → i < pair_count recording
    → drop (pair_length * i) recording ≡ pair_of recording i ++ drop (pair_length * (i + 1)) recording
pair_at recording i h =
    drop-cons recording (pair_length * i) 0 (omega arith)
    ∙ ap (λ (l : List ℕ). get_or recording (pair_length * i) 0 ∷ l) (drop-cons recording (suc (pair_length * i)) 0 (omega arith))
    ∙ ap₂ (λ (m n : ℕ). get_or recording (pair_length * i) 0 ∷ get_or recording m 0 ∷ drop n recording) second next
  where
    second : suc (pair_length * i) ≡ pair_length * i + 1
    second = omega arith

    next : suc (suc (pair_length * i)) ≡ pair_length * (i + 1)
    next = omega arith

-- ---- on the way

-- i steps and their trace before a run
abbrev pub further : ℕ → List ℕ → Ran → Ran
further i records r = record { state = r.state; count = i + r.count; trace = records ++ r.trace }

pub further_none : (r : Ran) → further 0 [] r ≡ r
further_none r = ap (λ (n : ℕ). record { state = r.state; count = n; trace = r.trace }) (zero-add r.count)

further_after : (i : ℕ) (records : List ℕ) (o : Step) (r : Ran) → further i records (after o r) ≡ further (i + 1) (records ++ record_of o) r
further_after i records o r =
    ap₂ (λ (n : ℕ) (t : List ℕ). record { state = r.state; count = n; trace = t }) count (sym (append_assoc records (record_of o) r.trace))
  where
    count : i + suc r.count ≡ i + 1 + r.count
    count = omega arith

-- a record has its length
pub record_long : (o : Step) → length o.event ≡ half_length → length (record_of o) ≡ record_length
record_long o h = simp length-append (omega (arith, h))

module _ (image map recording start : List ℕ) (s₀ : State) where
  -- after i pairs: the state, and the trace's bytes that were start
  pub record Going (i : ℕ) (s : State) (trace : List ℕ) : Type 0 where
    pub within : i ≤ pair_count recording
    pub same : length trace ≡ length start
    pub rest : drop (record_length * i) trace ≡ drop (record_length * i) start
    pub sound : Sound s
    pub runs : ran_over image map recording s₀
        ≡ further i (take (record_length * i) trace) (ran_over image map (drop (pair_length * i) recording) s)

  pub begins : Sound s₀ → Going 0 s₀ start
  begins h =
      record {
        within = omega arith;
        same = refl;
        rest = refl;
        sound = h;
        runs = sym (further_none (ran_over image map recording s₀));
      }

  -- a step on the way leaves a sound state, and four bytes tell what its word does
  pub goes_sound : (i : ℕ) (s : State) (trace : List ℕ) (o : Step) → word_count image ≤ 8192 → EachBelow 256 image → EachBelow 256 recording
      → Going i s trace → o ≡ stepped image map (pair_of recording i) s → SoundOutcome (outcome_of o)
  goes_sound i s trace o words bytes pairs g step =
      subst (λ (p : Step). SoundOutcome (outcome_of p)) (sym step) (step_sound image map (pair_of recording i) s words bytes (pair_below recording i pairs) g.sound)

  -- one step
  pub goes_on_lem : (i : ℕ) (s : State) (trace next : List ℕ) (o : Step) → length start ≡ pair_count recording * record_length
      → Going i s trace → i < pair_count recording → s.stop ≡ 0 → o ≡ stepped image map (pair_of recording i) s → SoundOutcome (outcome_of o)
      → next ≡ written (record_length * i) trace (record_of o)
      → Going (i + 1) o.state next
  goes_on_lem i s trace next o room g h running step sound write =
      record {
        within = omega arith;
        same = ap length write ∙ written_length at record_length trace (record_of o) long fits ∙ g.same;
        rest =
            ap₂ drop past write ∙ written_drop at record_length trace (record_of o) long fits
            ∙ sym (drop-drop record_length at trace) ∙ ap (drop record_length) g.rest ∙ drop-drop record_length at start ∙ ap (λ (k : ℕ). drop k start) (sym past);
        sound = sound.state;
        runs =
            g.runs ∙ ap (further i (take at trace)) (ap (λ (l : List ℕ). ran_over image map l s) (pair_at recording i h)
            ∙ ran_pair image map (get_or recording (pair_length * i) 0) (get_or recording (pair_length * i + 1) 0) left s running
            ∙ ap (λ (p : Step). after p (ran_over image map left p.state)) (sym step))
            ∙ further_after i (take at trace) o (ran_over image map left o.state)
            ∙ ap (λ (l : List ℕ). further (i + 1) l (ran_over image map left o.state))
            (sym (ap₂ take past write ∙ written_take at record_length trace (record_of o) long fits));
      }
    where
      at : ℕ
      at = record_length * i

      -- what is left of the recording
      left : List ℕ
      left = drop (pair_length * (i + 1)) recording

      past : record_length * (i + 1) ≡ at + record_length
      past = omega arith

      fits : at + record_length ≤ length trace
      fits = omega (arith, g.same)

      long : length (record_of o) ≡ record_length
      long = record_long o sound.long

  -- where nothing is left to run, the run is done
  pub ends : (i : ℕ) (s : State) (trace : List ℕ) → length start ≡ pair_count recording * record_length → Going i s trace → ran_over image map (drop (pair_length * i) recording) s ≡ no_step s
      → record { state = s; count = i; trace = trace } ≡ laid_over (ran_over image map recording s₀) start
  ends i s trace room g none =
      ap (λ (t : List ℕ). record { state = s; count = i; trace = t }) (sym all)
      ∙ ap (λ (r : Ran). laid_over r start) (sym (g.runs ∙ ap (further i (take at trace)) none ∙ further_still))
    where
      at : ℕ
      at = record_length * i

      further_still : further i (take at trace) (no_step s) ≡ record { state = s; count = i; trace = take at trace }
      further_still =
          ap₂ (λ (n : ℕ) (t : List ℕ). record { state = s; count = n; trace = t }) (add-zero i) (append-nil (take at trace))

      all : written_over (take at trace) start ≡ trace
      all =
          ap (λ (k : ℕ). take at trace ++ drop k start) (length-take-le at trace (omega (arith, g.within, g.same)))
          ∙ ap (λ (l : List ℕ). take at trace ++ l) (sym g.rest) ∙ take-append-drop at trace

-- ---- a step of the code

-- i steps on the way, and another pair
module _ {image map recording start : List ℕ} {s₀ : State} {i : ℕ} {trace : List ℕ} (q : Sequencer) (v l r : List ℕ)
    (door : Accepted image recording start s₀) (g : Going image map recording start s₀ i (whole q v l r) trace) (h : i < pair_count recording) where
  -- the place of the record
  abbrev at : ℕ
  at = record_length * i

  -- the place of the record's second half, the addresses
  abbrev second : ℕ
  second = at + half_length

  fits : at + record_length ≤ length trace
  fits = omega (arith, g.same, door.room)

  -- there is room for the addresses
  pub room_second : half_length ≤ length (take (length trace - second) (drop second trace))
  room_second = room_from second half_length trace (omega (arith, fits))

  -- the trace with the part back in which they were written
  module _ {half : List ℕ} (addresses : half ≡ written_over (address_bytes q) (take (length trace - second) (drop second trace))) where
    abbrev located : List ℕ
    located = put_mid second (length trace - second) trace half

    halfway : located ≡ written second trace (address_bytes q)
    halfway = part_written second trace half (address_bytes q) addresses

    -- there is room for what the word does
    pub room_first : half_length ≤ length (take (length located - at) (drop at located))
    room_first = room_from at half_length located (omega (arith, fits, same))
      where
        same : length located ≡ length trace
        same = ap length halfway ∙ written_length second half_length trace (address_bytes q) refl (omega (arith, fits))

    -- the step
    module _ (e : Effect) (v' l' r' : List ℕ) (bytes : EachBelow 256 image) (pairs : EachBelow 256 recording)
        (step : step_from (whole q v l r) (outcome e v' l' r') ≡ stepped image map (pair_of recording i) (whole q v l r)) where
      abbrev made : Step
      made = step_from (whole q v l r) (outcome e v' l' r')

      sound : SoundOutcome (outcome e v' l' r')
      sound = goes_sound image map recording start s₀ i (whole q v l r) trace made door.words bytes pairs g step

      pub event_fits : event_kind e.event < 256
      event_fits = sound.bytes 0

      -- and the part back in which was written what its word does
      module _ {part : List ℕ} (event : part ≡ written_over (event_bytes e.event) (take (length located - at) (drop at located))) where
        abbrev back : List ℕ
        back = put_mid at (length located - at) located part

        recorded : back ≡ written at trace (record_of made)
        recorded =
            part_written at located part (event_bytes e.event) event ∙ ap (λ (t : List ℕ). written at t (event_bytes e.event)) halfway
            ∙ written_before at half_length trace (event_bytes e.event) (address_bytes q) refl (omega (arith, fits))
            ∙ ap (λ (a : ℕ). written at trace (event_bytes e.event ++ (two_bytes q.pc ++ two_bytes a))) (fetch_numbers q.pending q.pc)

        next : (n : ℕ) → n ≡ event_stop e.event
            → Going image map recording start s₀ (i + 1) (last_state (record { q = e.q; count = i + 1; stop = n }) v' l' r') back
        next n hn =
            subst (λ (s : State). Going image map recording start s₀ (i + 1) s back)
            (sym (ap (λ (m : ℕ). last_state (record { q = e.q; count = i + 1; stop = m }) v' l' r') hn))
            (goes_on_lem image map recording start s₀ i (whole q v l r) trace back made door.room g h refl step sound recorded)

        pub again : event_stop e.event ≡ 0 → Going image map recording start s₀ (i + 1) (whole e.q v' l' r') back
        again running = next 0 (sym running)

        pub as_long : length back ≡ length start
        as_long = (next (event_stop e.event) refl).same

        pub stops : {n : ℕ} → n ≡ event_stop e.event → (n ≡ 0 → ⊥)
            → ran_to (record { q = e.q; count = i + 1; stop = n }) v' l' r' back ≡ laid_over (ran_over image map recording s₀) start
        stops {n} hn stopped =
            ends image map recording start s₀ (i + 1) (last_state (record { q = e.q; count = i + 1; stop = n }) v' l' r') back door.room (next n hn)
            (ran_stopped image map (drop (pair_length * (i + 1)) recording) _ stopped)
