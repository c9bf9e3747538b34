-- What the code of a run yields is the definition's result: one law for each way out. Assumes nothing.
use mathlib.Core.Bool.{Bool, true, false, ◌&&◌}
use mathlib.Core.List.{List}
use mathlib.Core.Path.{◌≡◌, refl, sym, ap, ◌∙◌}
use Prim.Native.Nat.{ℕ, ◌*◌, ◌/◌, ◌%◌, ◌≤◌, ◌<◌}
use native.Mathlib.Omega.{arith}
use borrow.Author.Tests.{leb-true, eq-eqb, ne_eqb, eqb-true, eqb-false}
use lib.Dec.{leb, eqb}
use lib.ListN.{length}
use Rattle.choice.proofs.Laws.{and_first, and_second}
use Rattle.map.specs.Map.{map_length}
use Rattle.state.specs.State.{state_length, EachBelow, loaded, stored, well_formed}
use Rattle.state.proofs.RoundTrip.{load_then_store, loaded_sized}
use Rattle.state.proofs.WellFormed.{well_formed_parts}
use Rattle.machine.specs.Step.{word_count}
use Rattle.emulator.specs.declared.Last.{Last}
use Rattle.emulator.specs.Run.{Refused, Ended}
use Rattle.emulator.specs.Run.{pair_length, pair_count, record_length, Ran, ran_over, image_fits, state_fits, trace_fits, RunResult, yielded, ended, run_result}
use Rattle.emulator.specs.Parts.{last_state, ran_to, laid_over, Accepted}
use Rattle.emulator.proofs.Going.{ran_stopped}

-- ---- the steps

-- what a run that was let in yields, of its last state, count and trace
let_in : Ran → RunResult
let_in r = yielded (Ended r.count r.state.stop) (stored r.state) r.trace

pub finished : (last : Last) (v l r bytes written trace : List ℕ) (ran : Ran) → ran_to last v l r written ≡ laid_over ran trace
    → bytes ≡ stored (last_state last v l r) → yielded (Ended last.count last.stop) bytes written ≡ ended trace ran
unfolding let_in
finished last v l r bytes written trace ran e b =
    ap (λ (x : List ℕ). yielded (Ended last.count last.stop) x written) b ∙ ap let_in e

-- ---- the questions at the door

pub image_words : (image : List ℕ) → image_fits image ≡ true → word_count image ≤ 8192
unfolding image_fits
image_words image h =
    let most = leb-true (length image) 16384
    (and_second (leb 2 (length image)) _ (and_second (eqb (length image % 2) 0) _ h)) in
    omega arith

pub image_some : (image : List ℕ) → image_fits image ≡ true → 0 < word_count image
unfolding image_fits
image_some image h =
    let least = leb-true 2 (length image) (and_first (leb 2 (length image)) _ (and_second (eqb (length image % 2) 0) _ h)) in
    omega arith

-- n bytes are m records
pub exactly : (n m : ℕ) → (eqb (n % record_length) 0 && eqb (n / record_length) m) ≡ eqb n (m * record_length)
exactly n m = go (eqb n (m * record_length)) refl (eqb (n % record_length) 0) refl
  where
    go : (all : Bool) → eqb n (m * record_length) ≡ all → (whole : Bool) → eqb (n % record_length) 0 ≡ whole → (whole && eqb (n / record_length) m) ≡ all
    go true e true h = let same = eqb-true n (m * record_length) e in eq-eqb (n / record_length) m (omega arith)
    go true e false h = let same = eqb-true n (m * record_length) e in absurd (eqb-false (n % record_length) 0 h (omega arith))
    go false e true h =
        let whole = eqb-true (n % record_length) 0 h in
        ne_eqb (n / record_length) m (λ same. eqb-false n (m * record_length) e (omega arith))
    go false e false h = refl

module _ (state : List ℕ) where
  pub wrong_length : (length state ≡ state_length → ⊥) → state_fits state ≡ false
  unfolding state_fits
  wrong_length h = rw (ne_eqb (length state) state_length h)

  module _ (long : length state ≡ state_length) where
    pub not_formed : well_formed (loaded state) ≡ false → state_fits state ≡ false
    unfolding state_fits
    not_formed h = rw (eq-eqb (length state) state_length long, h)

    pub fits : well_formed (loaded state) ≡ true → state_fits state ≡ true
    unfolding state_fits
    fits h = rw (eq-eqb (length state) state_length long, h)

module _ (image map state recording trace : List ℕ) where
  pub refused_11 : image_fits image ≡ false → yielded (Refused 11) state trace ≡ run_result image map state recording trace
  unfolding run_result
  refused_11 h = rw h

  module _ (words : image_fits image ≡ true) where
    pub refused_12 : (length map ≡ map_length → ⊥) → yielded (Refused 12) state trace ≡ run_result image map state recording trace
    unfolding run_result
    refused_12 h = rw (words, ne_eqb (length map) map_length h)

    module _ (long : length map ≡ map_length) where
      pub refused_14 : state_fits state ≡ false → yielded (Refused 14) state trace ≡ run_result image map state recording trace
      unfolding run_result
      refused_14 h = rw (words, eq-eqb (length map) map_length long, h)

      module _ (formed : state_fits state ≡ true) where
        pub refused_15 : (length recording % pair_length ≡ 0 → ⊥)
            → yielded (Refused 15) state trace ≡ run_result image map state recording trace
        unfolding run_result
        refused_15 h = rw (words, eq-eqb (length map) map_length long, formed, ne_eqb (length recording % pair_length) 0 h)

        module _ (even : length recording % pair_length ≡ 0) where
          pub refused_16 : trace_fits recording trace ≡ false
              → yielded (Refused 16) state trace ≡ run_result image map state recording trace
          unfolding run_result
          refused_16 h =
              rw (
                words,
                eq-eqb (length map) map_length long,
                formed,
                eq-eqb (length recording % pair_length) 0 even,
                h,
              )

          module _ (room : trace_fits recording trace ≡ true) where
            pub let_in_lem : (o : RunResult) → o ≡ ended trace (ran_over image map recording (loaded state))
                → o ≡ run_result image map state recording trace
            unfolding run_result
            let_in_lem o h =
                rw (
                  words,
                  eq-eqb (length map) map_length long,
                  formed,
                  eq-eqb (length recording % pair_length) 0 even,
                  room,
                ) h

            -- a state that came in stopped
            pub came_stopped : length state ≡ state_length → EachBelow 256 state → ((loaded state).stop ≡ 0 → ⊥)
                → yielded (Ended 0 (loaded state).stop) state trace ≡ run_result image map state recording trace
            came_stopped full bytes stopped =
                let_in_lem (yielded (Ended 0 (loaded state).stop) state trace)
                (ap (λ (b : List ℕ). yielded (Ended 0 (loaded state).stop) b trace) (sym (load_then_store state full bytes))
                ∙ ap (ended trace) (sym (ran_stopped image map recording (loaded state) stopped)))

-- what the steps need
pub let_in_sound : (image state recording trace : List ℕ) → image_fits image ≡ true
    → length state ≡ state_length → well_formed (loaded state) ≡ true → EachBelow 256 state → trace_fits recording trace ≡ true
    → Accepted image recording trace (loaded state)
let_in_sound image state recording trace words full formed bytes room =
    record {
      words = image_words image words;
      room = eqb-true (length trace) (pair_count recording * record_length) room;
      formed = well_formed_parts (loaded state) formed;
      sized = loaded_sized state full bytes;
    }
