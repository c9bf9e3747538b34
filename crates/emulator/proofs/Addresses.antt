-- The law of the addresses in a trace. Assumes nothing.
use mathlib.Core.Bool.{true}
use mathlib.Core.List.{List, [], ◌∷◌, ◌++◌, append_assoc}
use mathlib.Core.Path.{◌≡◌, refl, sym, ap, ap₂, subst⁻¹, ◌∙◌}
use Prim.Native.Nat.{ℕ, zero, suc, ◌+◌, ◌*◌, ◌<◌, ◌≤◌}
use native.Mathlib.Omega.{arith}
use borrow.Author.Tests.{eqb-true}
use lib.Dec.{eqb, ltb}
use lib.ListN.{length, get_or, take, drop, get_or-append}
use lib.Seq.{get_or-append-add}
use Rattle.choice.proofs.Laws.{pick_both, pick_cases}
use Rattle.map.specs.Map.{map_length}
use Rattle.state.specs.declared.State.{State}
use Rattle.state.specs.State.{two_bytes, number_at, EachBelow, loaded}
use Rattle.state.proofs.RoundTrip.{two_bytes_lem}
use Rattle.machine.specs.Shape.{Source, Shape, Control, jump, branch, defer, call, return, act, go, invalid}
use Rattle.machine.specs.Step.{word_count, shape_at, value_of, result_of, act_state, go_state, may_read, may_write, may_choose, may_call, may_return, fetch_address, Outcome, word_step, Step, stepped}
use Rattle.machine.proofs.Keeps.{Sound, step_sound, step_event_long}
use Rattle.emulator.specs.Run.{RunAnswer}
use Rattle.emulator.specs.Run.{Ended}
use Rattle.emulator.specs.Run.{pair_length, record_length, record_of, Ran, no_step, after, ran_over, image_fits, state_fits, recording_fits, trace_fits, answer_numbers, RunResult, refused, ended, run_result}
use Rattle.emulator.specs.Parts.{half_length}
use Rattle.emulator.specs.Addresses.{pc_in, fetch_in, state_before, IsXec, Pending, Told, AddressesTold}
use Rattle.emulator.proofs.Going.{ran_none, ran_pair, record_long}
use Rattle.emulator.proofs.Door.{image_words}
use Rattle.emulator.proofs.Laws.{by_pairs, two_below, trace_length}
use Rattle.emulator.proofs.Range.{let_in_state}

-- ---- an XEC pending

-- PC and the fetch address differ only with the flag
apart_flag : (s : State) → (s.pc ≡ fetch_address s → ⊥) → s.flag ≡ 1
apart_flag s apart =
    pick_cases (λ (a : ℕ). (s.pc ≡ a → ⊥) → s.flag ≡ 1) (eqb s.flag 1) (λ e _. eqb-true s.flag 1 e) (λ _ h. absurd (h refl)) apart

-- the flag is left by an XEC alone
abbrev Left : Shape → Outcome → Type 0
Left shape o = o.state.stop ≡ 0 → o.state.flag ≡ 1 → IsXec shape

directed : (source : Source) (control : Control) (x : ℕ) (s : State) → (go_state control x s).flag ≡ 1 → IsXec (go source control)
unfolding go_state
directed source (jump a) x s f = absurd (omega arith)
directed source (branch page i) x s f = absurd (omega arith)
directed source (defer page i) x s f = record { source = source; page = page; offset = i; is = refl }
directed source (call i) x s f = absurd (omega arith)
directed source return x s f = absurd (omega arith)

word_left : (map : List ℕ) (shape : Shape) (bus : List ℕ) (s : State) → Left shape (word_step map shape bus s)
unfolding act_state
word_left map (act source op target) bus s =
    pick_both L (may_read map source s.values)
    (pick_both L (may_write map target s.values)
    (pick_both L (may_choose map target (result_of op (get_or s.values 0 0) (value_of source s.values bus)))
    (λ _ f. absurd (omega arith)) (λ z _. absurd (omega arith))) (λ z _. absurd (omega arith))) (λ z _. absurd (omega arith))
  where
    L : Outcome → Type 0
    L = Left (act source op target)
word_left map (go source control) bus s =
    pick_both L (may_read map source s.values)
    (pick_both L (may_call control s.depth)
    (pick_both L (may_return control s.depth)
    (λ _ f. directed source control (value_of source s.values bus) s f) (λ z _. absurd (omega arith))) (λ z _. absurd (omega arith))) (λ z _. absurd (omega arith))
  where
    L : Outcome → Type 0
    L = Left (go source control)
word_left map invalid bus s = λ z _. absurd (omega arith)

step_left : (image map bus : List ℕ) (s : State) → (stepped image map bus s).state.stop ≡ 0 → (stepped image map bus s).state.flag ≡ 1
    → IsXec (shape_at image (fetch_address s))
unfolding stepped
step_left image map bus s =
    pick_both (Left (shape_at image (fetch_address s))) (ltb (fetch_address s) (word_count image))
    (word_left map (shape_at image (fetch_address s)) bus s) (λ z _. absurd (omega arith))

-- ---- the record's bytes

-- a number past the front of a list
past : (front rest : List ℕ) (n k : ℕ) → length front ≡ n → number_at (front ++ rest) (n + k) ≡ number_at rest k
past front rest n k long = ap₂ (λ (x y : ℕ). x + 256 * y) (byte k) (ap (λ (j : ℕ). get_or (front ++ rest) j 0) next ∙ byte (suc k))
  where
    next : suc (n + k) ≡ n + suc k
    next = omega arith

    byte : (k : ℕ) → get_or (front ++ rest) (n + k) 0 ≡ get_or rest k 0
    byte k = ap (λ (j : ℕ). get_or (front ++ rest) (j + k) 0) (sym long) ∙ get_or-append-add front rest k 0

module _ (o : Step) (rest : List ℕ) (long : length o.event ≡ half_length) where
  abbrev bytes : List ℕ
  bytes = two_bytes o.pc ++ two_bytes o.fetch

  -- the addresses of the first record
  past_event : (k : ℕ) → number_at (record_of o ++ rest) (half_length + k) ≡ number_at (bytes ++ rest) k
  past_event k =
      ap (λ (l : List ℕ). number_at l (half_length + k)) (append_assoc o.event bytes rest)
      ∙ past o.event (bytes ++ rest) half_length k long

  pc_first : o.pc < 65536 → pc_in (record_of o ++ rest) 0 ≡ o.pc
  pc_first h = past_event 0 ∙ two_bytes_lem o.pc h

  fetch_first : o.fetch < 65536 → fetch_in (record_of o ++ rest) 0 ≡ o.fetch
  fetch_first h = past_event 2 ∙ two_bytes_lem o.fetch h

  -- and of the records behind it
  behind : (i k : ℕ) → number_at (record_of o ++ rest) (record_length * suc i + k) ≡ number_at rest (record_length * i + k)
  behind i k =
      ap (number_at (record_of o ++ rest)) place ∙ past (record_of o) rest record_length (record_length * i + k) (record_long o long)
    where
      place : record_length * suc i + k ≡ record_length + (record_length * i + k)
      place = omega arith

-- ---- the run

step_pc : (image map bus : List ℕ) (s : State) → (stepped image map bus s).pc ≡ s.pc
unfolding stepped
step_pc image map bus s = refl

step_fetch : (image map bus : List ℕ) (s : State) → (stepped image map bus s).fetch ≡ fetch_address s
unfolding stepped
step_fetch image map bus s = refl

fetch_fits : (s : State) → Sound s → fetch_address s < 65536
fetch_fits s sound = pick_both (λ (a : ℕ). a < 65536) (eqb s.flag 1) sound.sized.pending sound.sized.pc

module _ (image map : List ℕ) (words : word_count image ≤ 8192) (inside : EachBelow 256 image) where
  -- no step is counted of a stopped machine, and each record tells its addresses
  abbrev Tells : List ℕ → State → Ran → Type 0
  Tells recording s r =
      Sound s → EachBelow 256 recording
      → (0 < r.count → s.stop ≡ 0) × ((i : ℕ) → i < r.count → Told image map recording r.trace s i)

  module _ (left right : ℕ) (rest : List ℕ) (s : State) (r : Ran) (running : s.stop ≡ 0) (sound : Sound s)
      (below : EachBelow 256 (left ∷ right ∷ rest)) where
    abbrev o : Step
    o = stepped image map (left ∷ right ∷ []) s

    long : length o.event ≡ half_length
    long = step_event_long image map (left ∷ right ∷ []) s

    before_first : state_before image map (left ∷ right ∷ rest) s 0 ≡ s
    before_first = ap (λ (x : Ran). x.state) (ran_none image map [] s (omega arith))

    before_later : (i : ℕ) → state_before image map (left ∷ right ∷ rest) s (suc i) ≡ state_before image map rest o.state i
    before_later i =
        ap (λ (k : ℕ). (ran_over image map (take k (left ∷ right ∷ rest)) s).state) next
        ∙ ap (λ (x : Ran). x.state) (ran_pair image map left right (take (pair_length * i) rest) s running)
      where
        next : pair_length * suc i ≡ suc (suc (pair_length * i))
        next = omega arith

    pc_told : pc_in (record_of o ++ r.trace) 0 ≡ s.pc
    pc_told = pc_first o r.trace long (rw (step_pc image map (left ∷ right ∷ []) s) sound.sized.pc) ∙ step_pc image map (left ∷ right ∷ []) s

    fetch_told : fetch_in (record_of o ++ r.trace) 0 ≡ fetch_address s
    fetch_told =
        fetch_first o r.trace long (rw (step_fetch image map (left ∷ right ∷ []) s) (fetch_fits s sound))
        ∙ step_fetch image map (left ∷ right ∷ []) s

    first : Told image map (left ∷ right ∷ rest) (record_of o ++ r.trace) s 0
    first =
        record {
          pc = pc_told ∙ sym (ap (λ (x : State). x.pc) before_first);
          fetch = fetch_told ∙ sym (ap fetch_address before_first);
          differ = λ apart. apart_flag s (λ e. apart (pc_told ∙ e ∙ sym fetch_told));
        }

    -- what was pending for a record of the rest
    still : (i : ℕ) → (o.state.stop ≡ 0) → Pending image o.state r.trace i → Pending image s (record_of o ++ r.trace) (suc i)
    still zero stop flag =
        subst⁻¹ (λ (a : ℕ). IsXec (shape_at image a)) fetch_told (step_left image map (left ∷ right ∷ []) s stop flag)
    still (suc i) stop xec = subst⁻¹ (λ (a : ℕ). IsXec (shape_at image a)) (behind o r.trace long i 6) xec

    later : (i : ℕ) → o.state.stop ≡ 0 → Told image map rest r.trace o.state i
        → Told image map (left ∷ right ∷ rest) (record_of o ++ r.trace) s (suc i)
    later i stop told =
        record {
          pc = behind o r.trace long i 4 ∙ told.pc ∙ sym (ap (λ (x : State). x.pc) (before_later i));
          fetch = behind o r.trace long i 6 ∙ told.fetch ∙ sym (ap fetch_address (before_later i));
          differ =
              λ apart. still i stop (told.differ (λ e. apart (behind o r.trace long i 4 ∙ e ∙ sym (behind o r.trace long i 6))));
        }

  tells : (recording : List ℕ) (s : State) → Tells recording s (ran_over image map recording s)
  tells = by_pairs image map Tells (λ recording s h. nothing) (λ recording s h. nothing) one
    where
      nothing : {recording : List ℕ} {s : State} → Tells recording s (no_step s)
      nothing sound below = (λ z. absurd (omega arith), λ i z. absurd (omega arith))

      one : (left right : ℕ) (rest : List ℕ) (s : State) (r : Ran) → s.stop ≡ 0
          → Tells rest (stepped image map (left ∷ right ∷ []) s).state r
          → Tells (left ∷ right ∷ rest) s (after (stepped image map (left ∷ right ∷ []) s) r)
      one left right rest s r running told sound below = (λ _. running, each)
        where
          sound' : Sound (stepped image map (left ∷ right ∷ []) s).state
          sound' = (step_sound image map (left ∷ right ∷ []) s words inside (two_below (below 0) (below 1)) sound).state

          each : (i : ℕ) → i < suc r.count
              → Told image map (left ∷ right ∷ rest) (record_of (stepped image map (left ∷ right ∷ []) s) ++ r.trace) s i
          each zero h = first left right rest s r running sound below
          each (suc i) h =
              let more = told sound' (λ k. below (suc (suc k))) in
              later left right rest s r running sound below i (more.0 (omega arith)) (more.1 i (omega arith))

-- ---- the bytes that a run leaves

-- records are read as before with bytes behind them
module _ (records rest : List ℕ) (count : ℕ) (long : length records ≡ record_length * count) where
  within : (i k : ℕ) → i < count → k ≤ 6 → number_at (records ++ rest) (record_length * i + k) ≡ number_at records (record_length * i + k)
  within i k h small =
      ap₂ (λ (x y : ℕ). x + 256 * y) (get_or-append records rest 0 (record_length * i + k) (omega (arith, long)))
      (get_or-append records rest 0 (suc (record_length * i + k)) (omega (arith, long)))

  module _ (image map recording : List ℕ) (s : State) where
    pending_within : (i : ℕ) → i < count → Pending image s records i → Pending image s (records ++ rest) i
    pending_within zero h flag = flag
    pending_within (suc i) h xec = subst⁻¹ (λ (a : ℕ). IsXec (shape_at image a)) (within i 6 (omega arith) (omega arith)) xec

    told_within : (i : ℕ) → i < count → Told image map recording records s i → Told image map recording (records ++ rest) s i
    told_within i h told =
        record {
          pc = pc ∙ told.pc;
          fetch = fetch ∙ told.fetch;
          differ = λ apart. pending_within i h (told.differ (λ e. apart (pc ∙ e ∙ sym fetch)));
        }
      where
        pc : pc_in (records ++ rest) i ≡ pc_in records i
        pc = within i 4 h (omega arith)

        fetch : fetch_in (records ++ rest) i ≡ fetch_in records i
        fetch = within i 6 h (omega arith)

pub addresses_told : AddressesTold
unfolding run_result
addresses_told image map state recording trace inside before pairs =
    pick_cases R (image_fits image)
    (λ words. pick_both R (eqb (length map) map_length)
    (pick_cases R (state_fits state)
    (λ formed. pick_both R (recording_fits recording)
    (pick_both R (trace_fits recording trace) (ran words formed) (away 16)) (away 15))
    (λ _. away 14)) (away 12))
    (λ _. away 11)
  where
    R : RunResult → Type 0
    R r =
        (count stop : ℕ) → r.answer ≡ Ended count stop → (i : ℕ) → i < count
        → Told image map recording r.trace (loaded state) i

    -- a refused run counts nothing
    away : (number : ℕ) → R (refused state trace number)
    away number count stop e = absurd (omega (arith, ap (λ (a : RunAnswer). length (answer_numbers a)) e))

    ran : image_fits image ≡ true → state_fits state ≡ true → R (ended trace (ran_over image map recording (loaded state)))
    ran words formed count stop e i h =
        let r = ran_over image map recording (loaded state) in
        let same : r.count ≡ count = ap (λ (a : RunAnswer). get_or (answer_numbers a) 0 0) e in
        told_within r.trace (drop (length r.trace) trace) r.count (trace_length image map recording (loaded state))
        image map recording (loaded state) i (omega arith)
        ((tells image map (image_words image words) inside recording (loaded state) (let_in_state state before formed) pairs).1 i (omega arith))
