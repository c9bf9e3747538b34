-- A bank that is not granted is not seen: by any run, and so by two lists of runs of an admitted program. Assumes nothing.
use mathlib.Core.Path.{◌≡◌, refl, sym, ◌∙◌, ap, subst, subst₂}
use mathlib.Core.Bool.{Bool, true, false, false≢true}
use mathlib.Core.List.{List, [], ◌∷◌, ◌++◌}
use Prim.Native.Nat.{ℕ, zero, suc, ◌*◌, ◌%◌, ◌≤◌}
use native.Mathlib.Decide.{ℕ_discrete}
use native.Mathlib.Omega.{arith}
use lib.Dec.{eqb}
use lib.ListN.{length, drop_of_length-le}
use borrow.Author.Tests.{eqb-true}
use Rattle.choice.specs.Choice.{first_no}
use Rattle.choice.proofs.Laws.{pick_beside}
use Rattle.map.specs.Map.{NothingReadable}
use Rattle.state.specs.declared.State.{State}
use Rattle.state.specs.State.{EachBelow, loaded, reset_bytes, reset_state, zero_state}
use Rattle.state.proofs.RoundTrip.{stored_bytes, reset_stored, reset_sized}
use Rattle.machine.specs.Step.{word_count, Step, stepped}
use Rattle.machine.specs.Unseen.{EqualBut}
use Rattle.machine.proofs.Keeps.{Sound, step_sound}
use Rattle.machine.proofs.Unseen.{step_unseen}
use Rattle.emulator.specs.Run.{RunAnswer}
use Rattle.emulator.specs.Run.{Refused, Ended}
use Rattle.emulator.specs.Run.{pair_length, pair_count, record_length, Ran, after, ran_over, written_over, state_fits, door_questions, RunResult, refused, ended, run_result}
use Rattle.emulator.proofs.Door.{image_words}
use Rattle.emulator.proofs.Laws.{trace_length, two_below, run_sound, refused_run, let_in_run}
use Rattle.emulator.proofs.Range.{let_in_state}
use Rattle.admission.specs.Admission.{admit_result}
use Rattle.flow.proofs.Each.{Each, none, also}
use Rattle.guarantee.specs.Demand.{Job, Flawless, executes, turned_away}
use Rattle.guarantee.specs.Unseen.{SameBut, RunUnseen, Twins, job_result, Alike, Unseen, no_twins, next_twins, ListsUnseen, BankUnseen}
use Rattle.guarantee.proofs.Questions.{Yes, all_yes}
use Rattle.guarantee.proofs.ResetSafe.{reset_done}
use Rattle.guarantee.proofs.Admitted.{admitted_demand}

-- ---- recordings

-- the first pairs, and the rest
first_equal : {b left right l r : ℕ} {rest others : List ℕ} → SameBut b (left ∷ right ∷ rest) (l ∷ r ∷ others)
    → EqualBut b (left ∷ right ∷ []) (l ∷ r ∷ [])
first_equal same zero n = same.equal 0 n
first_equal same (suc zero) n = same.equal 1 n
first_equal same (suc (suc k)) n = refl

rest_same : {b left right l r : ℕ} {rest others : List ℕ} → SameBut b (left ∷ right ∷ rest) (l ∷ r ∷ others) → SameBut b rest others
rest_same {b} same =
    let long = same.long in
    record {
      long = omega arith;
      equal = λ k n.
          let turn : suc (suc k) % pair_length ≡ k % pair_length = omega arith in
          same.equal (suc (suc k)) (λ e. n (sym turn ∙ e));
    }

-- ---- the steps of a run

module _ (b : ℕ) (image map : List ℕ) (nothing : NothingReadable map b) (words : word_count image ≤ 8192) (bytes : EachBelow 256 image) where
  ran_unseen : (one other : List ℕ) → SameBut b one other → EachBelow 256 other → (s : State) → Sound s
      → ran_over image map one s ≡ ran_over image map other s
  unfolding ran_over
  ran_unseen [] [] same below s sound = refl
  ran_unseen [] (l ∷ others) same below s sound = let long = same.long in absurd (omega arith)
  ran_unseen (left ∷ []) [] same below s sound = let long = same.long in absurd (omega arith)
  ran_unseen (left ∷ []) (l ∷ []) same below s sound = refl
  ran_unseen (left ∷ []) (l ∷ r ∷ others) same below s sound = let long = same.long in absurd (omega arith)
  ran_unseen (left ∷ right ∷ rest) [] same below s sound = let long = same.long in absurd (omega arith)
  ran_unseen (left ∷ right ∷ rest) (l ∷ []) same below s sound = let long = same.long in absurd (omega arith)
  ran_unseen (left ∷ right ∷ rest) (l ∷ r ∷ others) same below s sound =
      let next = (stepped image map (l ∷ r ∷ []) s).state in
      let kept = (step_sound image map (l ∷ r ∷ []) s words bytes (two_below (below 0) (below 1)) sound).state in
      pick_beside ◌≡◌ (eqb s.stop 0)
      (λ _.
      ap (λ (o : Step). after o (ran_over image map rest o.state))
      (step_unseen b image map (left ∷ right ∷ []) (l ∷ r ∷ []) s nothing (first_equal same) (sound.sized.values _))
      ∙ ap (after (stepped image map (l ∷ r ∷ []) s))
      (ran_unseen rest others (rest_same same) (λ k. below (suc (suc k))) next kept))
      (λ _. refl)

-- ---- the door

-- what a run is let in with
record PastDoor (image map state recording trace : List ℕ) : Type 0 where
  words : word_count image ≤ 8192
  formed : state_fits state ≡ true
  room : length trace ≡ pair_count recording * record_length

through_door : (image map state recording trace : List ℕ) → first_no (door_questions image map state recording trace) ≡ 0
    → PastDoor image map state recording trace
through_door image map state recording trace h = by (all_yes (also refl (also refl (also refl (also refl (also refl none))))) h)
  where
    by : Each Yes (door_questions image map state recording trace) → PastDoor image map state recording trace
    by (also fits (also long (also formed (also even (also room none))))) =
        record { words = image_words image fits; formed = formed; room = eqb-true (length trace) (pair_count recording * record_length) room }

pub run_unseen : RunUnseen
run_unseen b image map state one other trace nothing same bytes before below = by (ℕ_discrete (first_no (door_questions image map state one trace)) 0)
  where
    door : first_no (door_questions image map state one trace) ≡ first_no (door_questions image map state other trace)
    door = rw same.long

    by : Dec (first_no (door_questions image map state one trace) ≡ 0) → run_result image map state one trace ≡ run_result image map state other trace
    by (yes e) =
        let l = through_door image map state one trace e in
        let_in_run image map state one trace e
        ∙ ap (ended trace) (ran_unseen b image map nothing l.words bytes one other same below (loaded state) (let_in_state state before l.formed))
        ∙ sym (let_in_run image map state other trace (sym door ∙ e))
    by (no n) =
        refused_run image map state one trace n ∙ ap (refused state trace) door
        ∙ sym (refused_run image map state other trace (λ e. n (door ∙ e)))

-- ---- traces of one length

is_ended : RunAnswer → Bool
is_ended (Refused number) = false
is_ended (Ended count stop) = true

count_in : RunAnswer → ℕ
count_in (Refused number) = 0
count_in (Ended count stop) = count

never : {A : Type 0} (number count stop : ℕ) → Refused number ≡ Ended count stop → A
unfolding is_ended
never number count stop e = absurd (false≢true (ap is_ended e))

-- records that fill the trace leave nothing of it
filled : (records one other : List ℕ) → length records ≡ length one → length one ≡ length other → written_over records one ≡ written_over records other
filled records one other full long =
    ap (λ (t : List ℕ). records ++ t) (drop_of_length-le one {i = length records} (omega arith) ∙ sym (drop_of_length-le other {i = length records} (omega arith)))

module _ (image map state recording : List ℕ) where
  -- a run that is not refused makes a step for each pair
  abbrev Whole : List ℕ → Type 0
  Whole trace = (count stop : ℕ) → (run_result image map state recording trace).answer ≡ Ended count stop → count ≡ pair_count recording

  lent : (one other : List ℕ) → length one ≡ length other → Whole one
      → Alike (run_result image map state recording one) (run_result image map state recording other)
  lent one other long whole = by (ℕ_discrete (first_no (door_questions image map state recording one)) 0)
    where
      door : first_no (door_questions image map state recording one) ≡ first_no (door_questions image map state recording other)
      door = rw long

      ran : Ran
      ran = ran_over image map recording (loaded state)

      both : Alike (ended one ran) (ended other ran) → first_no (door_questions image map state recording one) ≡ 0
          → Alike (run_result image map state recording one) (run_result image map state recording other)
      both a e =
          subst₂ Alike (sym (let_in_run image map state recording one e)) (sym (let_in_run image map state recording other (sym door ∙ e))) a

      by : Dec (first_no (door_questions image map state recording one) ≡ 0)
          → Alike (run_result image map state recording one) (run_result image map state recording other)
      by (yes e) =
          let room = (through_door image map state recording one e).room in
          let all : ran.count ≡ pair_count recording = whole _ _ (ap (λ (r : RunResult). r.answer) (let_in_run image map state recording one e)) in
          both
          (record {
            answer = refl;
            numbers = refl;
            state = refl;
            trace = λ _. filled ran.trace one other (trace_length image map recording (loaded state) ∙ omega arith) long;
          }) e
      by (no n) =
          subst₂ Alike (sym (refused_run image map state recording one n)) (sym (refused_run image map state recording other (λ e. n (door ∙ e))))
          (record {
            answer = ap Refused door;
            numbers = ap (λ (n : ℕ). n ∷ []) door;
            state = refl;
            trace = λ e. never _ _ _ e;
          })

  -- it leaves bytes where it found bytes
  run_bytes : (trace : List ℕ) → EachBelow 256 image → EachBelow 256 state → EachBelow 256 recording
      → EachBelow 256 (run_result image map state recording trace).state
  run_bytes trace bytes before pairs = by (ℕ_discrete (first_no (door_questions image map state recording trace)) 0)
    where
      left : {r : RunResult} → r ≡ run_result image map state recording trace → EachBelow 256 r.state
          → EachBelow 256 (run_result image map state recording trace).state
      left e = subst (λ (r : RunResult). EachBelow 256 r.state) e

      by : Dec (first_no (door_questions image map state recording trace) ≡ 0) → EachBelow 256 (run_result image map state recording trace).state
      by (yes e) =
          let l = through_door image map state recording trace e in
          left (sym (let_in_run image map state recording trace e))
          (stored_bytes _ (run_sound image map recording (loaded state) l.words bytes pairs (let_in_state state before l.formed)).sized)
      by (no n) = left (sym (refused_run image map state recording trace n)) before

-- ---- two lists

firsts : {b : ℕ} → List (Twins b) → List Job
firsts [] = []
firsts (t ∷ ts) = t.one ∷ firsts ts

module _ (b : ℕ) (image map table : List ℕ) (nothing : NothingReadable map b) (bytes : EachBelow 256 image) where
  twins_alike : (state : List ℕ) → EachBelow 256 state → (t : Twins b) → Whole image map state t.one.recording t.one.trace
      → Alike (job_result image map state t.one) (job_result image map state t.other)
  twins_alike state before t whole =
      subst (Alike (job_result image map state t.one))
      (run_unseen b image map state t.one.recording t.other.recording t.other.trace nothing t.recordings bytes before t.other.bytes)
      (lent image map state t.one.recording t.one.trace t.other.trace t.traces whole)

  further : (state : List ℕ) → EachBelow 256 state → (t : Twins b) (ts : List (Twins b)) → Whole image map state t.one.recording t.one.trace
      → (EachBelow 256 (job_result image map state t.one).state
      → Unseen image map (job_result image map state t.one).state (job_result image map state t.one).state ts)
      → Unseen image map state state (t ∷ ts)
  further state before t ts whole more =
      let same = twins_alike state before t whole in
      next_twins same
      (subst (λ (its : List ℕ). Unseen image map (job_result image map state t.one).state its ts) same.state
      (more (run_bytes image map state t.one.recording t.one.trace bytes before t.one.bytes)))

  lists : (ts : List (Twins b)) (state : List ℕ) → EachBelow 256 state → Flawless image map table state (firsts ts) → Unseen image map state state ts
  unfolding firsts count_in
  lists [] state before f = no_twins
  lists (t ∷ ts) state before (executes e rest) =
      further state before t ts (λ count stop h. ap count_in (sym h ∙ e.answer)) (λ below. lists ts _ below rest)
  lists (t ∷ ts) state before (turned_away a rest) =
      further state before t ts (λ count stop h. never a.number count stop (sym a.answer ∙ h)) (λ below. lists ts _ below rest)

-- ---- from reset

reset_bytes_lem : EachBelow 256 reset_bytes
reset_bytes_lem = subst (EachBelow 256) reset_stored (stored_bytes zero_state reset_sized)

pub lists_unseen : (image map table : List ℕ) → ListsUnseen image map table
lists_unseen image map table b u given its long itsLong list =
    subst₂ (λ (x y : List ℕ). Unseen image map x y list) (sym (reset_done given long).1) (sym (reset_done its itsLong).1)
    (lists b image map (admit_result image map table).table u.nothing u.bytes list reset_bytes reset_bytes_lem
    (admitted_demand image map table u.bytes u.admitted (firsts list)))

-- the request's sentence is that of lists of one run
pub bank_unseen : (image map table : List ℕ) → BankUnseen image map table
bank_unseen image map table b u given its long itsLong one other same e f =
    by (lists_unseen image map table b u given its long itsLong (twins ∷ []))
  where
    twins : Twins b
    twins =
        let ours = (through_door image map (reset_state given) one.recording one.trace e).room in
        let theirs = (through_door image map (reset_state its) other.recording other.trace f).room in
        let pairs = same.long in
        record { one = one; other = other; recordings = same; traces = omega arith }

    by : Unseen image map (reset_state given) (reset_state its) (twins ∷ []) → job_result image map (reset_state given) one ≡ job_result image map (reset_state its) other
    by (next_twins a no_twins) =
        let written = a.trace (ap (λ (r : RunResult). r.answer) (let_in_run image map (reset_state given) one.recording one.trace e)) in
        λ i. record { answer = a.answer i; numbers = a.numbers i; state = a.state i; trace = written i }
