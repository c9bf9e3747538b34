-- The exported numbers come apart again: what a caller takes out of a number is the answer that was put into it.
-- Assumes nothing.
use mathlib.Core.Bool.{true, false}
use mathlib.Core.List.{List}
use mathlib.Core.Logic.{◌⊎◌, ◌↔◌, inl, inr, ⊎_elim}
use mathlib.Core.Path.{◌≡◌, refl, sym, ap, ◌∙◌}
use Prim.Native.Nat.{ℕ, ◌+◌, ◌*◌, ◌%◌, ◌^◌, ◌≤◌, ◌<◌}
use native.Mathlib.Nat.{mod-eq_of_lt}
use native.Mathlib.Omega.{arith}
use lib.Dec.{eqb}
use lib.ListN.{length}
use borrow.Author.Tests.{eq-eqb, ne_eqb, lt-ltb, le-ltb}
use Rattle.choice.specs.Choice.{pick}
use Rattle.choice.proofs.Laws.{pick_both, and_both}
use Rattle.map.specs.Map.{Counts}
use Rattle.map.specs.Map.{Sets, Refused as NotCounted}
use Rattle.map.specs.Map.{counted}
use Rattle.state.specs.State.{EachBelow}
use Rattle.emulator.specs.Run.{RunAnswer}
use Rattle.emulator.specs.Run.{Refused, Ended}
use Rattle.machine.specs.Step.{word_count}
use Rattle.emulator.specs.Run.{pair_count, image_fits, run_result}
use Rattle.emulator.proofs.Range.{Ranged as RangedRun, answer_ranged as run-ranged}
use Rattle.admission.specs.Admission.{AdmitAnswer}
use Rattle.admission.specs.Admission.{Refused as NotAdmitted, Admitted, Found}
use Rattle.admission.specs.Admission.{admit_result}
use Rattle.admission.proofs.Range.{Ranged, answer_ranged}
use Rattle.checking.specs.Check.{CheckAnswer}
use Rattle.checking.specs.Check.{Refused as NotChecked, Accepted, Failed}
use Rattle.checking.specs.Check.{check_result}
use Rattle.checking.proofs.Range.{Ranged as RangedCheck, answer_ranged as check-ranged}
use Rattle.foretell.specs.Foretell.{ForetellAnswer}
use Rattle.foretell.specs.Foretell.{Refused as NotForetold, Foretold}
use Rattle.foretell.specs.Foretell.{foretold, bound_of}
use Rattle.columns.specs.Line.{line_length}
use Rattle.listing.specs.Listing.{ListResult, page_refused, whole_page, list_result}
use Rattle.numbers.specs.Words.{bits_from, number_in}
use Rattle.numbers.proofs.Words.{part_apart}
use Rattle.answers.specs.Numbers.{sets_number, count_number, found_number, verdict_number, admit_number, check_number, foretell_number, run_number}
use Rattle.answers.specs.Numbers.{is_refusal, counts_in, answer_in, admit_answer_in, check_answer_in, sweeps_in, foretell_answer_in, run_answer_in, list_answer_in}
use Rattle.answers.specs.Fits.{CountsFit, CellFits, VerdictFits, ForetoldFits}
use Rattle.answers.specs.Calls.{admit_gives, check_gives, foretell_gives}
use Rattle.answers.proofs.Fits.{counts_fit, ranged_fits, verdict_fits, check_answer_fits, foretold_fits, sweeps_fit}

-- ---- counts

pub counts_apart : (map : List ℕ) → counts_in (count_number (counted map)) ≡ counted map
counts_apart map = go (counted map) (counts_fit map)
  where
    go : (r : Counts) → CountsFit r → counts_in (count_number r) ≡ r
    go (Sets a b c d) s =
        let n : ℕ = sets_number a b c d in
        let z : number_in n ≡ 0 = omega arith in
        let p : bits_from 8 12 n ≡ a = part_apart 8 12 (b + c * 4096 + d * 16777216) a 0 (omega arith) (omega (arith, s.0)) (omega arith) in
        let q : bits_from 20 12 n ≡ b = part_apart 20 12 (c + d * 4096) b (a * 256) (omega arith) (omega (arith, s.1)) (omega (arith, s.0)) in
        let r : bits_from 32 12 n ≡ c = part_apart 32 12 d c (a * 256 + b * 1048576) (omega arith) (omega (arith, s.2)) (omega (arith, s.0, s.1)) in
        let t : bits_from 44 12 n ≡ d = part_apart 44 12 0 d (a * 256 + b * 1048576 + c * 4294967296) (omega arith) (omega (arith, s.3)) (omega (arith, s.0, s.1, s.2)) in
        rw (eq-eqb (number_in n) 0 z) (λ k. Sets (p k) (q k) (r k) (t k))
    go NotCounted s = refl

-- ---- admission, and what it has in common with a check

refusal : (n : ℕ) → 0 < n → n < 21 → is_refusal n ≡ true
refusal n some low = and_both (lt-ltb 0 n some) (lt-ltb n 21 low)

no_refusal : (n : ℕ) → (n ≡ 0) ⊎ (21 ≤ n) → is_refusal n ≡ false
no_refusal n (inl z) = rw z
no_refusal n (inr h) = simp (lt-ltb 0 n (omega arith), le-ltb n 21 h)

-- A number that is 0, a refusal, or that of a cell, whatever stands from bit 32 on: what it is taken apart into.
module _ {A : Type 0} (none : A) (refused : ℕ → A) (names : ℕ → ℕ → ℕ → A) where
  none_in : (n : ℕ) → number_in n ≡ 0 → answer_in none refused names n ≡ none
  none_in n z = rw (eq-eqb (number_in n) 0 z)

  refusal_in : (number above : ℕ) {n : ℕ} → n ≡ number + above * 4294967296 → 11 ≤ number → number < 14 → answer_in none refused names n ≡ refused number
  refusal_in number above {n} e some low =
      let z : number_in n ≡ number = omega arith in
      rw (z, ne_eqb number 0 (omega arith), refusal number (omega arith) (omega arith))

  names_in : (n : ℕ) → 21 ≤ number_in n → answer_in none refused names n ≡ names (number_in n) (bits_from 8 8 n) (bits_from 16 16 n)
  names_in n h = rw (ne_eqb (number_in n) 0 (λ z. omega arith), no_refusal (number_in n) (inr h))

  cell_in : (number depth address above : ℕ) {n : ℕ} → n ≡ found_number number depth address + above * 4294967296 → 21 ≤ number
      → CellFits number depth address → answer_in none refused names n ≡ names number depth address
  cell_in number depth address above {n} e some fits =
      let z : number_in n ≡ number = omega (arith, fits.0) in
      let p : bits_from 8 8 n ≡ depth = part_apart 8 8 (address + above * 65536) depth number (omega arith) fits.1 fits.0 in
      let q : bits_from 16 16 n ≡ address = part_apart 16 16 above address (number + depth * 256) (omega arith) fits.2 (omega (arith, fits.0, fits.1)) in
      names_in n (omega arith) ∙ (λ k. names (z k) (p k) (q k))

answer_apart : (r : AdmitAnswer) (sweeps : ℕ) → Ranged r → admit_answer_in (admit_number r sweeps) ≡ r
answer_apart (NotAdmitted number) sweeps r = refusal_in Admitted NotAdmitted Found number sweeps refl r.0 r.1
answer_apart Admitted sweeps r = none_in Admitted NotAdmitted Found (admit_number Admitted sweeps) (omega arith)
answer_apart (Found number depth address) sweeps r =
    cell_in Admitted NotAdmitted Found number depth address sweeps refl r.0 (ranged_fits (Found number depth address) r)

verdict_low : (r : AdmitAnswer) → VerdictFits r → verdict_number r < 4294967296
verdict_low (NotAdmitted number) f = omega (arith, f)
verdict_low Admitted f = omega arith
verdict_low (Found number depth address) f = omega (arith, f.0, f.1, f.2)

pub found_in : (n : ℕ) → 21 ≤ number_in n → admit_answer_in n ≡ Found (number_in n) (bits_from 8 8 n) (bits_from 16 16 n)
found_in = names_in Admitted NotAdmitted Found

module _ (image map table : List ℕ) where
  pub admit_apart : admit_answer_in (admit_gives image map table) ≡ (admit_result image map table).answer
  admit_apart = answer_apart (admit_result image map table).answer (admit_result image map table).sweeps (answer_ranged image map table)

  -- the low byte is 0 exactly where the answer is admitted
  pub admit_low : (number_in (admit_gives image map table) ≡ 0) ↔ ((admit_result image map table).answer ≡ Admitted)
  admit_low = (λ z. sym admit_apart ∙ none_in Admitted NotAdmitted Found _ z, λ e. ap (λ (a : AdmitAnswer). number_in (admit_number a (admit_result image map table).sweeps)) e ∙ omega arith)

  verdict_below : verdict_number (admit_result image map table).answer < 4294967296
  verdict_below = verdict_low (admit_result image map table).answer (verdict_fits image map table)

  -- the low 32 bits tell the answer alone
  pub admit_keeps : bits_from 0 32 (admit_gives image map table) ≡ verdict_number (admit_result image map table).answer
  admit_keeps =
      part_apart 0 32 (admit_result image map table).sweeps (verdict_number (admit_result image map table).answer) 0 (omega arith) verdict_below (omega arith)

  -- and those above them the count
  pub sweeps_apart : EachBelow 256 image → sweeps_in (admit_gives image map table) ≡ (admit_result image map table).sweeps
  sweeps_apart bytes =
      part_apart 32 32 0 (admit_result image map table).sweeps (verdict_number (admit_result image map table).answer) (omega arith) (sweeps_fit image map table bytes) verdict_below

-- ---- a check

-- nothing stands from bit 32 on
check_answer_apart : (r : CheckAnswer) → RangedCheck r → check_answer_in (check_number r) ≡ r
check_answer_apart (NotChecked number) r = refusal_in Accepted NotChecked Failed number 0 {n = number} (omega arith) r.0 r.1
check_answer_apart Accepted r = refl
check_answer_apart (Failed number depth address) r =
    cell_in Accepted NotChecked Failed number depth address 0 {n = found_number number depth address} (omega arith) r.0 (check_answer_fits (Failed number depth address) r)

module _ (image map table : List ℕ) where
  pub check_apart : check_answer_in (check_gives image map table) ≡ (check_result image map table).answer
  check_apart = check_answer_apart (check_result image map table).answer (check-ranged image map table)

  -- the low byte is 0 exactly where the answer is accepted
  pub check_low : (number_in (check_gives image map table) ≡ 0) ↔ ((check_result image map table).answer ≡ Accepted)
  check_low = (λ z. sym check_apart ∙ none_in Accepted NotChecked Failed _ z, λ e. ap (λ (a : CheckAnswer). number_in (check_number a)) e)

-- ---- foretelling

told_apart : (f : ForetellAnswer) → ForetoldFits f → (foretell_answer_in (foretell_number f) ≡ f) × (bits_from 32 32 (foretell_number f) ≡ bound_of f)
told_apart NotForetold fits = (refl, refl)
told_apart (Foretold length bound) fits =
    let n : ℕ = foretell_number (Foretold length bound) in
    let z : number_in n ≡ 0 = omega arith in
    let p : bits_from 8 24 n ≡ length = part_apart 8 24 bound length 0 (omega arith) (omega (arith, fits.0)) (omega arith) in
    let q : bits_from 32 32 n ≡ bound = part_apart 32 32 0 bound (length * 256) (omega arith) (omega (arith, fits.1)) (omega (arith, fits.0)) in
    (rw (eq-eqb (number_in n) 0 z) (λ k. Foretold (p k) (q k)), q)

pub foretell_apart : (image : List ℕ) → foretell_answer_in (foretell_gives image) ≡ foretold image
foretell_apart image = (told_apart (foretold image) (foretold_fits image).0).0

-- a refusal's number has no bound
pub bound_apart : (image : List ℕ) → bits_from 32 32 (foretell_gives image) ≡ bound_of (foretold image)
bound_apart image = (told_apart (foretold image) (foretold_fits image).0).1

-- ---- runs

run_answer_apart : (pairs : ℕ) (r : RunAnswer) → pairs < 2 ^ 56 → RangedRun pairs r → run_answer_in (run_number r) ≡ r
run_answer_apart pairs (Refused number) few r =
    let z : number_in number ≡ number = omega (arith, r.1) in
    rw (z, refusal number (omega (arith, r.0)) (omega (arith, r.1)))
run_answer_apart pairs (Ended count stop) few r =
    let n : ℕ = run_number (Ended count stop) in
    let low : stop < 256 = ⊎_elim (λ z. omega arith) (λ h. omega (arith, h.1)) r.1 in
    let z : number_in n ≡ stop = omega arith in
    let kept : count % 2 ^ 56 ≡ count = mod-eq_of_lt (omega (arith, r.0)) in
    let p : bits_from 8 56 n ≡ count = part_apart 8 56 0 count stop (omega arith) (omega (arith, r.0)) low in
    rw (z, no_refusal stop (⊎_elim inl (λ h. inr h.0) r.1)) (ap (λ (m : ℕ). Ended m stop) p)

-- count and stop, or the refusal, are told apart for every recording of fewer than 2^56 pairs
pub run_apart : (image map state recording trace : List ℕ) → EachBelow 256 image → EachBelow 256 state → EachBelow 256 recording
    → pair_count recording < 2 ^ 56
    → run_answer_in (run_number (run_result image map state recording trace).answer) ≡ (run_result image map state recording trace).answer
run_apart image map state recording trace bytes before pairs few =
    run_answer_apart (pair_count recording) (run_result image map state recording trace).answer few
    (run-ranged image map state recording trace bytes before pairs)

-- ---- listings

pub list_apart : (image page : List ℕ) → list_answer_in (list_result image page).number ≡ (list_result image page).answer
unfolding list_result
list_apart image page =
    pick_both Apart (image_fits image) {x = pick (eqb (length page) (line_length * word_count image)) (whole_page image) (page_refused page 41)} {y = page_refused page 11}
    (pick_both Apart (eqb (length page) (line_length * word_count image)) {x = whole_page image} {y = page_refused page 41} refl refl)
    refl
  where
    Apart : ListResult → Type 0
    Apart r = list_answer_in r.number ≡ r.answer
