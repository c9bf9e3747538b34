-- The table past the door: the layout of all records, then the start, then the cells. Assumes nothing.
use mathlib.Core.Path.{◌≡◌, refl, sym, ◌∙◌, ap, subst⁻¹}
use mathlib.Core.Bool.{Bool, true, false, not}
use mathlib.Core.List.{List}
use mathlib.Core.Logic.{◌≢◌}
use Prim.Native.Nat.{ℕ, ◌*◌, ◌/◌, ◌%◌, ◌≤◌, ◌<◌}
use native.Mathlib.Omega.{arith}
use lib.ListN.{length}
use borrow.Author.Tests.{eq-eqb, not-true, not-false}
use Rattle.choice.specs.Choice.{pick, first_no}
use Rattle.choice.proofs.Laws.{asked_beside}
use Rattle.map.specs.Map.{map_length}
use Rattle.state.specs.State.{EachBelow}
use Rattle.machine.specs.Step.{word_count}
use Rattle.emulator.specs.Run.{image_fits}
use Rattle.emulator.proofs.Door.{image_words}
use Rattle.facts.specs.Record.{depths}
use Rattle.records.proofs.Fits.{fits_layout}
use Rattle.passing.specs.Passing.{Laid}
use Rattle.transfer.specs.Passes.{table_length}
use Rattle.transfer.specs.Findings.{first_of}
use Rattle.transfer.proofs.First.{NoneBefore, first}
use Rattle.admission.specs.Admission.{admit_questions}
use Rattle.admission.proofs.Opening.{Opened}
use Rattle.checking.specs.Check.{CheckAnswer}
use Rattle.checking.specs.Check.{Refused, Accepted, Failed}
use Rattle.checking.specs.Check.{layout_at, start_held, fault_at, in_order, judged, CheckResult, answering, check_result}
use Rattle.checking.proofs.Scanning.{fails_first, asks_next, fits_of, number_42}

module _ (image map table : List ℕ) where
  abbrev cells : ℕ
  cells = depths * word_count image

  -- a record of another layout
  pub judged_42 : {i : ℕ} → i ≡ first_of (layout_at table) 0 (depths * word_count image) → i < depths * word_count image
      → Failed 42 (i / word_count image) (i % word_count image) ≡ judged image map table
  unfolding judged
  judged_42 {i = i} e l =
      let some : layout_at table i ≢ 0 = subst⁻¹ (λ (j : ℕ). j < cells → layout_at table j ≢ 0) e (λ h. (first (layout_at table) 0 cells).found (omega (arith, h))) l in
      ap (λ (n : ℕ). Failed n (i / word_count image) (i % word_count image)) (number_42 table i some)
      ∙ fails_first image (layout_at table) _ i l (sym e)

  -- none
  module _ {i : ℕ} (e : i ≡ first_of (layout_at table) 0 (depths * word_count image)) (past : depths * word_count image ≤ i) where
    pub all_fit : NoneBefore (layout_at table) (depths * word_count image)
    all_fit k l = (first (layout_at table) 0 cells).lower k (omega arith) (omega (arith, e))

    pub all_laid : image_fits image ≡ true → length table ≡ table_length image → EachBelow 256 table → Laid image table
    all_laid fits room bytes =
        record {
          words = image_words image fits;
          layout = fits_layout cells table (omega (arith, room)) bytes (λ k l. fits_of table k (all_fit k l));
        }

    pub judged_start : {r : Bool} → r ≡ start_held table → not r ≡ true → Failed 43 0 0 ≡ judged image map table
    unfolding judged
    judged_start {r = r} s n =
        let no : start_held table ≡ false = sym s ∙ not-true r n in
        ap (λ (b : Bool). pick b (in_order image (fault_at image map table) Accepted) (Failed 43 0 0)) (sym no)
        ∙ asks_next image (layout_at table) _ all_fit

    pub judged_cells : {r : Bool} → r ≡ start_held table → not r ≡ false → {answer : CheckAnswer}
        → answer ≡ in_order image (fault_at image map table) Accepted → answer ≡ judged image map table
    unfolding judged
    judged_cells {r = r} s n told =
        let yes : start_held table ≡ true = sym s ∙ not-false r n in
        told ∙ ap (λ (b : Bool). pick b (in_order image (fault_at image map table) Accepted) (Failed 43 0 0)) (sym yes)
        ∙ asks_next image (layout_at table) _ all_fit

  -- ---- the door
  pub check_refused : {number : ℕ} → number ≡ first_no (admit_questions image map table) → number ≢ 0
      → answering (Refused number) ≡ check_result image map table
  unfolding check_result
  check_refused e n =
      subst⁻¹ (λ (k : ℕ). k ≢ 0 → answering (Refused k) ≡ check_result image map table) e
      (asked_beside (λ (r : CheckResult) (k : ℕ). k ≢ 0 → answering (Refused k) ≡ r) (admit_questions image map table)
      {other = 0} {deny = λ k. k} (λ none. absurd (none refl)) (λ k _. refl))
      n

  pub check_judged : Opened image map table → answering (judged image map table) ≡ check_result image map table
  unfolding check_result
  check_judged o = rw (o.fits, eq-eqb (length map) map_length o.long, eq-eqb (length table) (table_length image) o.room)
