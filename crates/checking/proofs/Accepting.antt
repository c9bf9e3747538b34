-- Accepted exactly when the definition says: the door questions, the layout of every record, a closed table and no finding.
-- Assumes nothing.
use mathlib.Core.Path.{◌≡◌, refl, sym, ◌∙◌, ap}
use mathlib.Core.Bool.{Bool, true, false, false≢true}
use mathlib.Core.List.{List}
use Prim.Native.Nat.{ℕ, ◌*◌, ◌/◌, ◌%◌}
use native.Mathlib.Omega.{arith}
use lib.Dec.{ltb, eqb}
use borrow.Author.Tests.{lt-ltb, ltb-true, ltb-false, eqb-true}
use Rattle.choice.specs.Choice.{pick, first_no}
use Rattle.machine.specs.Step.{word_count}
use Rattle.flow.specs.Flow.{all_covered}
use Rattle.facts.specs.Record.{depths}
use Rattle.transfer.specs.Passes.{passes_from, table_space}
use Rattle.transfer.specs.Findings.{finding_at, first_of}
use Rattle.transfer.proofs.First.{NoneBefore, first}
use Rattle.transfer.proofs.Membership.{same_or}
use Rattle.admission.specs.Admission.{admit_questions}
use Rattle.admission.proofs.Opening.{Opened, opened}
use Rattle.checking.specs.Check.{CheckAnswer}
use Rattle.checking.specs.Check.{Refused, Accepted, Failed}
use Rattle.checking.specs.Check.{layout_at, start_held, fault_at, in_order, judged, CheckResult, check_result, Acceptable}
use Rattle.checking.proofs.Scanning.{asks_next, fits_of}
use Rattle.checking.proofs.Faults.{fault_told}
use Rattle.checking.proofs.Judging.{check_refused, check_judged}

abbrev is_accepted : CheckAnswer → Bool
is_accepted (Refused number) = false
is_accepted Accepted = true
is_accepted (Failed number depth address) = false

-- cells in order that end accepted: none has a number, and what is asked next is accepted
record Passes (image : List ℕ) (number : ℕ → ℕ) (next : CheckAnswer) : Type 0 where
  none : NoneBefore number (depths * word_count image)
  accepted : next ≡ Accepted

passes : (image : List ℕ) (number : ℕ → ℕ) (next : CheckAnswer) → in_order image number next ≡ Accepted → Passes image number next
passes image number next h = go (ltb i cells) refl h
  where
    cells : ℕ
    cells = depths * word_count image

    i : ℕ
    i = first_of number 0 (depths * word_count image)

    go : (b : Bool) → ltb i cells ≡ b → pick b (Failed (number i) (i / word_count image) (i % word_count image)) next ≡ Accepted → Passes image number next
    go true e h = absurd (false≢true (ap is_accepted h))
    go false e h =
        let past = ltb-false i cells e in
        record { none = λ k l. (first number 0 cells).lower k (omega arith) (omega (arith, past)); accepted = h }

-- the start and then the cells
started : (b : Bool) {next : CheckAnswer} → pick b next (Failed 43 0 0) ≡ Accepted → (b ≡ true) × (next ≡ Accepted)
started true h = (refl, h)
started false h = absurd (false≢true (ap is_accepted h))

module _ (image map table : List ℕ) where
  -- a cell that does not fail has no finding, and all that it passes on is held
  settled : (i : ℕ) → fault_at image map table i ≡ 0
      → (finding_at image map table i ≡ 0) × (all_covered (table_space image) table (passes_from image table i) ≡ true)
  unfolding fault_at
  settled i h = go (eqb found 0) refl (all_covered (table_space image) table (passes_from image table i)) h
    where
      found : ℕ
      found = finding_at image map table i

      go : (b : Bool) → eqb found 0 ≡ b → (c : Bool) → pick b (pick {A = ℕ} c 0 43) found ≡ 0 → (found ≡ 0) × (c ≡ true)
      go true e true h = (eqb-true found 0 e, refl)
      go true e false h = absurd (omega (arith, h))
      go false e c h = absurd (false≢true (sym e ∙ ap (λ (n : ℕ). eqb n 0) h))

  pub acceptable_accepted : Acceptable image map table → (check_result image map table).answer ≡ Accepted
  unfolding judged
  acceptable_accepted a =
      ap (λ (r : CheckResult). r.answer) (sym (check_judged image map table (record { fits = a.fits; long = a.long; room = a.room })))
      ∙ sym (asks_next image (layout_at table) _ (λ k l. ap (λ (b : Bool). pick b 0 42) (a.laid k l)))
      ∙ ap (λ (b : Bool). pick b (in_order image (fault_at image map table) Accepted) (Failed 43 0 0)) a.closed.starts
      ∙ sym
      (asks_next image (fault_at image map table) Accepted
      (λ k l. sym (fault_told image map table k (a.clear.none k (lt-ltb k _ l)) {b = true} (sym (a.closed.passed k l)))))

  judged_acceptable : Opened image map table → judged image map table ≡ Accepted → Acceptable image map table
  unfolding judged
  judged_acceptable o h =
      let records = passes image (layout_at table) _ h in
      let start = started (start_held table) records.accepted in
      let cells = passes image (fault_at image map table) Accepted start.1 in
      record {
        fits = o.fits;
        long = o.long;
        room = o.room;
        laid = λ i l. fits_of table i (records.none i l);
        closed = record { starts = start.0; passed = λ i l. (settled i (cells.none i l)).1 };
        clear = record { none = λ i l. (settled i (cells.none i (ltb-true i _ l))).0 };
      }

  pub accepted_acceptable : (check_result image map table).answer ≡ Accepted → Acceptable image map table
  accepted_acceptable h =
      same_or (first_no (admit_questions image map table)) 0
      (λ z.
      let o = opened image map table refl z in
      judged_acceptable o (ap (λ (r : CheckResult). r.answer) (check_judged image map table o) ∙ h))
      (λ n. absurd (false≢true (ap is_accepted (ap (λ (r : CheckResult). r.answer) (check_refused image map table refl n) ∙ h))))
