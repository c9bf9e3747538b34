-- The loop that writes each cell's finding into its record: the records left to write, written into the table as it is
-- now, give the table with every finding; the cells stay what they were. Assumes nothing.
use mathlib.Core.Path.{◌≡◌, refl, sym, ◌∙◌, ap, subst, subst⁻¹}
use mathlib.Core.Logic.{◌≢◌}
use mathlib.Core.List.{List}
use Prim.Native.Nat.{ℕ, zero, suc, ◌+◌, ◌-◌, ◌*◌, ◌≤◌, ◌<◌}
use native.Mathlib.Omega.{arith}
use lib.ListN.{length}
use Rattle.machine.specs.Step.{word_count}
use Rattle.facts.specs.declared.Cell.{Cell}
use Rattle.facts.specs.Record.{record_size, depths, record_of, read_cell, cell_at, put_record, FineCell}
use Rattle.facts.proofs.Mask.{record_length_lem, read_back}
use Rattle.facts.proofs.Records.{part, put_length, put_here, put_there}
use Rattle.transfer.specs.Findings.{finding_at}
use Rattle.transfer.proofs.Membership.{same_or}
use Rattle.admission.specs.Admission.{with_findings}
use Rattle.admission.proofs.Same.{SameCells, finding_same}

-- ---- the clauses of the definition, in the form in which a loop uses them

module _ (image map table marked : List ℕ) where
  pub marks_end : (i e : ℕ) → e ≤ i → with_findings image map table marked i (e - i) ≡ marked
  unfolding with_findings
  marks_end i e h =
      let none : e - i ≡ 0 = omega arith in
      ap (with_findings image map table marked i) none

  pub marks_rest : (i e : ℕ) → i < e → with_findings image map table marked i (e - i)
      ≡ with_findings image map table (put_record marked i (record_of (cell_at table i) (finding_at image map table i))) (i + 1) (e - (i + 1))
  unfolding with_findings
  marks_rest i e h =
      let more : e - i ≡ suc (e - (i + 1)) = omega arith in
      let next : suc i ≡ i + 1 = omega arith in
      ap (with_findings image map table marked i) more
      ∙ ap (λ (j : ℕ). with_findings image map table (put_record marked i (record_of (cell_at table i) (finding_at image map table i))) j (e - (i + 1))) next

-- ---- a cell written anew with a finding is the same cell, and the others stay

module _ (n : ℕ) (t : List ℕ) (i : ℕ) (c : Cell) (finding : ℕ) (long : length t ≡ record_size * n) (l : i < n) (fine : FineCell c) where
  pub marked_long : length (put_record t i (record_of c finding)) ≡ record_size * n
  marked_long = put_length t n i (record_of c finding) long l (record_length_lem c finding fine)

  marked_here : cell_at (put_record t i (record_of c finding)) i ≡ c
  unfolding cell_at
  marked_here = ap read_cell (put_here t n i (record_of c finding) long l (record_length_lem c finding fine)) ∙ read_back c finding fine

  marked_there : (j : ℕ) → j < n → j ≢ i → cell_at (put_record t i (record_of c finding)) j ≡ cell_at t j
  unfolding cell_at
  marked_there j h ne = ap read_cell (put_there t n i (record_of c finding) long l (record_length_lem c finding fine) j h ne)

  pub marked_cell : c ≡ cell_at t i → (j : ℕ) → j < n → cell_at (put_record t i (record_of c finding)) j ≡ cell_at t j
  marked_cell e j h =
      same_or j i
      (λ q. subst⁻¹ (λ (x : ℕ). cell_at (put_record t i (record_of c finding)) x ≡ cell_at t x) q (marked_here ∙ e))
      (λ q. marked_there j h q)

-- ---- the loop

-- cell i is the next; t is the table now, of t₀
pub record Marking (image map t₀ : List ℕ) (i : ℕ) (t : List ℕ) : Type 0 where
  pub long : length t ≡ record_size * (depths * word_count image)
  pub cells : SameCells image t t₀
  pub told : (j : ℕ) → j < i → part t j ≡ record_of (cell_at t₀ j) (finding_at image map t₀ j)
  pub rest : with_findings image map t₀ t i (depths * word_count image - i) ≡ with_findings image map t₀ t₀ 0 (depths * word_count image)

module _ (image map t₀ : List ℕ) where
  pub marking_begins : length t₀ ≡ record_size * (depths * word_count image) → Marking image map t₀ 0 t₀
  marking_begins long =
      let all : depths * word_count image - 0 ≡ depths * word_count image = omega arith in
      record { long = long; cells = record { same = λ j l. refl }; told = λ j l. absurd (omega arith); rest = ap (with_findings image map t₀ t₀ 0) all }

  pub marking_ends : (i : ℕ) (t : List ℕ) → depths * word_count image ≤ i → Marking image map t₀ i t
      → t ≡ with_findings image map t₀ t₀ 0 (depths * word_count image)
  marking_ends i t h m = sym (marks_end image map t₀ t i (depths * word_count image) h) ∙ m.rest

  module _ (fine : (j : ℕ) → j < depths * word_count image → FineCell (cell_at t₀ j)) where
    -- the cells on the way are those of a table
    pub marking_fine : (i : ℕ) (t : List ℕ) → Marking image map t₀ i t → (j : ℕ) → j < depths * word_count image → FineCell (cell_at t j)
    marking_fine i t m j l = subst⁻¹ FineCell (m.cells.same j l) (fine j l)

    -- the finding on the way is that of the table at first
    pub marking_finding : (i : ℕ) (t : List ℕ) → Marking image map t₀ i t → (j : ℕ) → j < depths * word_count image
        → finding_at image map t j ≡ finding_at image map t₀ j
    marking_finding i t m j l = finding_same image map t t₀ m.cells j l

    -- one record more
    pub marking_goes : (i : ℕ) (t u : List ℕ) → i < depths * word_count image
        → u ≡ put_record t i (record_of (cell_at t i) (finding_at image map t i)) → Marking image map t₀ i t → Marking image map t₀ (i + 1) u
    marking_goes i t u l e m =
        subst⁻¹ (Marking image map t₀ (i + 1)) e
        (record {
          long = marked_long n t i (cell_at t i) (finding_at image map t i) m.long l f;
          cells = record { same = λ j h. marked_cell n t i (cell_at t i) (finding_at image map t i) m.long l f refl j h ∙ m.cells.same j h };
          told = λ j h.
              same_or j i
              (λ q.
              subst⁻¹ (λ (x : ℕ). part now x ≡ record_of (cell_at t₀ x) (finding_at image map t₀ x)) q
              (put_here t n i (record_of (cell_at t i) (finding_at image map t i)) m.long l (record_length_lem (cell_at t i) (finding_at image map t i) f) ∙ written))
              (λ q.
              put_there t n i (record_of (cell_at t i) (finding_at image map t i)) m.long l (record_length_lem (cell_at t i) (finding_at image map t i) f) j (omega arith) q
              ∙ m.told j (omega arith));
          rest =
              ap (λ (b : List ℕ). with_findings image map t₀ (put_record t i b) (i + 1) (n - (i + 1))) written
              ∙ sym (marks_rest image map t₀ t i n l) ∙ m.rest;
        })
      where
        n : ℕ
        n = depths * word_count image

        f : FineCell (cell_at t i)
        f = marking_fine i t m i l

        now : List ℕ
        now = put_record t i (record_of (cell_at t i) (finding_at image map t i))

        written : record_of (cell_at t i) (finding_at image map t i) ≡ record_of (cell_at t₀ i) (finding_at image map t₀ i)
        written = (λ k. record_of (m.cells.same i l k) (marking_finding i t m i l k))

    -- all records that are left
    marking_all : (k i : ℕ) (t : List ℕ) → i + k ≡ depths * word_count image → Marking image map t₀ i t
        → Marking image map t₀ (depths * word_count image) (with_findings image map t₀ t₀ 0 (depths * word_count image))
    marking_all zero i t e m =
        subst (λ (v : List ℕ). Marking image map t₀ (depths * word_count image) v) (marking_ends i t (omega arith) m)
        (subst (λ (j : ℕ). Marking image map t₀ j t) (omega arith) m)
    marking_all (suc k) i t e m =
        marking_all k (i + 1) (put_record t i (record_of (cell_at t i) (finding_at image map t i))) (omega arith) (marking_goes i t _ (omega arith) refl m)

    -- the table with its findings: the cells that it had, and each record with its finding
    pub marked_all : length t₀ ≡ record_size * (depths * word_count image)
        → Marking image map t₀ (depths * word_count image) (with_findings image map t₀ t₀ 0 (depths * word_count image))
    marked_all long = marking_all (depths * word_count image) 0 t₀ (omega arith) (marking_begins long)
