-- The answer names the lowest finding, which the loop over the cells keeps. Assumes nothing.
use mathlib.Core.Path.{◌≡◌, refl, sym, ◌∙◌, ap, subst, subst⁻¹}
use mathlib.Core.Logic.{◌≢◌}
use mathlib.Core.List.{List}
use Prim.Native.Nat.{ℕ, ◌+◌, ◌*◌, ◌/◌, ◌%◌, ◌≤◌, ◌<◌}
use native.Mathlib.Omega.{arith}
use native.Mathlib.Nat.{div-add-mod', mod-lt, div-lt_iff_lt-mul}
use lib.Arith.{digits_lt}
use lib.Dec.{ltb}
use borrow.Author.Tests.{ltb-true, ltb-false, lt-ltb}
use Rattle.choice.proofs.Laws.{pick_cases}
use Rattle.machine.specs.Step.{word_count}
use Rattle.facts.specs.Record.{depths}
use Rattle.transfer.specs.Passes.{point_at}
use Rattle.transfer.specs.Findings.{finding_at, first_finding, NoFinding}
use Rattle.transfer.proofs.First.{first}
use Rattle.transfer.proofs.Membership.{same_or}
use Rattle.admission.specs.Admission.{AdmitAnswer}
use Rattle.admission.specs.Admission.{Admitted, Found}
use Rattle.findings.specs.declared.Failure.{Failure}
use Rattle.findings.specs.Findings.{fault_number, failing}
use Rattle.std.specs.Prelude.{true, Option, Some, None, Ok, is_none, IfSome, MatchOption}
use mathlib.Core.Bool.{false≢true}
use Rattle.findings.proofs.Telling.{fault_some}
use Rattle.admission.specs.Admission.{verdict_of, admit_told}
use Rattle.admission.specs.Lowest.{Clear, Lowest}
use Rattle.admission.proofs.Lowest.{Names, names_one}

-- the finding of a depth and an address
abbrev pub cell_finding : List ℕ → List ℕ → List ℕ → ℕ → ℕ → ℕ
cell_finding image map table depth address = finding_at image map table (point_at (word_count image) depth address)

module _ (image map table : List ℕ) where
  -- ---- a place of the table, and its depth and address

  lowest_at : (number depth address : ℕ) → depth < depths → address < word_count image → cell_finding image map table depth address ≡ number → number ≢ 0
      → ((k : ℕ) → k < point_at (word_count image) depth address → finding_at image map table k ≡ 0)
      → Lowest (word_count image) (cell_finding image map table) number depth address
  lowest_at number depth address deep near here some lower =
      record {
        deep = deep;
        near = near;
        here = here;
        some = some;
        shallower = λ d a less inside. lower (point_at (word_count image) d a) (let row : point_at (word_count image) d a < depth * word_count image = digits_lt less inside in omega arith);
        before = λ a less. lower (point_at (word_count image) depth a) (omega arith);
      }

  -- ---- what the answer names

  pub verdict_names : Names (word_count image) (cell_finding image map table) (verdict_of image map table)
  unfolding verdict_of
  verdict_names =
      pick_cases (Names (word_count image) (cell_finding image map table)) (ltb i n)
      (λ e.
      let below : i < n = ltb-true i n e in
      let some : 0 < word_count image = omega arith in
      let place : point_at (word_count image) (i / word_count image) (i % word_count image) ≡ i = div-add-mod' i (word_count image) in
      lowest_at (finding_at image map table i) (i / word_count image) (i % word_count image) ((div-lt_iff_lt-mul some).1 below) (mod-lt i some)
      (ap (finding_at image map table) place) ((first (finding_at image map table) 0 n).found (omega arith))
      (λ k l. (first (finding_at image map table) 0 n).lower k (omega arith) (omega arith)))
      (λ e d a deep near.
      let past : n ≤ i = ltb-false i n e in
      let inside : point_at (word_count image) d a < n = digits_lt deep near in
      (first (finding_at image map table) 0 n).lower (point_at (word_count image) d a) (omega arith) (omega arith))
    where
      n : ℕ
      n = depths * word_count image

      i : ℕ
      i = first_finding image map table 0 n

  -- no other answer does
  pub verdict_only : (answer : AdmitAnswer) → Names (word_count image) (cell_finding image map table) answer → answer ≡ verdict_of image map table
  verdict_only answer t = names_one (word_count image) (cell_finding image map table) answer (verdict_of image map table) t verdict_names

  -- ---- admitted exactly where no cell has a finding

  pub clear_admitted : NoFinding image map table → verdict_of image map table ≡ Admitted
  clear_admitted clear =
      sym (verdict_only Admitted (λ d a deep near. clear.none _ (lt-ltb _ (depths * word_count image) (digits_lt deep near))))

  pub admitted_clear : verdict_of image map table ≡ Admitted → NoFinding image map table
  admitted_clear h =
      record {
        none = λ k low.
            let below : k < depths * word_count image = ltb-true k _ low in
            let some : 0 < word_count image = omega arith in
            let clear : Clear (word_count image) (cell_finding image map table) = subst (Names (word_count image) (cell_finding image map table)) h verdict_names in
            ap (finding_at image map table) (sym (div-add-mod' k (word_count image))) ∙ clear (k / word_count image) (k % word_count image) ((div-lt_iff_lt-mul some).1 below) (mod-lt k some);
      }

-- ---- the loop

-- cell i is the next: nothing is told and no cell before it has a finding, or the lowest one is told
pub record Telling (image map table : List ℕ) (i : ℕ) (told : Option Failure) : Type 0 where
  pub none : is_none told ≡ true → (k : ℕ) → k < i → finding_at image map table k ≡ 0
  pub found : IfSome told (λ f. Lowest (word_count image) (cell_finding image map table) (fault_number f.fault) f.depth f.address)

module _ (image map table : List ℕ) where
  pub telling_begins : Telling image map table 0 None
  telling_begins = record { none = λ _ k l. absurd (omega arith); found = tt }

  -- what is found at cell (depth, address) is told where nothing was
  pub telling_next : (depth address : ℕ) (before found kept : Option Failure) → depth < depths → address < word_count image
      → failing found ≡ cell_finding image map table depth address → IfSome found (λ f. (f.depth ≡ depth) × (f.address ≡ address))
      → MatchOption before (kept ≡ found) (λ f. kept ≡ Some f)
      → Telling image map table (point_at (word_count image) depth address) before
      → Telling image map table (point_at (word_count image) depth address + 1) kept
  telling_next depth address (Some f) found kept deep near e at k t =
      subst⁻¹ (Telling image map table (point_at (word_count image) depth address + 1)) k (record { none = λ z. absurd (false≢true z); found = t.found })
  telling_next depth address None None kept deep near e at k t =
      subst⁻¹ (Telling image map table (point_at (word_count image) depth address + 1)) k
      (record { none = λ q j l. same_or j (point_at (word_count image) depth address) (λ here. ap (finding_at image map table) here ∙ sym e) (λ other. t.none refl j (omega arith)); found = tt })
  telling_next depth address None (Some f) kept deep near e at k t =
      subst⁻¹ (Telling image map table (point_at (word_count image) depth address + 1)) k
      (record {
        none = λ z. absurd (false≢true z);
        found =
            subst⁻¹ (λ (d : ℕ). Lowest (word_count image) (cell_finding image map table) (fault_number f.fault) d f.address) at.0
            (subst⁻¹ (λ (a : ℕ). Lowest (word_count image) (cell_finding image map table) (fault_number f.fault) depth a) at.1
            (lowest_at image map table (fault_number f.fault) depth address deep near (sym e) (fault_some f.fault) (λ j l. t.none refl j l)));
      })

  -- past the last cell
  pub telling_ends : (i : ℕ) (told : Option Failure) → depths * word_count image ≤ i → Telling image map table i told
      → admit_told (Ok told) ≡ verdict_of image map table
  telling_ends i None past t =
      verdict_only image map table Admitted
      (λ d a deep near.
      let inside : point_at (word_count image) d a < depths * word_count image = digits_lt deep near in
      t.none refl (point_at (word_count image) d a) (omega arith))
  telling_ends i (Some f) past t = verdict_only image map table (Found (fault_number f.fault) f.depth f.address) t.found
