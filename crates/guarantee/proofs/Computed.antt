-- A program whose table the checker computes: where so many sweeps leave a table, one more changes nothing, and no cell of it
-- has a finding, admission admits the program.
use mathlib.Core.Path.{◌≡◌, sym, ◌∙◌, subst, subst⁻¹}
use mathlib.Core.Bool.{Bool, true, false, ◌&&◌}
use mathlib.Core.List.{List}
use Prim.Native.Nat.{ℕ, zero, suc, ◌<◌, ◌≤◌, ◌*◌}
use native.Mathlib.Decide.{dec_lt}
use native.Mathlib.Omega.{arith}
use lib.Dec.{ltb, eqb}
use lib.ListN.{length, get_or, get_or-eq_default}
use borrow.Author.Tests.{ltb-true, eqb-true}
use Rattle.choice.proofs.Laws.{and_first, and_second}
use Rattle.map.specs.Map.{map_length}
use Rattle.machine.specs.Step.{word_count}
use Rattle.state.specs.State.{EachBelow}
use Rattle.emulator.specs.Run.{image_fits}
use Rattle.emulator.proofs.Door.{image_some}
use Rattle.flow.specs.Flow.{sweep_changes, sweeps}
use Rattle.flow.proofs.Filling.{sweeps_rest}
use Rattle.facts.specs.Record.{depths}
use Rattle.transfer.specs.Passes.{table_space, table_length, start_table, sweep_bound, least_table}
use Rattle.transfer.specs.Findings.{finding_at, NoFinding}
use Rattle.transfer.proofs.Membership.{same_or}
use Rattle.transfer.proofs.TableLaws.{table_laws, start_begins}
use Rattle.admission.specs.Admission.{Admitted}
use Rattle.admission.specs.Admission.{admit_result}
use Rattle.guarantee.proofs.Admitted.{admitted_when}

-- a test at each place below n
unfoldable pub every : ℕ → (ℕ → Bool) → Bool
every zero test = true
every (suc n) test = test n && every n test

pub every_at : (n : ℕ) (test : ℕ → Bool) → every n test ≡ true → (k : ℕ) → k < n → test k ≡ true
unfolding every
every_at zero test h k below = absurd (omega arith)
every_at (suc n) test h k below =
    same_or k n (λ e. subst (λ j. test j ≡ true) (sym e) (and_first (test n) (every n test) h))
    (λ other. every_at n test (and_second (test n) (every n test) h) k (omega arith))

-- bytes, one by one
pub all_bytes : (image : List ℕ) → every (length image) (λ k. ltb (get_or image k 0) 256) ≡ true → EachBelow 256 image
all_bytes image h k = by (dec_lt k (length image))
  where
    by : Dec (k < length image) → get_or image k 0 < 256
    by (yes below) = ltb-true _ 256 (every_at (length image) (λ j. ltb (get_or image j 0) 256) h k below)
    by (no past) = omega (arith, get_or-eq_default image 0 {n = k} (omega arith))

pub all_clean : (image map table : List ℕ) → every (depths * word_count image) (λ i. eqb (finding_at image map table i) 0) ≡ true
    → NoFinding image map table
all_clean image map table h =
    record { none = λ i l. eqb-true (finding_at image map table i) 0 (every_at (depths * word_count image) _ h i (ltb-true i _ l)) }

module _ (image table : List ℕ) (n : ℕ) (bytes : EachBelow 256 image) (fits : image_fits image ≡ true) (few : n ≤ sweep_bound image)
    (settled : sweep_changes (table_space image) (sweeps (table_space image) n (start_table image)) ≡ false)
    (swept : sweeps (table_space image) n (start_table image) ≡ table) where
  pub computed_least : least_table image ≡ table
  unfolding least_table
  computed_least =
      sweeps_rest (table_laws image bytes) (start_table image) n (sweep_bound image) (start_begins image bytes (image_some image fits)).good settled few
      ∙ swept

  pub computed_admitted : (map : List ℕ) → length map ≡ map_length → NoFinding image map table
      → (lent : List ℕ) → length lent ≡ table_length image → (admit_result image map lent).answer ≡ Admitted
  computed_admitted map long clean lent room =
      admitted_when image map lent (record { fits = fits; long = long; room = room; clear = subst⁻¹ (NoFinding image map) computed_least clean })
