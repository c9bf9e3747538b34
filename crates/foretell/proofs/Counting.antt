-- What admission counts, and that foretelling told it. Assumes nothing.
use mathlib.Core.Bool.{Bool, true, false}
use mathlib.Core.List.{List}
use mathlib.Core.Path.{◌≡◌, refl, sym, ap}
use Prim.Native.Nat.{ℕ, suc, ◌<◌}
use native.Mathlib.Omega.{arith}
use lib.Dec.{eqb}
use lib.ListN.{length}
use borrow.Author.Tests.{eqb-false}
use Rattle.choice.specs.Choice.{pick}
use Rattle.map.specs.Map.{map_length}
use Rattle.state.specs.State.{EachBelow}
use Rattle.emulator.specs.Run.{image_fits}
use Rattle.emulator.proofs.Door.{image_some}
use Rattle.transfer.specs.Passes.{table_length, sweep_bound, least_table, sweeps_of}
use Rattle.flow.proofs.Filling.{filled_changed, filled_still}
use Rattle.transfer.proofs.TableLaws.{table_laws, start_begins}
use Rattle.transfer.proofs.LeastTable.{least_filled, count_bound}
use Rattle.admission.specs.Admission.{verdict_of, filled_table, resulting, admit_result}
use Rattle.admission.specs.Admission.{Refused as NotAdmitted}
use Rattle.foretell.specs.Foretell.{ForetellAnswer}
use Rattle.foretell.specs.Foretell.{Refused, Foretold}
use Rattle.foretell.specs.Foretell.{foretold}
use Rattle.foretell.specs.Counting.{Agree, CountsForetold}

-- of an answer: 0 for a refusal, and 1 more than the length that it foretells
length_in : ForetellAnswer → ℕ
length_in Refused = 0
length_in (Foretold long most) = suc long

module _ (image map table : List ℕ) where
  let_in_lem : EachBelow 256 image → image_fits image ≡ true
      → Agree image map table 0 (resulting (verdict_of image map (least_table image)) (sweeps_of image) (filled_table image map)) (Foretold (table_length image) (sweep_bound image))
  unfolding length_in
  let_in_lem bytes fits =
      let some = image_some image fits in
      let good = (start_begins image bytes some).good in
      record {
        changed = λ _. filled_changed (table_laws image bytes) good (least_filled image bytes some);
        filled = λ _. sym (least_filled image bytes some).filling.swept;
        still = λ _. filled_still (table_laws image bytes) good (least_filled image bytes some);
        alike = λ _. refl;
        unswept = λ some. absurd (some refl);
        bounded = count_bound image bytes some;
        let_in = λ _ _ _. refl;
        turned_away = λ e. absurd (omega (arith, ap length_in e));
      }

  -- refused for the map or the table
  for_another : (number : ℕ) → 0 < number → (length table ≡ table_length image → length map ≡ map_length → ⊥)
      → Agree image map table number (resulting (NotAdmitted number) 0 table) (Foretold (table_length image) (sweep_bound image))
  unfolding length_in
  for_another number some unfit =
      record {
        changed = λ z. absurd (omega arith);
        filled = λ z. absurd (omega arith);
        still = λ z. absurd (omega arith);
        alike = λ z. absurd (omega arith);
        unswept = λ _. refl;
        bounded = omega arith;
        let_in = λ e t m. absurd (unfit (omega (arith, t, ap length_in e)) m);
        turned_away = λ e. absurd (omega (arith, ap length_in e));
      }

  for_the_image : Agree image map table 11 (resulting (NotAdmitted 11) 0 table) Refused
  unfolding length_in
  for_the_image =
      record {
        changed = λ z. absurd (omega arith);
        filled = λ z. absurd (omega arith);
        still = λ z. absurd (omega arith);
        alike = λ z. absurd (omega arith);
        unswept = λ _. refl;
        bounded = omega arith;
        let_in = λ e _ _. absurd (omega (arith, ap length_in e));
        turned_away = λ _. refl;
      }

pub counts_foretold : (image map table : List ℕ) → CountsForetold image map table
unfolding admit_result foretold
counts_foretold image map table bytes = go (image_fits image) refl (eqb (length map) map_length) refl (eqb (length table) (table_length image)) refl
  where
    go : (a : Bool) → image_fits image ≡ a → (b : Bool) → eqb (length map) map_length ≡ b → (c : Bool) → eqb (length table) (table_length image) ≡ c
        → Agree image map table (pick a (pick b (pick c 0 13) 12) 11)
        (pick a (pick b (pick c (resulting (verdict_of image map (least_table image)) (sweeps_of image) (filled_table image map)) (resulting (NotAdmitted 13) 0 table)) (resulting (NotAdmitted 12) 0 table)) (resulting (NotAdmitted 11) 0 table))
        (pick a (Foretold (table_length image) (sweep_bound image)) Refused)
    go false ea b eb c ec = for_the_image image map table
    go true ea false eb c ec = for_another image map table 12 (omega arith) (λ _ m. eqb-false (length map) map_length eb m)
    go true ea true eb false ec = for_another image map table 13 (omega arith) (λ t _. eqb-false (length table) (table_length image) ec t)
    go true ea true eb true ec = let_in_lem image map table bytes ea
