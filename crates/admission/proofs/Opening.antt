-- What the code of admission yields is the definition's result: one law for each way out. Assumes nothing.
use mathlib.Core.Bool.{Bool, true, false}
use mathlib.Core.List.{List, [], ◌∷◌}
use mathlib.Core.Logic.{◌≢◌}
use mathlib.Core.Path.{◌≡◌, refl, sym, ap, ◌∙◌, subst⁻¹}
use Prim.Native.Nat.{ℕ, ◌*◌, ◌≤◌, ◌<◌}
use native.Mathlib.Omega.{arith}
use borrow.Author.Tests.{eq-eqb, eqb-true}
use lib.Dec.{eqb}
use lib.ListN.{length, get_or}
use Rattle.choice.specs.Choice.{ask, first_no}
use Rattle.choice.proofs.Laws.{asked_beside}
use Rattle.map.specs.Map.{map_length}
use Rattle.machine.specs.Step.{word_count}
use Rattle.emulator.specs.Run.{image_fits}
use Rattle.emulator.proofs.Door.{image_some, image_words}
use Rattle.facts.specs.Record.{depths}
use Rattle.callers.specs.Callers.{Held}
use Rattle.transfer.specs.Passes.{table_length, sweep_bound, least_table, sweeps_of}
use Rattle.transfer.proofs.TableLaws.{least_table_lem}
use Rattle.admission.specs.Admission.{AdmitAnswer}
use Rattle.admission.specs.Admission.{Refused}
use Rattle.std.specs.Prelude.{Err}
use Rattle.refusal.specs.declared.Refusal.{Refusal}
use Rattle.refusal.specs.Refusal.{refusal_number}
use Rattle.admission.specs.declared.Answered.{Answered}
use Rattle.admission.specs.Admission.{with_findings, filled_table, verdict_of, admit_told, admit_questions, AdmitResult, resulting, admit_result}

-- what questions 11, 12 and 13 ask
pub record Opened (image map table : List ℕ) : Type 0 where
  pub fits : image_fits image ≡ true
  pub long : length map ≡ map_length
  pub room : length table ≡ table_length image

module _ (image map table : List ℕ) where
  -- what is refused was not swept
  pub unswept : {refusal : Refusal} {r : Answered} → r ≡ record { answer = Err refusal; sweeps = 0 }
      → resulting (Refused (refusal_number refusal)) 0 table ≡ admit_result image map table
      → (resulting (admit_told r.answer) r.sweeps table ≡ admit_result image map table) × (r.sweeps ≤ sweep_bound image)
  unswept {r} e d =
      let none : r.sweeps ≡ 0 = ap (λ (x : Answered). x.sweeps) e in
      (ap (λ (x : Answered). resulting (admit_told x.answer) x.sweeps table) e ∙ d, omega arith)

  -- the first no refuses
  pub turned_away_lem : {number : ℕ} → number ≡ first_no (admit_questions image map table) → number ≢ 0
      → resulting (Refused number) 0 table ≡ admit_result image map table
  unfolding admit_result
  turned_away_lem e n =
      subst⁻¹ (λ (k : ℕ). k ≢ 0 → resulting (Refused k) 0 table ≡ admit_result image map table) e
      (asked_beside (λ (r : AdmitResult) (k : ℕ). k ≢ 0 → resulting (Refused k) 0 table ≡ r) (admit_questions image map table)
      {other = 0} {deny = λ k. k} (λ none. absurd (none refl)) (λ k _. refl))
      n

  -- and with none the door is open
  pub opened : {number : ℕ} → number ≡ first_no (admit_questions image map table) → number ≡ 0 → Opened image map table
  opened e z = go (image_fits image) refl (eqb (length map) map_length) refl (eqb (length table) (table_length image)) refl (sym e ∙ z)
    where
      go : (a : Bool) → image_fits image ≡ a → (b : Bool) → eqb (length map) map_length ≡ b
          → (c : Bool) → eqb (length table) (table_length image) ≡ c → first_no (ask 11 a ∷ ask 12 b ∷ ask 13 c ∷ []) ≡ 0 → Opened image map table
      go true ea true eb true ec h = record { fits = ea; long = eqb-true (length map) map_length eb; room = eqb-true (length table) (table_length image) ec }
      go true ea true eb false ec h = absurd (omega (arith, h))
      go true ea false eb c ec h = absurd (omega (arith, h))
      go false ea b eb c ec h = absurd (omega (arith, h))

  module _ (o : Opened image map table) where
    pub let_in_lem : admit_result image map table ≡ resulting (verdict_of image map (least_table image)) (sweeps_of image) (filled_table image map)
    unfolding admit_result
    let_in_lem = rw (o.fits, eq-eqb (length map) map_length o.long, eq-eqb (length table) (table_length image) o.room)

-- what the code makes of the table, under the map that the door gives: filled, and then with its findings. The definition comes
-- first, so that a tactic finds the law by it.
pub yields : (image map table given filled after : List ℕ) (answer : AdmitAnswer) (sweeps : ℕ) → 0 ≡ first_no (admit_questions image map table) → given ≡ map
    → filled ≡ least_table image → sweeps ≡ sweeps_of image
    → answer ≡ verdict_of image given filled → after ≡ with_findings image given filled filled 0 (depths * word_count image)
    → admit_result image map table ≡ resulting answer sweeps after
unfolding filled_table
yields image map table given filled after answer sweeps n m e s v w =
    let_in_lem image map table (opened image map table n refl)
    ∙ (λ k. resulting (sym (v ∙ λ j. verdict_of image (m j) (e j)) k) (sym s k) (sym (w ∙ λ j. with_findings image (m j) (e j) (e j) 0 (depths * word_count image)) k))

-- the filled table is one that a loop over its cells can read
pub least_held : (image filled : List ℕ) → ((k : ℕ) → get_or image k 0 < 256) → image_fits image ≡ true → filled ≡ least_table image → Held image filled
least_held image filled bytes fits e =
    let layout = (least_table_lem image bytes (image_some image fits)).good in
    subst⁻¹ (Held image) e (record { words = image_words image fits; long = layout.long; fine = layout.fine })
