-- The answer names the lowest finding that stands in the filled table, and no other answer does. Assumes nothing.
use mathlib.Core.Path.{◌≡◌, refl, sym, ◌∙◌, ap, subst}
use mathlib.Core.Bool.{true}
use mathlib.Core.List.{List, [], ◌∷◌}
use Prim.Native.Nat.{ℕ, ◌<◌}
use native.Mathlib.Omega.{arith}
use lib.Arith.{digits_lt}
use lib.Dec.{eqb}
use lib.ListN.{length}
use Rattle.choice.specs.Choice.{ask, asked}
use Rattle.choice.proofs.Laws.{pick_beside, asked_beside}
use Rattle.map.specs.Map.{map_length}
use Rattle.state.specs.State.{EachBelow}
use Rattle.machine.specs.Step.{word_count}
use Rattle.emulator.specs.Run.{image_fits}
use Rattle.emulator.proofs.Door.{image_some}
use Rattle.transfer.specs.Passes.{table_length, least_table}
use Rattle.admission.specs.Admission.{AdmitAnswer}
use Rattle.admission.specs.Admission.{Refused, Admitted, Found}
use Rattle.admission.specs.Admission.{filled_table, verdict_of, admit_questions, AdmitResult, resulting, admit_result}
use Rattle.admission.specs.Lowest.{finding_in, Lowest, Says, Holds, NoFreedom}
use Rattle.admission.proofs.Lowest.{Names, names_one, names_same}
use Rattle.admission.proofs.Verdict.{cell_finding, verdict_names}
use Rattle.admission.proofs.Filled.{filled_byte}

-- ---- past the door

module _ (image map : List ℕ) (bytes : EachBelow 256 image) (fits : image_fits image ≡ true) where
  -- the answer names the lowest of the findings that stand in the filled table
  filled_names : Names (word_count image) (finding_in image (filled_table image map)) (verdict_of image map (least_table image))
  filled_names =
      names_same (word_count image) (cell_finding image map (least_table image)) (finding_in image (filled_table image map)) (verdict_of image map (least_table image))
      (λ d a deep near. filled_byte image map bytes (image_some image fits) _ (digits_lt deep near)) (verdict_names image map (least_table image))

  pub lowest_verdict : {number depth address : ℕ} → Lowest (word_count image) (finding_in image (filled_table image map)) number depth address
      → verdict_of image map (least_table image) ≡ Found number depth address
  lowest_verdict {number} {depth} {address} l =
      names_one (word_count image) (finding_in image (filled_table image map)) (verdict_of image map (least_table image)) (Found number depth address) filled_names l

  pub verdict_lowest : {number depth address : ℕ} → verdict_of image map (least_table image) ≡ Found number depth address
      → Lowest (word_count image) (finding_in image (filled_table image map)) number depth address
  verdict_lowest e = subst (Names (word_count image) (finding_in image (filled_table image map))) e filled_names

-- ---- what an answer says

module _ (image table after : List ℕ) where
  names_says : (answer : AdmitAnswer) → Names (word_count image) (finding_in image after) answer → Says image table after 0 answer
  names_says (Refused number) t = absurd t
  names_says Admitted t = (refl, t)
  names_says (Found number depth address) t = (refl, t)

  says_one : (door : ℕ) (a b : AdmitAnswer) → Says image table after door a → Says image table after door b → a ≡ b
  says_one door (Refused n) (Refused m) s t = ap Refused (sym s.0 ∙ t.0)
  says_one door (Refused n) Admitted s t = absurd (s.1 (sym s.0 ∙ t.0))
  says_one door (Refused n) (Found m e b) s t = absurd (s.1 (sym s.0 ∙ t.0))
  says_one door Admitted (Refused m) s t = absurd (t.1 (sym t.0 ∙ s.0))
  says_one door Admitted Admitted s t = refl
  says_one door Admitted (Found m e b) s t = names_one (word_count image) (finding_in image after) Admitted (Found m e b) s.1 t.1
  says_one door (Found n d a) (Refused m) s t = absurd (t.1 (sym t.0 ∙ s.0))
  says_one door (Found n d a) Admitted s t = names_one (word_count image) (finding_in image after) (Found n d a) Admitted s.1 t.1
  says_one door (Found n d a) (Found m e b) s t = names_one (word_count image) (finding_in image after) (Found n d a) (Found m e b) s.1 t.1

module _ (image map table : List ℕ) (bytes : EachBelow 256 image) where
  answer_holds : Holds image map table (admit_result image map table).answer
  unfolding admit_result
  answer_holds =
      pick_beside R (image_fits image)
      (λ fits.
      pick_beside R (eqb (length map) map_length)
      (λ _.
      pick_beside R (eqb (length table) (table_length image))
      (λ _. names_says image table (filled_table image map) (verdict_of image map (least_table image)) (filled_names image map bytes fits)) (λ _. refused 13 (omega arith)))
      (λ _. refused 12 (omega arith)))
      (λ _. refused 11 (omega arith))
    where
      R : ℕ → AdmitResult → Type 0
      R door r = Says image table r.table door r.answer

      refused : (number : ℕ) → 0 < number → Says image table table number (Refused number)
      refused number some = (refl, (λ z. omega arith), refl)

pub no_freedom : (image map table : List ℕ) → NoFreedom image map table
no_freedom image map table bytes =
    record {
      holds = answer_holds image map table bytes;
      only = λ other s. says_one image table (admit_result image map table).table _ other (admit_result image map table).answer s (answer_holds image map table bytes);
    }

-- a finding that is answered is the lowest
pub found_lowest : (image map table : List ℕ) {number depth address : ℕ} → EachBelow 256 image
    → (admit_result image map table).answer ≡ Found number depth address
    → Lowest (word_count image) (finding_in image (admit_result image map table).table) number depth address
found_lowest image map table bytes e =
    (subst (Holds image map table) e (answer_holds image map table bytes)).1

-- two stations give one answer: of the lent table only its length matters
pub same_answer : (image map table other : List ℕ) → length table ≡ length other
    → (admit_result image map table).answer ≡ (admit_result image map other).answer
unfolding admit_result
same_answer image map table other e = answer_by table ∙ ap by e ∙ sym (answer_by other)
  where
    answer : AdmitAnswer
    answer = verdict_of image map (least_table image)

    by : ℕ → AdmitAnswer
    by n = asked (ask 11 (image_fits image) ∷ ask 12 (eqb (length map) map_length) ∷ ask 13 (eqb n (table_length image)) ∷ []) answer Refused

    answer_by : (lent : List ℕ) → (admit_result image map lent).answer ≡ by (length lent)
    answer_by lent =
        asked_beside (λ (r : AdmitResult) (a : AdmitAnswer). r.answer ≡ a) (admit_questions image map lent)
        {refuse = λ (n : ℕ). resulting (Refused n) 0 lent} {deny = Refused} refl (λ n. refl)
