-- The numbers of an answer: a refusal 11 to 13; a finding 21 to 29, a depth below 9, an address inside the image.
use mathlib.Core.List.{List}
use mathlib.Core.Logic.{⊎_elim}
use Prim.Native.Nat.{ℕ, ◌≤◌, ◌<◌}
use native.Mathlib.Omega.{arith}
use lib.Dec.{eqb}
use lib.ListN.{length}
use Rattle.choice.proofs.Laws.{pick_both, pick_cases}
use Rattle.map.specs.Map.{map_length}
use Rattle.machine.specs.Step.{word_count}
use Rattle.emulator.specs.Run.{image_fits}
use Rattle.facts.specs.Record.{depths}
use Rattle.transfer.specs.Passes.{point_at, table_length, least_table}
use Rattle.transfer.proofs.Numbers.{finding_number}
use Rattle.admission.specs.Admission.{AdmitAnswer}
use Rattle.admission.specs.Admission.{Refused, Admitted, Found}
use Rattle.admission.specs.Admission.{AdmitResult, verdict_of, admit_result}
use Rattle.admission.proofs.Lowest.{Names, lowest_some}
use Rattle.admission.proofs.Verdict.{cell_finding, verdict_names}
use Rattle.emulator.proofs.Door.{image_words}

-- a verdict refuses nothing
abbrev pub Told : ℕ → AdmitAnswer → Type 0
Told words (Refused number) = ⊥
Told words Admitted = Unit
Told words (Found number depth address) = (21 ≤ number) × (number < 30) × (depth < depths) × (address < words)

told : (image map table : List ℕ) (answer : AdmitAnswer) → Names (word_count image) (cell_finding image map table) answer → Told (word_count image) answer
told image map table (Refused number) t = t
told image map table Admitted t = tt
told image map table (Found number depth address) t =
    ⊎_elim (λ z. absurd (lowest_some t z)) (λ n. (omega (arith, n.0, t.here), omega (arith, n.1, t.here), t.deep, t.near))
    (finding_number image map table (point_at (word_count image) depth address))

pub verdict_told : (image map table : List ℕ) → Told (word_count image) (verdict_of image map table)
verdict_told image map table = told image map table (verdict_of image map table) (verdict_names image map table)

-- an answer's numbers: a refusal can be told from a finding, and neither is 0
abbrev pub Ranged : AdmitAnswer → Type 0
Ranged (Refused number) = (11 ≤ number) × (number < 14)
Ranged Admitted = Unit
Ranged (Found number depth address) = (21 ≤ number) × (number < 30) × (depth < depths) × (address < 8192)

told_ranged : (words : ℕ) (answer : AdmitAnswer) → words ≤ 8192 → Told words answer → Ranged answer
told_ranged words (Refused number) most t = absurd t
told_ranged words Admitted most t = tt
told_ranged words (Found number depth address) most t = (t.0, t.1, t.2, omega (arith, t.3))

pub answer_ranged : (image map table : List ℕ) → Ranged (admit_result image map table).answer
unfolding admit_result
answer_ranged image map table =
    pick_cases R (image_fits image)
    (λ fits. pick_both R (eqb (length map) map_length)
    (pick_both R (eqb (length table) (table_length image))
    (told_ranged (word_count image) (verdict_of image map (least_table image)) (image_words image fits) (verdict_told image map (least_table image)))
    (omega arith, omega arith))
    (omega arith, omega arith))
    (λ _. (omega arith, omega arith))
  where
    R : AdmitResult → Type 0
    R r = Ranged r.answer
