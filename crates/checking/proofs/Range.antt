-- The numbers of an answer: a refusal 11 to 13; what a cell fails with 21 to 43, a depth below 9, an address inside the image.
-- Assumes nothing.
use mathlib.Core.List.{List}
use mathlib.Core.Logic.{◌⊎◌, inl, inr, ⊎_elim}
use mathlib.Core.Path.{◌≡◌, refl}
use Prim.Native.Nat.{ℕ, ◌*◌, ◌%◌, ◌≤◌, ◌<◌}
use native.Mathlib.Nat.{mod-lt, div-lt_iff_lt-mul}
use native.Mathlib.Omega.{arith}
use lib.Dec.{ltb, eqb}
use lib.ListN.{length, take, drop}
use borrow.Author.Tests.{ltb-true}
use Rattle.choice.proofs.Laws.{pick_both, pick_cases}
use Rattle.map.specs.Map.{map_length}
use Rattle.machine.specs.Step.{word_count}
use Rattle.emulator.specs.Run.{image_fits}
use Rattle.emulator.proofs.Door.{image_words}
use Rattle.flow.specs.Flow.{all_covered}
use Rattle.facts.specs.Record.{record_size, depths}
use Rattle.records.specs.Records.{record_fits}
use Rattle.transfer.specs.Passes.{passes_from, table_space, table_length}
use Rattle.transfer.specs.Findings.{finding_at, first_of}
use Rattle.transfer.proofs.First.{first}
use Rattle.transfer.proofs.Numbers.{finding_number}
use Rattle.checking.specs.Check.{CheckAnswer}
use Rattle.checking.specs.Check.{Refused, Accepted, Failed}
use Rattle.checking.specs.Check.{layout_at, start_held, fault_at, in_order, judged, CheckResult, check_result}

-- an answer's numbers: a refusal can be told from what a cell fails with, and neither is 0
abbrev pub Ranged : CheckAnswer → Type 0
Ranged (Refused number) = (11 ≤ number) × (number < 14)
Ranged Accepted = Unit
Ranged (Failed number depth address) = (21 ≤ number) × (number < 44) × (depth < depths) × (address < 8192)

abbrev Number : ℕ → Type 0
Number n = (n ≡ 0) ⊎ ((21 ≤ n) × (n < 44))

layout_number : (table : List ℕ) (i : ℕ) → Number (layout_at table i)
layout_number table i =
    pick_both Number (record_fits (take record_size (drop (record_size * i) table))) (inl refl) (inr (omega arith, omega arith))

fault_number : (image map table : List ℕ) (i : ℕ) → Number (fault_at image map table i)
unfolding fault_at
fault_number image map table i =
    pick_both Number (eqb (finding_at image map table i) 0)
    (pick_both Number (all_covered (table_space image) table (passes_from image table i)) (inl refl) (inr (omega arith, omega arith)))
    (⊎_elim inl (λ n. inr (n.0, omega (arith, n.1))) (finding_number image map table i))

in_order_ranged : (image : List ℕ) (number : ℕ → ℕ) (next : CheckAnswer) → word_count image ≤ 8192 → ((i : ℕ) → Number (number i)) → Ranged next
    → Ranged (in_order image number next)
in_order_ranged image number next most numbered r =
    pick_cases Ranged (ltb i n)
    (λ e.
    let below : i < n = ltb-true i n e in
    let some : 0 < word_count image = omega arith in
    let near : i % word_count image < word_count image = mod-lt i some in
    ⊎_elim (λ z. absurd ((first number 0 n).found (omega arith) z))
    (λ s. (s.0, s.1, (div-lt_iff_lt-mul some).1 below, omega arith)) (numbered i))
    (λ _. r)
  where
    n : ℕ
    n = depths * word_count image

    i : ℕ
    i = first_of number 0 n

judged_ranged : (image map table : List ℕ) → word_count image ≤ 8192 → Ranged (judged image map table)
unfolding judged
judged_ranged image map table most =
    in_order_ranged image (layout_at table) _ most (layout_number table)
    (pick_both Ranged (start_held table) (in_order_ranged image (fault_at image map table) Accepted most (fault_number image map table) tt)
    (omega arith, omega arith, omega arith, omega arith))

pub answer_ranged : (image map table : List ℕ) → Ranged (check_result image map table).answer
unfolding check_result
answer_ranged image map table =
    pick_cases R (image_fits image)
    (λ fits. pick_both R (eqb (length map) map_length)
    (pick_both R (eqb (length table) (table_length image)) (judged_ranged image map table (image_words image fits)) (omega arith, omega arith))
    (omega arith, omega arith))
    (λ _. (omega arith, omega arith))
  where
    R : CheckResult → Type 0
    R r = Ranged r.answer
