-- The number that a cell question gives is one of 21 to 29, so a finding is 0 or one of these.
use mathlib.Core.List.{List, [], ◌∷◌}
use mathlib.Core.Logic.{◌⊎◌, inl, inr}
use mathlib.Core.Path.{◌≡◌, refl}
use Prim.Native.Nat.{ℕ, ◌+◌, ◌/◌, ◌%◌, ◌≤◌, ◌<◌}
use native.Mathlib.Omega.{arith}
use lib.Dec.{leb, ltb}
use lib.ListN.{get_or}
use Rattle.choice.specs.Choice.{Question, ask, first_no}
use Rattle.flow.proofs.Each.{Each, none, also, each_append}
use Rattle.choice.proofs.Laws.{pick_both}
use Rattle.state.specs.State.{address_slot}
use Rattle.machine.specs.Shape.{Source, register, bank, constant, Target, slot, latch, Control, jump, branch, defer, call, return, Shape, act, go, invalid}
use Rattle.machine.specs.Step.{word_count, shape_at}
use Rattle.facts.specs.Facts.{unknown, Span, span_of, source_fact, result_fact}
use Rattle.facts.specs.Record.{cell_at}
use Rattle.transfer.proofs.Membership.{over_each}
use Rattle.transfer.specs.Passes.{gives, page_address}
use Rattle.transfer.specs.Findings.{read_questions, target_questions, control_questions, word_findings, executed_findings, defer_findings, cell_questions, finding_at}

abbrev Number : ℕ → Type 0
Number n = (21 ≤ n) × (n < 30)

abbrev Numbered : List Question → Type 0
Numbered qs = Each (λ (q : Question). Number q.number) qs

n21 : Number 21
n21 = (omega arith, omega arith)

n22 : Number 22
n22 = (omega arith, omega arith)

n23 : Number 23
n23 = (omega arith, omega arith)

n24 : Number 24
n24 = (omega arith, omega arith)

n25 : Number 25
n25 = (omega arith, omega arith)

n26 : Number 26
n26 = (omega arith, omega arith)

n27 : Number 27
n27 = (omega arith, omega arith)

n28 : Number 28
n28 = (omega arith, omega arith)

n29 : Number 29
n29 = (omega arith, omega arith)

first : (qs : List Question) → Numbered qs → (first_no qs ≡ 0) ⊎ Number (first_no qs)
first [] s = inl refl
first (q ∷ qs) (also h s) = pick_both (λ (n : ℕ). (n ≡ 0) ⊎ Number n) q.answer (first qs s) (inr h)

read : (map : List ℕ) (source : Source) (facts : List ℕ) → Numbered (read_questions map source facts)
read map (register k places kept) facts = none
read map (bank b p l) facts = also n28 (also n23 none)
read map (constant x) facts = none

target : (map : List ℕ) (d : Target) (result : ℕ) (facts : List ℕ) → Numbered (target_questions map d result facts)
target map (slot k) result facts = pick_both Numbered (leb (address_slot 0) k) (also n28 (also n25 none)) none
target map (latch b p l) result facts = also n28 (also n24 none)

control : (image table : List ℕ) (depth pc : ℕ) (span : Span) (c : Control) → Numbered (control_questions image table depth pc span c)
control image table depth pc span (jump a) = also n21 none
control image table depth pc span (branch page i) = also n21 none
control image table depth pc span (defer page i) = none
control image table depth pc span (call i) = also n26 (also n28 (also n21 none))
control image table depth pc span return = also n27 (also n21 none)

word : (image map table : List ℕ) (depth pc : ℕ) (facts : List ℕ) (s : Shape) → Numbered (word_findings image map table depth pc facts s)
word image map table depth pc facts (act source op d) =
    each_append
    (each_append (read map source facts) (target map d (result_fact op (get_or facts 0 unknown) (source_fact source facts)) facts))
    (also {x = ask 21 (ltb (pc + 1) (word_count image))} n21 none)
word image map table depth pc facts (go source c) =
    each_append (read map source facts) (control image table depth pc (span_of source facts) c)
word image map table depth pc facts invalid = also n22 none

deferred : (image map table : List ℕ) (depth pc : ℕ) (facts : List ℕ) (s : Shape) → Numbered (defer_findings image map table depth pc facts s)
deferred image map table depth pc facts (act source op d) = none
deferred image map table depth pc facts (go source (jump a)) = none
deferred image map table depth pc facts (go source (branch page i)) = none
deferred image map table depth pc facts (go source (defer page i)) =
    over_each 0 page (gives page i (span_of source facts)) (λ k. executed_findings image map table depth pc facts (page_address page pc k))
    (λ k low high given. also n21 (also n29 (word image map table depth pc facts (shape_at image (page_address page pc k)))))
deferred image map table depth pc facts (go source (call i)) = none
deferred image map table depth pc facts (go source return) = none
deferred image map table depth pc facts invalid = none

cell : (image map table : List ℕ) (depth pc : ℕ) (facts : List ℕ) → Numbered (cell_questions image map table depth pc facts)
cell image map table depth pc facts =
    each_append (word image map table depth pc facts (shape_at image pc))
    (deferred image map table depth pc facts (shape_at image pc))

pub finding_number : (image map table : List ℕ) (i : ℕ)
    → (finding_at image map table i ≡ 0) ⊎ ((21 ≤ finding_at image map table i) × (finding_at image map table i < 30))
unfolding finding_at
finding_number image map table i =
    pick_both (λ (n : ℕ). (n ≡ 0) ⊎ Number n) (cell_at table i).reached
    (first (cell_questions image map table (i / word_count image) (i % word_count image) (cell_at table i).facts)
    (cell image map table (i / word_count image) (i % word_count image) (cell_at table i).facts)) (inl refl)
