-- Questions with numbers that are not 0: the first no is 0 exactly when every answer is yes.
use mathlib.Core.Path.{◌≡◌, refl}
use mathlib.Core.Bool.{Bool, true, false}
use mathlib.Core.List.{List, ◌∷◌}
use Prim.Native.Nat.{ℕ, zero, suc}
use native.Mathlib.Omega.{arith}
use lib.Dec.{leb, ltb}
use borrow.Author.Tests.{ltb-true}
use Rattle.choice.specs.Choice.{pick, Question, asked, first_no}
use Rattle.choice.proofs.Laws.{pick_both}
use Rattle.state.specs.State.{address_slot}
use Rattle.flow.proofs.Each.{Each, none, also, each_append}
use Rattle.machine.specs.Shape.{Source, register, bank, constant, Target, slot, latch, Control, jump, branch, defer, call, return, Shape, act, go, invalid}
use Rattle.machine.specs.Step.{shape_at}
use Rattle.facts.specs.Facts.{Span, span_of}
use Rattle.transfer.specs.Passes.{over, page_address, gives}
use Rattle.transfer.specs.Findings.{read_questions, target_questions, control_questions, word_findings, defer_findings, cell_questions}

-- a question with a number; a question answered yes
abbrev pub Numbered : Question → Type 0
Numbered q = ltb 0 q.number ≡ true

abbrev pub Yes : Question → Type 0
Yes q = q.answer ≡ true

yes_first : (q : Question) (qs : List Question) (b : Bool) → q.answer ≡ b → Numbered q → (first_no qs ≡ 0 → Each Yes qs)
    → pick b (first_no qs) q.number ≡ 0 → Each Yes (q ∷ qs)
yes_first q qs true a n e h = also a (e h)
yes_first q qs false a n e h = absurd (omega (arith, ltb-true 0 q.number n))

pub all_yes : {qs : List Question} → Each Numbered qs → first_no qs ≡ 0 → Each Yes qs
all_yes none h = none
all_yes (also {x = q} {xs = qs} n e) h = yes_first q qs q.answer refl n (all_yes e) h

pub none_no : {A : Type 0} {qs : List Question} (value : A) (refuse : ℕ → A) → Each Yes qs → asked qs value refuse ≡ value
none_no value refuse none = refl
none_no value refuse (also a e) = rw a (none_no value refuse e)

-- ---- the questions of a cell have numbers

over_numbered : (from n : ℕ) (test : ℕ → Bool) (f : ℕ → List Question)
    → ((k : ℕ) → Each Numbered (f k)) → Each Numbered (over from n test f)
unfolding over
over_numbered from zero test f h = none
over_numbered from (suc n) test f h =
    each_append (pick_both (Each Numbered) (test from) (h from) none) (over_numbered (suc from) n test f h)

read_numbered : (map : List ℕ) (source : Source) (facts : List ℕ) → Each Numbered (read_questions map source facts)
read_numbered map (register k places kept) facts = none
read_numbered map (bank b p l) facts = also refl (also refl none)
read_numbered map (constant x) facts = none

target_numbered : (map : List ℕ) (target : Target) (result : ℕ) (facts : List ℕ)
    → Each Numbered (target_questions map target result facts)
target_numbered map (slot k) result facts =
    pick_both (Each Numbered) (leb (address_slot 0) k) (also refl (also refl none)) none
target_numbered map (latch b p l) result facts = also refl (also refl none)

module _ (image map table : List ℕ) (depth pc : ℕ) where
  control_numbered : (span : Span) (control : Control) → Each Numbered (control_questions image table depth pc span control)
  control_numbered span (jump a) = also refl none
  control_numbered span (branch page i) = also refl none
  control_numbered span (defer page i) = none
  control_numbered span (call i) = also refl (also refl (also refl none))
  control_numbered span return = also refl (also refl none)

  word_numbered : (facts : List ℕ) (w : Shape) → Each Numbered (word_findings image map table depth pc facts w)
  word_numbered facts (act source op target) =
      each_append (each_append (read_numbered map source facts) (target_numbered map target _ facts)) (also refl none)
  word_numbered facts (go source control) =
      each_append (read_numbered map source facts) (control_numbered (span_of source facts) control)
  word_numbered facts invalid = also refl none

  defer_numbered : (facts : List ℕ) (w : Shape) → Each Numbered (defer_findings image map table depth pc facts w)
  defer_numbered facts (act source op target) = none
  defer_numbered facts (go source (jump a)) = none
  defer_numbered facts (go source (branch page i)) = none
  defer_numbered facts (go source (defer page i)) =
      over_numbered 0 page (gives page i (span_of source facts)) _
      (λ k. also refl (also refl (word_numbered facts (shape_at image (page_address page pc k)))))
  defer_numbered facts (go source (call i)) = none
  defer_numbered facts (go source return) = none
  defer_numbered facts invalid = none

  pub cell_numbered : (facts : List ℕ) → Each Numbered (cell_questions image map table depth pc facts)
  cell_numbered facts = each_append (word_numbered facts (shape_at image pc)) (defer_numbered facts (shape_at image pc))
