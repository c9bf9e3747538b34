-- A licensed word has no step question that is answered no.
use mathlib.Core.Path.{◌≡◌, refl, subst}
use mathlib.Core.Bool.{Bool, true, false≢true}
use mathlib.Core.List.{List, [], ◌∷◌, ◌++◌}
use Prim.Native.Nat.{ℕ, ◌-◌}
use lib.Dec.{leb}
use lib.ListN.{get_or}
use Rattle.choice.specs.Choice.{Question, ask}
use Rattle.choice.proofs.Laws.{pick_cases}
use Rattle.map.specs.Map.{readable, writable, listed}
use Rattle.state.specs.declared.State.{State}
use Rattle.state.specs.State.{address_slot}
use Rattle.machine.specs.Shape.{Source, register, bank, constant, Target, slot, latch, Control, jump, branch, defer, call, return, Shape, act, go, invalid}
use Rattle.machine.specs.Step.{may_read, may_write, may_choose, may_call, may_return, word_questions}
use Rattle.flow.proofs.Each.{Each, none, also, each_left, each_right}
use Rattle.facts.specs.Facts.{unknown, is_known, allows, within, Span, span_of, source_fact, result_fact}
use Rattle.transfer.specs.Findings.{read_questions, target_questions, control_questions, word_findings}
use Rattle.transfer.proofs.Membership.{each_picked}
use Rattle.guarantee.proofs.Within.{known_same, within_at}
use Rattle.guarantee.proofs.Pairs.{source_allowed, result_allowed}
use Rattle.guarantee.proofs.Questions.{Yes}

-- what is granted for a known fact is granted for the value
granted : (number first : ℕ) (test : ℕ → Bool) (f v : ℕ) → allows f v ≡ true
    → Each Yes (ask first (is_known f) ∷ ask number (test f) ∷ [])
    → test v ≡ true
granted number first test f v a (also known (also h e)) = subst (λ n. test n ≡ true) (known_same f v known a) h

-- the address of a bank
bank_granted : (number : ℕ) (test : ℕ → Bool) (b : ℕ) (facts values : List ℕ) → within facts values ≡ true
    → Each Yes (ask 28 (is_known (get_or facts (address_slot b) unknown)) ∷ ask number (test (get_or facts (address_slot b) unknown)) ∷ [])
    → test (get_or values (address_slot b) 0) ≡ true
bank_granted number test b facts values h e =
    granted number 28 test (get_or facts (address_slot b) unknown) (get_or values (address_slot b) 0)
    (within_at facts values (address_slot b) h) e

read_granted : (map : List ℕ) (source : Source) (facts values : List ℕ) → within facts values ≡ true
    → Each Yes (read_questions map source facts) → may_read map source values ≡ true
read_granted map (register k places kept) facts values h e = refl
read_granted map (bank b p l) facts values h e = bank_granted 23 (readable map b) b facts values h e
read_granted map (constant x) facts values h e = refl

write_granted : (map : List ℕ) (target : Target) (f : ℕ) (facts values : List ℕ) → within facts values ≡ true
    → Each Yes (target_questions map target f facts) → may_write map target values ≡ true
write_granted map (slot k) f facts values h e = refl
write_granted map (latch b p l) f facts values h e = bank_granted 24 (writable map b) b facts values h e

choice_granted : (map : List ℕ) (target : Target) (f v : ℕ) (facts : List ℕ) → allows f v ≡ true
    → Each Yes (target_questions map target f facts) → may_choose map target v ≡ true
choice_granted map (slot k) f v facts a e =
    pick_cases (λ t. t ≡ true) (leb (address_slot 0) k)
    (λ h. granted 25 28 (listed map (k - address_slot 0)) f v a (each_picked (leb (address_slot 0) k) h e))
    (λ h. refl)
choice_granted map (latch b p l) f v facts a e = refl

module _ (image table : List ℕ) (depth pc : ℕ) (span : Span) where
  call_granted : (control : Control) → Each Yes (control_questions image table depth pc span control) → may_call control depth ≡ true
  call_granted (jump a) e = refl
  call_granted (branch page i) e = refl
  call_granted (defer page i) e = refl
  call_granted (call i) (also room e) = room
  call_granted return e = refl

  return_granted : (control : Control) → Each Yes (control_questions image table depth pc span control) → may_return control depth ≡ true
  return_granted (jump a) e = refl
  return_granted (branch page i) e = refl
  return_granted (defer page i) e = refl
  return_granted (call i) e = refl
  return_granted return (also deep e) = deep

pub word_granted : (image map table bus : List ℕ) (s : State) (facts : List ℕ) (w : Shape) → within facts s.values ≡ true
    → Each Yes (word_findings image map table s.depth s.pc facts w) → Each Yes (word_questions map w bus s)
word_granted image map table bus s facts (act source op target) h e =
    also (read_granted map source facts s.values h (each_left asked chosen reads))
    (also (write_granted map target result facts s.values h (each_right asked chosen reads))
    (also
    (choice_granted map target result _ facts
    (result_allowed op _ _ (get_or facts 0 unknown) (source_fact source facts) (within_at facts s.values 0 h)
    (source_allowed source facts s.values bus h))
    (each_right asked chosen reads))
    none))
  where
    result : ℕ
    result = result_fact op (get_or facts 0 unknown) (source_fact source facts)

    asked : List Question
    asked = read_questions map source facts

    chosen : List Question
    chosen = target_questions map target result facts

    reads : Each Yes (asked ++ chosen)
    reads = each_left (asked ++ chosen) _ e
word_granted image map table bus s facts (go source control) h e =
    also (read_granted map source facts s.values h (each_left asked directed e))
    (also (call_granted image table s.depth s.pc (span_of source facts) control (each_right asked directed e))
    (also (return_granted image table s.depth s.pc (span_of source facts) control (each_right asked directed e)) none))
  where
    asked : List Question
    asked = read_questions map source facts

    directed : List Question
    directed = control_questions image table s.depth s.pc (span_of source facts) control
word_granted image map table bus s facts invalid h (also no_word e) = absurd (false≢true no_word)
