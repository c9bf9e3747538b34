-- Laws of what a part of the cell questions tells: none, one question, and two parts in order.
use mathlib.Core.Path.{◌≡◌, refl, sym, ◌∙◌, ap, subst⁻¹}
use mathlib.Core.Bool.{Bool, true, false}
use mathlib.Core.List.{List, [], ◌∷◌, ◌++◌, append_assoc, append-nil}
use Prim.Native.Nat.{ℕ}
use lib.Dec.{eqb}
use borrow.Author.Tests.{ne_eqb, eqb-true}
use Rattle.choice.specs.Choice.{pick, Question, ask, first_no}
use native.Mathlib.Omega.{arith}
use Rattle.std.specs.Prelude.{Result, Ok, Err, IsErrAnd, ⊤}
use Rattle.choice.proofs.Library.{handed_on}
use Rattle.findings.specs.declared.Fault.{Fault}
use Rattle.findings.specs.declared.Fault.TheVariants.{Stop, Unknown, Executed, Layout, Unheld}
use Rattle.machine.proofs.Stops.{stop_nonzero}
use Rattle.findings.specs.Findings.{fault_number, finding_number, Tells}

pub tells_none : Tells 0 []
tells_none = λ rest. refl

-- a yes goes on, a no is what is told
pub tells_yes : (n r : ℕ) (b : Bool) (qs : List Question) → b ≡ true → Tells r qs → Tells r (ask n b ∷ qs)
tells_yes n r b qs e t = λ rest. rw e (t rest)

pub tells_no : (n : ℕ) (b : Bool) (qs : List Question) → b ≡ false → (n ≡ 0 → ⊥) → Tells n (ask n b ∷ qs)
tells_no n b qs e h = λ rest. rw (e, ne_eqb n 0 h)

-- parts in order: the first tells nothing and the next goes on, or the first has the no
pub tells_then : (f r : ℕ) (ps qs : List Question) → f ≡ 0 → Tells f ps → Tells r qs → Tells r (ps ++ qs)
tells_then f r ps qs z p q = λ rest. ap first_no (append_assoc ps qs rest) ∙ (rw z at (p (qs ++ rest))) ∙ q rest

pub tells_stop : (f : ℕ) (ps qs : List Question) → (f ≡ 0 → ⊥) → Tells f ps → Tells f (ps ++ qs)
tells_stop f ps qs h p = λ rest. ap first_no (append_assoc ps qs rest) ∙ p (qs ++ rest) ∙ rw (ne_eqb f 0 h)

none_or : (r : ℕ) (b : Bool) → eqb r 0 ≡ b → pick b 0 r ≡ r
none_or r true e = sym (eqb-true r 0 e)
none_or r false e = refl

-- all the questions: the first no, or 0
pub tells_first : (r : ℕ) (ps : List Question) → Tells r ps → first_no ps ≡ r
tells_first r ps p = sym (ap first_no (append-nil ps)) ∙ p [] ∙ none_or r (eqb r 0) refl

-- a fault has a number
pub fault_some : (fault : Fault) → fault_number fault ≡ 0 → ⊥
fault_some (Stop why) z = stop_nonzero why z
fault_some Unknown z = absurd (omega arith)
fault_some Executed z = absurd (omega arith)
fault_some Layout z = absurd (omega arith)
fault_some Unheld z = absurd (omega arith)

-- what `?` hands on tells what came
pub hand_on : (r : Result ⊤ Fault) (fault : Fault) (qs : List Question) → IsErrAnd r (λ e. e ≡ fault) → Tells (fault_number fault) qs → Tells (finding_number r) qs
hand_on r fault qs e t = subst⁻¹ (λ x. Tells (finding_number x) qs) (handed_on r e refl) t

pub handed : (r : Result ⊤ Fault) (fault : Fault) → IsErrAnd r (λ e. e ≡ fault) → finding_number r ≡ fault_number fault
handed r fault e = ap finding_number (handed_on r e refl)

-- what has no fault has no number
pub no_fault : (r : Result ⊤ Fault) → ((fault : Fault) → r ≡ Err fault → ⊥) → finding_number r ≡ 0
no_fault (Ok fine) other = refl
no_fault (Err fault) other = absurd (other fault refl)
