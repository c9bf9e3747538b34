-- What a form's case tells of its shape: that the word is a CALL, a RET, an XEC, or none.
use mathlib.Core.Path.{◌≡◌, refl}
use mathlib.Core.Bool.{Bool, false, ◌&&◌, not, or-false}
use mathlib.Core.List.{List, [], ◌∷◌}
use Prim.Native.Nat.{ℕ}
use Rattle.control.specs.declared.Paged.{Paged}
use Rattle.forms.specs.declared.Form.{Form}
use Rattle.forms.specs.declared.Form.TheVariants.{Act, Jump, Branch, Defer, Call, Return, Invalid}
use Rattle.machine.specs.Shape.{jump, branch, defer, call, return, Shape, act, go, invalid}
use Rattle.forms.specs.Forms.{shape_is}
use Rattle.transfer.specs.Passes.{directing, is_defer, is_call, is_return, some, words_at}

pub is_no_defer : (f : Form) → ((w : Paged) → f ≡ Defer w → ⊥) → false ≡ is_defer (shape_is f)
is_no_defer (Act a) o = refl
is_no_defer (Jump a) o = refl
is_no_defer (Branch w) o = refl
is_no_defer (Defer w) o = absurd (o w refl)
is_no_defer (Call i) o = refl
is_no_defer Return o = refl
is_no_defer Invalid o = refl

pub is_no_call : (f : Form) → ((i : ℕ) → f ≡ Call i → ⊥) → false ≡ is_call (shape_is f)
is_no_call (Act a) o = refl
is_no_call (Jump a) o = refl
is_no_call (Branch w) o = refl
is_no_call (Defer w) o = refl
is_no_call (Call i) o = absurd (o i refl)
is_no_call Return o = refl
is_no_call Invalid o = refl

pub is_no_return : (f : Form) → (f ≡ Return → ⊥) → false ≡ is_return (shape_is f)
is_no_return (Act a) o = refl
is_no_return (Jump a) o = refl
is_no_return (Branch w) o = refl
is_no_return (Defer w) o = refl
is_no_return (Call i) o = refl
is_no_return Return o = absurd (o refl)
is_no_return Invalid o = refl

-- a cell whose word is no XEC executes that word alone
pub itself : (image : List ℕ) (pc : ℕ) (facts : List ℕ) (f : Form) → ((w : Paged) → f ≡ Defer w → ⊥)
    → words_at image pc facts (shape_is f) ≡ shape_is f ∷ []
unfolding words_at
itself image pc facts (Act a) o = refl
itself image pc facts (Jump a) o = refl
itself image pc facts (Branch w) o = refl
itself image pc facts (Defer w) o = absurd (o w refl)
itself image pc facts (Call i) o = refl
itself image pc facts Return o = refl
itself image pc facts Invalid o = refl

-- an XEC is neither
pub no_xec : (called ret : Bool) (s : Shape) → not (is_defer s) && directing false called ret s ≡ directing false called ret s
no_xec called ret (act source op target) = refl
no_xec called ret (go source (jump a)) = refl
no_xec called ret (go source (branch page i)) = refl
no_xec called ret (go source (defer page i)) = refl
no_xec called ret (go source (call i)) = refl
no_xec called ret (go source return) = refl
no_xec called ret invalid = refl

pub one_word : (test : Shape → Bool) (s : Shape) → some test (s ∷ []) ≡ test s
unfolding some
one_word test s = or-false (test s)
