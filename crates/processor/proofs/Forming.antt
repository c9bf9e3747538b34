-- The form of a word that is read: what is told of a form's case is told of the form that equals it.
use mathlib.Core.Path.{◌≡◌, ap, sym, subst⁻¹, ◌∙◌}
use mathlib.Core.List.{List}
use Prim.Native.Nat.{ℕ, ◌+◌, ◌*◌, ◌<◌}
use native.Mathlib.Omega.{arith}
use Rattle.word.specs.declared.Word.{Word}
use Rattle.word.specs.Word.{InRange, decoded}
use Rattle.word.proofs.Laws.{decoded_in_range}
use Rattle.state.specs.declared.State.{State}
use Rattle.forms.specs.declared.Form.{Form}
use Rattle.machine.specs.Shape.{Shape, shape_of}
use Rattle.machine.specs.Step.{Outcome, word_at, shape_at, word_step}
use Rattle.forms.specs.Forms.{shape_is}

pub retold : (map bus : List ℕ) (s : State) {f g : Form} {o : Outcome} → f ≡ g → o ≡ word_step map (shape_is g) bus s → o ≡ word_step map (shape_is f) bus s
retold map bus s e h = h ∙ sym (ap (λ (x : Form). word_step map (shape_is x) bus s) e)

-- a word that is read from its two bytes
pub read_in_range : (high low : ℕ) {w : Word} → high < 256 → low < 256 → w ≡ decoded (high * 256 + low) → InRange w
read_in_range high low h l e = subst⁻¹ InRange e (decoded_in_range (high * 256 + low) (omega arith))

pub read_shape : (image : List ℕ) (at : ℕ) {w : Word} {s : Shape} → w ≡ decoded (word_at image at) → s ≡ shape_of w → s ≡ shape_at image at
read_shape image at e h = h ∙ ap shape_of e
