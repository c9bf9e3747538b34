-- What is told of a form's case is told of the form; a word that is no XEC has no eighth question.
use mathlib.Core.Path.{◌≡◌, subst⁻¹}
use mathlib.Core.List.{List}
use Prim.Native.Nat.{ℕ}
use Rattle.forms.specs.declared.Form.{Form}
use Rattle.forms.specs.Forms.{shape_is}
use Rattle.transfer.specs.Findings.{word_findings}
use Rattle.findings.specs.Findings.{Tells}

module _ (image map table : List ℕ) (depth pc : ℕ) (fs : List ℕ) {f g : Form} (r : ℕ) (e : f ≡ g) where
  pub retold : Tells r (word_findings image map table depth pc fs (shape_is g)) → Tells r (word_findings image map table depth pc fs (shape_is f))
  retold t = subst⁻¹ (λ (x : Form). Tells r (word_findings image map table depth pc fs (shape_is x))) e t
