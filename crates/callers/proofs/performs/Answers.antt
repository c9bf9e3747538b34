-- `callers::performs` meets its contract. Assumes nothing.
use mathlib.Core.Path.{◌∙◌, ap, sym}
use Rattle.callers.specs.Callers.{asks}
use Rattle.forms.specs.Forms.{shape_is}
use Rattle.transfer.specs.Passes.{some}
use Rattle.callers.proofs.Words.{itself, one_word}
use Rattle.callers.proofs.performs.Goals as goal

pub returns-in_default : goal.returns-in_default
returns-in_default c =
    let a = c.args in
    let test = asks a.asked in
    c.is_asked.ensures
    ∙ sym (ap (some test) (itself a.image.now a.pc a.facts a.form c.in_default.not-Defer) ∙ one_word test (shape_is a.form))
