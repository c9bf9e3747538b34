-- `callers::is_call_site` meets its contract. Assumes nothing.
use mathlib.Core.Path.{refl, sym, ◌∙◌, ap}
use Rattle.processor.proofs.Forming.{read_shape}
use Rattle.forms.specs.Forms.{shape_is}
use Rattle.transfer.specs.Passes.{is_call, some}
use Rattle.callers.proofs.Sites.{site}
use Rattle.callers.proofs.Words.{itself, one_word}
use mathlib.Core.Bool.{not}
use Rattle.callers.proofs.is_call_site.Goals as goal

pub returns-in_default : goal.returns-in_default
returns-in_default c =
    let a = c.args in
    let form = c.form_of.result in
    site a.image.now a.table.now a.depth a.a c.reached.ensures (ap not c.if-not-reached.false) refl (read_shape a.image.now a.a c.word_at.ensures.0 c.form_of.ensures.0) refl
    (c.is_call.ensures ∙ sym (ap (some is_call) (itself a.image.now a.a _ form c.in_default.not-Defer) ∙ one_word is_call (shape_is form)))
