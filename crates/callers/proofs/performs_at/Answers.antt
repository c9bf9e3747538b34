-- `callers::performs_at` meets its contract. Assumes nothing.
use Rattle.callers.proofs.Executing.{is_executed}
use mathlib.Core.Path.{ap}
use Rattle.processor.proofs.Forming.{read_shape}
use mathlib.Core.Bool.{not}
use Rattle.control.specs.Pages.{page_size}
use Rattle.callers.proofs.performs_at.Goals as goal

pub returns : goal.returns
returns c =
    let a = c.args in
    is_executed a.image.now a.pc (page_size a.w.page) a.w.i a.v a.k a.asked c.requires.2 c.gives.result c.gives.ensures (ap not c.if-not-gives.false)
    c.in_page-a.ensures c.if-image-a.false (read_shape a.image.now _ c.word_at.ensures.0 c.form_of.ensures.0) c.is_asked.ensures
