-- `processor::form_at` meets its contract. Assumes nothing.
use Rattle.processor.proofs.Forming.{read_shape}
use Rattle.processor.proofs.form_at.Goals as goal

pub returns : goal.returns
returns c =
    let a = c.args in
    (read_shape a.image.now a.at c.word_at.ensures.0 c.form_of.ensures.0, c.form_of.ensures.1)
