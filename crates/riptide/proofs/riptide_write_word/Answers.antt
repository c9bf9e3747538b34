-- `riptide::riptide_write_word` meets its contract. Assumes nothing.
use mathlib.Core.Path.{◌∙◌, ap, sym}
use Prim.Native.Nat.{ℕ, ◌*◌}
use Rattle.word.specs.Word.{encoded}
use Rattle.numbers.specs.Words.{write_number}
use Rattle.riptide.proofs.riptide_write_word.Goals as goal

pub returns-in-Some : goal.returns-in-Some
returns-in-Some c = ap (λ (w : ℕ). w * 256) c.from.ensures ∙ sym (ap write_number c.in-Some.is) ∙ ap write_number (c.encode.ensures.0 ∙ ap encoded c.word_from.ensures)

pub returns-in-None : goal.returns-in-None
returns-in-None c = c.from-in-None.ensures ∙ c.number.ensures ∙ sym (ap write_number c.in-None.is) ∙ ap write_number (c.encode.ensures.0 ∙ ap encoded c.word_from.ensures)
