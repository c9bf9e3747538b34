-- `riptide::riptide_read_word` meets its contract. Assumes nothing.
use mathlib.Core.Path.{◌∙◌, ap, sym, subst}
use native.Mathlib.Omega.{arith}
use Rattle.word.specs.Word.{InRange}
use Rattle.word.proofs.Laws.{decoded_in_range}
use Rattle.numbers.specs.Words.{read_number}
use Rattle.riptide.proofs.riptide_read_word.Goals as goal

pub read_number-requires : goal.read_number-requires
read_number-requires c = subst InRange (sym c.decode.ensures.0) (decoded_in_range c.args.word (omega (arith, c.ranges.word)))

pub returns : goal.returns
returns c = c.read_number.ensures ∙ ap read_number c.decode.ensures.0
