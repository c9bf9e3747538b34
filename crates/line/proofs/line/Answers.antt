-- `line::line` meets its contract: the line with its end behind it, from place 0. Assumes nothing.
use native.Mathlib.Omega.{arith}
use Rattle.text.proofs.Writing.{behind}
use Rattle.line.specs.Line.{line_of}
use Rattle.line.proofs.line.Goals as goal

pub returns : goal.returns
unfolding line_of
returns c =
    let v = c.put_words-e.ensures in
    let whole = behind v.0 c.put.ensures in
    (whole.line, omega (arith, c.requires, v.1, whole.long, c.put.ensures.place), whole.beyond)
