-- `columns::put_line` meets its contract: the columns stand behind each other. Assumes nothing.
use mathlib.Core.Path.{sym, ap, ◌∙◌}
use native.Mathlib.Omega.{arith}
use Rattle.word.specs.Word.{is_valid}
use Rattle.text.proofs.Writing.{the_same, length_octal}
use Rattle.columns.specs.Line.{page_line}
use Rattle.columns.proofs.Laws.{word_long, line_columns}
use Rattle.columns.proofs.put_line.Goals as goal

pub put_number-c-requires : goal.put_number-c-requires
put_number-c-requires c =
    let start = c in
    let first = c.put_octal-b.ensures in
    (omega (arith, start.requires, first.place, first.long, length_octal 5 start.args.address), omega arith)

pub put-d-requires : goal.put-d-requires
put-d-requires c =
    let start = c in
    let first = c.put_octal-b.ensures in
    let second = c.put_number-c.ensures in
    omega (arith, start.requires, first.place, first.long, second.place, second.long, length_octal 5 start.args.address, length_octal 6 c.from-w.result)

pub put_word-e-requires : goal.put_word-e-requires
put_word-e-requires c =
    let start = c in
    let first = c.put_octal-b.ensures in
    let second = c.put_number-c.ensures in
    let third = c.put-d.ensures in (
      omega (arith, start.requires, first.place, first.long, second.place, second.long, third.place, third.long, length_octal 5 start.args.address, length_octal 6 c.from-w.result),
      omega arith,
      c.is_valid.ensures ∙ ap is_valid (sym (omega arith)),
    )

pub put-requires : goal.put-requires
put-requires c =
    let start = c in
    let first = c.put_octal-b.ensures in
    let second = c.put_number-c.ensures in
    let third = c.put-d.ensures in
    let fourth = c.put_word-e.ensures in
    let w = c.from-w.result in
    omega (arith, start.requires, first.place, first.long, second.place, second.long, third.place, third.long, fourth.place, fourth.long, length_octal 5 start.args.address, length_octal 6 w, word_long w)

pub returns : goal.returns
returns c =
    let start = c.args in
    let w = c.from-w.result in
    the_same (line_columns start.address w c.put_octal-b.ensures c.put_number-c.ensures c.put-d.ensures c.put_word-e.ensures c.put.ensures)
    (ap (page_line start.address) (omega arith))
