-- `columns::put_word` meets its contract: every layout fits. Assumes nothing.
use mathlib.Core.Path.{ap}
use native.Mathlib.Omega.{arith}
use lib.ListN.{length}
use Rattle.text.proofs.Writing.{the_same}
use Rattle.columns.specs.Parts.{spaced_text}
use Rattle.mnemonics.proofs.Laws.{mnemonic_long}
use Rattle.columns.proofs.Laws.{layout_room, word_columns_lem}
use Rattle.columns.proofs.put_word.Goals as goal

pub put-b-requires : goal.put-b-requires
put-b-requires c = omega (arith, ap length c.mnemonic-name.ensures, mnemonic_long c.args.w, c.requires.0)

pub put_operands-c-requires : goal.put_operands-c-requires
put_operands-c-requires c =
    let start = c in
    let named = the_same c.put-b.ensures c.mnemonic-name.ensures in
    let room = layout_room start.args.w c.operands.ensures in
    (omega (arith, start.requires.0, named.place, named.long, mnemonic_long start.args.w, room), room)

pub fill-requires : goal.fill-requires
fill-requires c =
    let start = c in
    let named = the_same c.put-b.ensures c.mnemonic-name.ensures in
    let told = c.put_operands-c.ensures in
    let room = layout_room start.args.w c.operands.ensures in
    (omega (arith, named.place, told.place, mnemonic_long start.args.w, room), omega (arith, start.requires.0, named.long, told.long))

pub returns : goal.returns
returns c =
    let start = c in
    let named = the_same c.put-b.ensures c.mnemonic-name.ensures in
    let told = the_same c.put_operands-c.ensures (ap spaced_text c.operands.ensures) in
    word_columns_lem start.args.w named told c.fill.ensures
