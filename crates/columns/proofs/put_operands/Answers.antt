-- `columns::put_operands` meets its contract: what is there and the fields left make the whole. Assumes nothing.
use Prim.Native.Nat.{◌<◌}
use mathlib.Core.Path.{◌≡◌, refl}
use mathlib.Core.List.{[], ◌++◌}
use native.Mathlib.Omega.{arith}
use lib.ListN.{length}
use Rattle.std.proofs.Common.{rules}
use Rattle.text.specs.Text.{space_text, octal}
use Rattle.text.proofs.Writing.{behind, the_same, nothing_written}
use Rattle.columns.proofs.Laws.{field_none, field_more, field_fits, field_last}
use Rattle.columns.proofs.put_operands.Goals as goal
use Rattle.columns.proofs.put_operands.Goals.{in-Some, in_default}

pub loop-field-init : goal.loop-field-init
loop-field-init c = ([], nothing_written _ _, refl)

pub put_number-b-requires : goal.put_number-b-requires
put_number-b-requires c =
    let turn = c.loop-field in
    let start = c in
    let three : length start.args.layout ≡ 3 = search rules in
    let next = field_fits start.args.layout turn.field-index (omega (arith, three, c.loop-field-test.true)) turn.invariant.0 turn.invariant.2 c.in-Some.is in
    (omega (arith, next, turn.invariant.1.place, turn.invariant.1.long, start.requires.0), omega (arith, next, start.requires.1))

pub loop-field-preserved : goal.loop-field-preserved
loop-field-preserved c =
    let turn = c.loop-field in
    let start = c in
    let three : length start.args.layout ≡ 3 = search rules in
    let below : turn.field-index < length start.args.layout = omega (arith, three, c.loop-field-test.true) in
    elim c.match-field.branch [
      | in-Some w ↦ (
        turn.invariant.0 ++ (space_text ++ octal w.in-Some.f.digits w.in-Some.f.value),
        rw (w.out-is, w.b-is) (behind turn.invariant.1 w.put_number-b.ensures),
        field_more start.args.layout turn.field-index below turn.invariant.0 turn.invariant.2 w.in-Some.is,
      )
      | in_default w ↦ (
        turn.invariant.0,
        rw (w.out-is, w.b-is) turn.invariant.1,
        field_none start.args.layout turn.field-index below turn.invariant.0 turn.invariant.2 w.in_default.is,
      )
    ]

pub returns : goal.returns
returns c =
    let turn = c.loop-field in
    let start = c in
    let three : length start.args.layout ≡ 3 = search rules in
    the_same turn.invariant.1 (field_last start.args.layout (omega (arith, three, c.loop-field-test.false)) turn.invariant.2)
