-- `checking::judge` meets its contract. Assumes nothing.
use mathlib.Core.Path.{refl, ap}
use mathlib.Core.Bool.{not}
use native.Mathlib.Omega.{arith}
use Prim.Native.Nat.{◌*◌}
use Rattle.machine.specs.Step.{word_count}
use Rattle.facts.specs.Record.{depths}
use Rattle.emulator.proofs.Door.{image_some}
use Rattle.checking.proofs.Judging.{judged_42, all_laid, judged_start, judged_cells}
use Rattle.checking.proofs.judge.Goals as goal

pub returns-in-Some : goal.returns-in-Some
returns-in-Some c =
    let a = c.args in
    let found = c.in-Some.ensures (depths * word_count a.image.now) (omega (arith, c.requires.1)) in
    judged_42 a.image.now a.map.now a.table.now found.1 found.0

pub starts-requires : goal.starts-requires
starts-requires c = omega (arith, c.requires.1, image_some c.args.image.now c.requires.0)

pub returns-then-not-starts : goal.returns-then-not-starts
returns-then-not-starts c =
    let a = c.args in
    judged_start a.image.now a.map.now a.table.now refl (omega (arith, c.in_default.ensures (depths * word_count a.image.now) (omega (arith, c.requires.1)))) c.starts.ensures (ap not c.if-not-starts.true)

pub settle-requires : goal.settle-requires
settle-requires c =
    let a = c.args in
    (all_laid a.image.now a.map.now a.table.now refl (omega (arith, c.in_default.ensures (depths * word_count a.image.now) (omega (arith, c.requires.1)))) c.requires.0 c.requires.1 (λ k. (c.type_inv.table k).fits), image_some a.image.now c.requires.0)

pub returns : goal.returns
returns c =
    let a = c.args in
    judged_cells a.image.now a.map.now a.table.now refl (omega (arith, c.in_default.ensures (depths * word_count a.image.now) (omega (arith, c.requires.1)))) c.starts.ensures (ap not c.if-not-starts.false) c.settle.ensures

pub nonzero_div-result : goal.nonzero_div-result
nonzero_div-result c = image_some c.args.image.now c.requires.0

pub nonzero_rem-result : goal.nonzero_rem-result
nonzero_rem-result c = image_some c.args.image.now c.requires.0
