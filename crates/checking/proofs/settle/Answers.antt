-- `checking::settle` meets its contract. The invariant: no cell before this one fails. Assumes nothing.
use mathlib.Core.Path.{sym, ap, ◌∙◌, subst}
use native.Mathlib.Omega.{arith}
use Rattle.machine.specs.Step.{word_count}
use Rattle.transfer.specs.Passes.{point_at}
use Rattle.transfer.proofs.First.{NoneBefore, none_before, none_yet}
use Rattle.findings.specs.Findings.{finding_number}
use Rattle.findings.proofs.Telling.{fault_some, no_fault}
use Rattle.checking.specs.Check.{Accepted, fault_at}
use Rattle.checking.proofs.Scanning.{fails_here, asks_next}
use Rattle.checking.proofs.settle.Goals as goal

pub loop-depth-init : goal.loop-depth-init
loop-depth-init c =
    subst (NoneBefore (fault_at c.args.image.now c.args.map.now c.args.table.now)) (omega arith)
    (none_before (fault_at c.args.image.now c.args.map.now c.args.table.now))

pub loop-address-init : goal.loop-address-init
loop-address-init c =
    subst (NoneBefore (fault_at c.args.image.now c.args.map.now c.args.table.now)) (omega arith) c.loop-depth.invariant

pub cell_fault-requires : goal.cell_fault-requires
cell_fault-requires c =
    (c.requires.0, omega arith, record { words = c.requires.0.words; inside = omega arith })

pub returns-in-Err : goal.returns-in-Err
returns-in-Err c =
    let a = c.args in
    let p = c.loop-address in
    let told = sym (ap finding_number c.in-Err.is) ∙ c.cell_fault.ensures in
    fails_here a.image.now (fault_at a.image.now a.map.now a.table.now) Accepted _ _ (omega arith) (omega arith) p.invariant told (fault_some c.in-Err.fault)

pub loop-address-preserved : goal.loop-address-preserved
loop-address-preserved c =
    let a = c.args in
    let f = fault_at a.image.now a.map.now a.table.now in
    let p = c.loop-address in
    subst (NoneBefore f) (omega arith)
    (none_yet f (point_at (word_count a.image.now) c.loop-depth.depth p.address) p.invariant (sym c.cell_fault.ensures ∙ no_fault c.cell_fault.result c.in_default.not-Err))

pub loop-depth-preserved : goal.loop-depth-preserved
loop-depth-preserved c =
    let a = c.args in
    subst (NoneBefore (fault_at a.image.now a.map.now a.table.now)) (omega arith) c.loop-address.invariant

pub returns : goal.returns
returns c =
    let a = c.args in
    asks_next a.image.now (fault_at a.image.now a.map.now a.table.now) Accepted (λ k l. c.loop-depth.invariant k (grind arith))
