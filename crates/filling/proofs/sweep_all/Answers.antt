-- `filling::sweep_all` meets its contract. The invariant: every sweep so far changed the table, and they are counted. The
-- measure is the sum of the cells' weights. Assumes nothing.
use native.Mathlib.Omega.{arith}
use Rattle.filling.proofs.Filling.{way_begins, way_next, way_less, way_ends, way_bound}
use Rattle.filling.proofs.sweep_all.Goals as goal

pub loop-count-init : goal.loop-count-init
loop-count-init c =
    let start = c in
    (start.requires.1, start.requires.3, way_begins start.args.image.now (λ k. (c.type_inv.image k).fits) start.requires.0 start.requires.2)

pub overflow_add-count : goal.overflow_add-count
overflow_add-count c =
    let start = c in
    let p = c.loop-count in
    omega (arith, way_bound start.args.image.now (λ k. (c.type_inv.image k).fits) start.requires.0 p.invariant.2, start.requires.1.words)

pub loop-count-smaller : goal.loop-count-smaller
loop-count-smaller c =
    let start = c in
    let done = c.sweep.ensures in
    way_less start.args.image.now (λ k. (c.type_inv.image k).fits) start.requires.0 c.loop-count.invariant.2 done.table done.flag c.loop-count-test.true

pub loop-count-preserved : goal.loop-count-preserved
loop-count-preserved c =
    let start = c in
    let done = c.sweep.ensures in
    (done.laid, done.agenda, way_next start.args.image.now (λ k. (c.type_inv.image k).fits) start.requires.0 c.loop-count.invariant.2 done.table done.flag c.loop-count-test.true)

pub returns : goal.returns
returns c =
    let start = c in
    let done = c.sweep.ensures in
    way_ends start.args.image.now (λ k. (c.type_inv.image k).fits) start.requires.0 c.loop-count.invariant.2 done.table done.flag c.loop-count-test.false
