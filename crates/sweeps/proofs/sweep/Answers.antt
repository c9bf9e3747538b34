-- `sweeps::sweep` meets its contract. The invariant: the turns left, from the table now, give the whole sweep. Assumes
-- nothing.
use Rattle.sweeps.proofs.Rounds.{round_begins, round_next, round_ends}
use Rattle.sweeps.proofs.sweep.Goals as goal

pub loop-i-init : goal.loop-i-init
loop-i-init c =
    let start = c in
    let a = start.args in
    round_begins a.image.now (λ k. (c.type_inv.image k).fits) a.table.now start.requires.0 start.requires.1 c.next-i.ensures

pub loop-i-preserved : goal.loop-i-preserved
loop-i-preserved c =
    let a = c.args in
    let p = c.loop-i in
    round_next a.image.now (λ k. (c.type_inv.image k).fits) a.table.now c.loop-i-test.true p.invariant c.turn-changed.ensures c.next-i-in-loop-i.ensures

pub returns : goal.returns
returns c =
    let a = c.args in
    round_ends a.image.now (λ k. (c.type_inv.image k).fits) a.table.now c.loop-i-test.false c.loop-i.invariant
