-- `bitset::unite` meets its contract. Assumes nothing.
use native.Mathlib.Omega.{arith}
use Rattle.bitset.proofs.Joins.{joined_none, joined_more, joined_all}
use Rattle.bitset.proofs.unite.Goals as goal

pub loop-i-init : goal.loop-i-init
loop-i-init c = joined_none c.args.set.now c.args.at c.args.off

pub loop-i-preserved : goal.loop-i-preserved
loop-i-preserved c =
    joined_more c.args.set.now c.args.at c.args.off c.loop-i.invariant c.loop-i.auto.i (omega arith)

pub returns : goal.returns
returns c =
    joined_all c.args.set.now c.args.at c.args.off c.args.count c.loop-i.invariant (omega arith)
