-- `bitset::take` meets its contract. Assumes nothing.
use Rattle.bitset.proofs.Sets.{taken_out}
use Rattle.bitset.proofs.take.Goals as goal

pub returns : goal.returns
returns c = taken_out c.args.set.now c.args.i c.requires
