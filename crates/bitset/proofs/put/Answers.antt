-- `bitset::put` meets its contract. Assumes nothing.
use Rattle.bitset.proofs.Sets.{put_in}
use Rattle.bitset.proofs.put.Goals as goal

pub returns : goal.returns
returns c = put_in c.args.set.now c.args.i c.requires
