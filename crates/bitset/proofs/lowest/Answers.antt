-- `bitset::lowest` meets its contract. Assumes nothing.
use Rattle.bitset.proofs.Lows.{lowest_some}
use Rattle.bitset.proofs.lowest.Goals as goal

pub returns : goal.returns
returns c = lowest_some c.args.w c.args.k c.ranges.w.fits c.if-x-eq0.false
