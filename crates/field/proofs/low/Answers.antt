-- `field::low` meets its contract. Assumes nothing.
use Rattle.std.proofs.Common.{ap, ◌∙◌}
use lib.Bits.{bit_and, and_mask}
use Rattle.field.specs.Field.{width_of, low_bits}
use Rattle.field.proofs.low.Goals as goal

pub returns : goal.returns
unfolding low_bits
returns c = ap (bit_and c.args.x) c.ones.ensures ∙ and_mask c.args.x (width_of c.args.length)
