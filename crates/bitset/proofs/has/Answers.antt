-- `bitset::has` meets its contract. Assumes nothing.
use mathlib.Core.Path.{ap}
use Prim.Native.Nat.{ℕ, ◌/◌, ◌%◌, ◌^◌}
use lib.Bits.{and_mask}
use lib.Dec.{eqb}
use lib.ListN.{get_or}
use Rattle.bitset.specs.Bitset.{has}
use Rattle.bitset.proofs.has.Goals as goal

-- the last bit of the shifted word is its remainder by 2
pub returns : goal.returns
unfolding has
returns c =
    let i = c.args.i in
    ap (λ (n : ℕ). eqb n 1) (and_mask (get_or c.args.set.now (i / 64) 0 / 2 ^ (i % 64)) 1)
