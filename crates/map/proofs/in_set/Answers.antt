-- `map::in_set` meets its contract: the last bit of the shifted byte is its remainder by 2. Assumes nothing.
use mathlib.Core.Path.{ap}
use Prim.Native.Nat.{ℕ, ◌+◌, ◌*◌, ◌/◌, ◌%◌, ◌^◌}
use lib.Bits.{and_mask}
use lib.Dec.{eqb}
use lib.ListN.{get_or}
use Rattle.map.specs.Map.{in_set}
use Rattle.map.proofs.in_set.Goals as goal

pub returns : goal.returns
unfolding in_set
returns c =
    rw c.from.ensures
    (ap (λ (n : ℕ). eqb n 1)
    (and_mask
    (get_or c.args.map.now (c.args.set * 32 + c.args.address / 8) 0
    / 2 ^ (c.args.address % 8))
    1))
