-- `callers::gives` meets its contract. Assumes nothing.
use mathlib.Core.Path.{ap₂}
use Prim.Native.Nat.{ℕ, ◌+◌, ◌-◌, ◌%◌}
use lib.Dec.{ltb}
use Rattle.transfer.specs.Passes.{gives}
use Rattle.callers.proofs.gives.Goals as goal

pub returns : goal.returns
unfolding gives
returns c =
    ap₂ (λ (i size : ℕ). ltb ((c.args.k + (size - (i + c.args.v.low) % size)) % size) c.args.v.count) c.from.ensures c.size-size.ensures.0
