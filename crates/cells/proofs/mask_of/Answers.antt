-- `cells::mask_of` meets its contract. Assumes nothing.
use mathlib.Core.Path.{refl}
use native.Mathlib.Omega.{arith}
use Prim.Native.Nat.{◌+◌}
use Rattle.facts.specs.Record.{mask_of}
use Rattle.cells.proofs.Laws.{mask_step, mask_fits}
use Rattle.cells.proofs.mask_of.Goals as goal

pub loop-k-init : goal.loop-k-init
unfolding mask_of
loop-k-init c = refl

pub overflow_add-mask : goal.overflow_add-mask
overflow_add-mask c =
    omega (
      arith,
      mask_step c.args.facts c.loop-k.k (omega (arith, c.well_formed.0)) (omega arith) c.loop-k.invariant c.from.ensures,
      mask_fits c.args.facts (c.loop-k.k + 1) (omega (arith, c.well_formed.0)),
    )

pub loop-k-preserved : goal.loop-k-preserved
loop-k-preserved c = mask_step c.args.facts c.loop-k.k (omega (arith, c.well_formed.0)) (omega arith) c.loop-k.invariant c.from.ensures
