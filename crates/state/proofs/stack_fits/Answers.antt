use mathlib.Core.Path.{◌≡◌}
use native.Mathlib.Omega.{arith}
use Rattle.state.proofs.stack_fits.Goals as goal

pub returns : goal.returns
returns c = let all : c.loop-place.place ≡ 8 = omega arith in rw all at c.loop-place.invariant
