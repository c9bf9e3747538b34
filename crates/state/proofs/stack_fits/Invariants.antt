use Rattle.std.specs.Prelude.{◌≡◌}
use Rattle.state.specs.State.{stack_fits}
use Rattle.state.proofs.stack_fits.Given as goal

-- what the places before tell
abbrev pub invariant-loop-place : goal.invariant-loop-place
invariant-loop-place l = l.fits ≡ stack_fits l.depth l.fn.returns l.place
