-- A state that fits. Assumes nothing.
use mathlib.Core.Path.{◌≡◌}
use Rattle.std.specs.Prelude.{List, ℕ, true, eqb, length}
use Rattle.choice.proofs.Laws.{and_second}
use Rattle.state.specs.State.{state_length, loaded, well_formed}
use Rattle.emulator.specs.Run.{state_fits}

-- a state that fits is well formed
pub formed : (state : List ℕ) → state_fits state ≡ true → well_formed (loaded state) ≡ true
unfolding state_fits
formed state = and_second (eqb (length state) state_length) (well_formed (loaded state))
