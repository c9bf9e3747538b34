use Rattle.std.specs.Prelude.{◌≡◌, ◌<◌, ◌+◌, ◌*◌, ℕ, get_or}
use Rattle.state.specs.State.{number_at}
use Rattle.state.proofs.load_returns.Given as goal

-- the places before are filled
abbrev pub invariant-loop-place : goal.invariant-loop-place
invariant-loop-place l = (k : ℕ) → k < l.place → get_or l.r-items k 0 ≡ number_at l.b (19 + 2 * k)
