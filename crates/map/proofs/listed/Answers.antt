-- `map::listed` meets its contract. Assumes nothing.
use mathlib.Core.Path.{ap₂}
use mathlib.Core.Bool.{◌||◌}
use Rattle.map.proofs.listed.Goals as goal

pub returns : goal.returns
returns c = ap₂ ◌||◌ c.readable.ensures c.writable.ensures
