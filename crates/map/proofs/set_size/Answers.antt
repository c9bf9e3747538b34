-- `map::set_size` meets its contract: a set is four words. Assumes nothing.
use native.Mathlib.Omega.{arith}
use Rattle.map.proofs.Ones.{set_words}
use Rattle.map.proofs.set_size.Goals as goal

pub returns : goal.returns
returns c =
    let start = c.args in
    set_words start.map.now c.fits-map start.set
    c.ones_at.ensures.0 c.ones_at-2.ensures.0 c.ones_at-3.ensures.0
    c.ones_at-4.ensures.0 (omega arith) (omega arith) (omega arith) (omega arith)
