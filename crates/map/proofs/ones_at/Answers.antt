-- `map::ones_at` meets its contract: the ones of the word are those of its bytes. Assumes nothing.
use mathlib.Core.Path.{ap, ◌∙◌}
use native.Mathlib.Omega.{arith}
use lib.Count.{ones}
use Rattle.map.proofs.Ones.{ones_together, ones_from_le}
use Rattle.map.proofs.ones_at.Goals as goal

pub returns : goal.returns
returns c =
    let map = c.args.map.now in
    let at = c.args.at in
    let e = ap ones c.word_at.ensures ∙ ones_together map c.fits-map at 8 in
    (e, omega (arith, e, ones_from_le map c.fits-map at 8))

pub overflow_cast-result : goal.overflow_cast-result
overflow_cast-result c = record { fits = omega (arith, (returns c).1) }
