-- `map::count` meets its contract. Assumes nothing.
use mathlib.Core.Path.{ap, ◌∙◌}
use Rattle.map.specs.Map.{count_of}
use Rattle.map.proofs.Laws.{counted_refused, counted_sets, with_numbers}
use Rattle.map.proofs.count.Goals as goal

pub returns-in_default-clause-counts : goal.returns-in_default-clause-counts
returns-in_default-clause-counts c = with_numbers _ (counted_refused c.args.map.now c.in_default.ensures.1)

pub returns-clause-counts : goal.returns-clause-counts
returns-clause-counts c =
    let whole = c.in-Ok.ensures.1 in
    let sizes = c.sizes.ensures in
    with_numbers _
    (counted_sets c.args.map.now whole.long
    (sizes.0 ∙ ap (λ m. count_of m 0) whole.same)
    (sizes.1 ∙ ap (λ m. count_of m 1) whole.same)
    (sizes.2 ∙ ap (λ m. count_of m 2) whole.same)
    (sizes.3 ∙ ap (λ m. count_of m 3) whole.same))
