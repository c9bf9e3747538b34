-- `records::all_zero` meets its contract. Assumes nothing.
use Rattle.std.proofs.Common.{rules}
use mathlib.Core.Path.{◌∙◌}
use lib.Dec.{eqb}
use Rattle.std.proofs.lemmas.Iterator.{YieldsList-from_slice}
use Rattle.std.proofs.lemmas.Iterator.Search.{all_from_yields_List}
use Rattle.records.proofs.Laws.{zero_each}
use Rattle.records.proofs.all_zero.Goals as goal

pub returns : goal.returns
returns c =
    all_from_yields_List (λ x. eqb x 0) c.all.new.self _ c.all.result c.all.ensures.ran (YieldsList-from_slice c.args.b.now cc)
    (λ x b q k. search rules)
    ∙ zero_each c.args.b.now
