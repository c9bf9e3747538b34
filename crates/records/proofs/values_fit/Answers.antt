-- `records::values_fit` meets its contract. Assumes nothing.
use Rattle.std.proofs.Common.{rules}
use mathlib.Core.Path.{refl, ◌∙◌}
use mathlib.Core.Bool.{◌||◌}
use Prim.Native.Nat.{◌+◌, ◌/◌, ◌%◌, ◌^◌}
use lib.Dec.{eqb}
use lib.ListN.{get_or}
use Rattle.std.proofs.lemmas.Iterator.{YieldsList-from_range}
use Rattle.std.proofs.lemmas.Iterator.Search.{all_from_yields_List}
use Rattle.records.proofs.Laws.{values_each}
use Rattle.records.proofs.values_fit.Goals as goal

pub returns : goal.returns
returns c =
    let b = c.args.b.now in
    all_from_yields_List (λ k. eqb (c.mask-m.result / 2 ^ k % 2) 1 || eqb (get_or b (4 + k) 0) 0) c.all.new.self _ c.all.result c.all.ensures.ran
    (YieldsList-from_range 0 11 11 refl refl)
    (λ x r q k. search rules)
    ∙ values_each b 0 11 c.mask-m.ensures
