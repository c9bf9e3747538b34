-- `order::all_know_no_more` meets its contract. Assumes nothing.
use Rattle.std.proofs.Common.{rules}
use mathlib.Core.Path.{◌∙◌}
use native.Mathlib.Omega.{arith}
use Rattle.std.proofs.lemmas.Iterator.{YieldsList-from_slice, YieldsList-from_zip}
use Rattle.std.proofs.lemmas.Iterator.Search.{all_from_yields_List}
use Rattle.facts.specs.Facts.{knows_no_more}
use Rattle.order.proofs.Order.{all_pairs}
use Rattle.order.proofs.all_know_no_more.Goals as goal

pub returns : goal.returns
returns c =
    all_from_yields_List (λ p. knows_no_more p.0 p.1) c.all.new.self _ c.all.result c.all.ensures.ran
    (YieldsList-from_zip (YieldsList-from_slice c.args.f cc) (YieldsList-from_slice c.args.g cc)) (λ x b q k. search rules)
    ∙ all_pairs c.args.f c.args.g (omega (arith, c.well_formed.0, c.well_formed.1.0))
