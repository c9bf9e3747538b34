-- `cases::after` meets its contract: it is behind the first place that has the mark. Assumes nothing.
use Rattle.std.proofs.Common.{eqb, drop, rules, tests}
use mathlib.Core.Path.{sym, ◌∙◌}
use Rattle.std.proofs.lemmas.Iterator.{YieldsList-from_slice}
use Rattle.std.proofs.lemmas.Iterator.Search.{position_from_yields_List}
use Rattle.cases.proofs.Laws.{the_tail, behind_mark, no_mark, found_below, found_none}
use Rattle.cases.proofs.after.Goals as goal

pub returns-in-Some : goal.returns-in-Some
returns-in-Some c =
    let a = c.args in
    behind_mark a.s.now a.from a.mark c.requires
    (found_below _ _ (sym c.in-Some.is ∙ position_from_yields_List (eqb a.mark) _ _ _ c.position.ensures.ran (YieldsList-from_slice (drop a.from a.s.now) (c.iter.ensures.rest ∙ the_tail a.from a.s.now)) (λ x b q k. search (rules, tests))))

pub returns-in-None : goal.returns-in-None
returns-in-None c =
    let a = c.args in
    no_mark a.s.now a.from a.mark c.requires
    (found_none _ _ (sym c.in-None.is ∙ position_from_yields_List (eqb a.mark) _ _ _ c.position.ensures.ran (YieldsList-from_slice (drop a.from a.s.now) (c.iter.ensures.rest ∙ the_tail a.from a.s.now)) (λ x b q k. search (rules, tests))))
