-- `callers::xec_performs` meets its contract. Assumes nothing.
use Rattle.std.proofs.Common.{rules}
use mathlib.Core.Path.{sym, ap, ◌∙◌}
use mathlib.Core.Bool.{◌&&◌}
use native.Mathlib.Omega.{arith}
use Prim.Native.Nat.{◌<◌}
use Rattle.std.proofs.lemmas.Iterator.{YieldsList-from_range, serves_from_Range}
use Rattle.std.proofs.lemmas.Iterator.Search.{any_from_yields_List}
use Rattle.control.specs.Pages.{page_size}
use Rattle.machine.specs.Step.{shape_at}
use Rattle.machine.specs.Shape.{source_of}
use Rattle.transfer.specs.Passes.{gives, page_address, can_be_executed, some}
use Rattle.callers.specs.Callers.{span_is, asks}
use Rattle.callers.proofs.Executing.{each_place, executed_from, executed_all}
use Rattle.callers.proofs.xec_performs.Goals as goal

pub returns : goal.returns
returns c =
    let a = c.args in
    let image = a.image.now in
    let page = page_size a.w.page in
    let span = span_is c.values_of-v.result in
    any_from_yields_List (λ j. (gives page a.w.i span j && can_be_executed image (page_address page a.pc j)) && asks a.asked (shape_at image (page_address page a.pc j)))
    c.any.new.self _ c.any.result c.any.ensures.ran (YieldsList-from_range 0 page page (ap (λ n. record { start = 0; end = n }) c.size.ensures.0) (omega arith))
    (λ x b q k. search rules)
    ∙ each_place (asks a.asked) image a.pc page a.w.i span 0 page
    ∙ ap (λ v. some (asks a.asked) (executed_from image a.pc page a.w.i v 0 page)) c.values_of-v.ensures.0
    ∙ ap (some (asks a.asked)) (sym (executed_all image a.pc page a.w.i a.facts (source_of a.w.s 0 0 a.w.l)))

pub any-requires-clause-callable : goal.any-requires-clause-callable
any-requires-clause-callable c =
    serves_from_Range (λ x q k. search rules)
    (λ x low high. let inside : x < page_size c.args.w.page = omega (arith, c.size.ensures.0) in
    λ _ _ _ _ _ _ _ _ _ _ _ _. (c.requires.0, c.values_of-v.ensures.1, inside))
