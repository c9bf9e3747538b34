-- `harness::each_line` meets its contract: the calls that are left, behind those made, are with all texts. Assumes nothing.
use Prim.Native.Nat.{ℕ, ◌-◌, ◌<◌, ◌≤◌}
use mathlib.Core.Path.{refl, ap, subst}
use mathlib.Core.List.{List}
use native.Mathlib.Omega.{arith}
use lib.ListN.{length}
use Rattle.std.proofs.Common.{rules, tests, of_calls}
use Rattle.std.specs.Fn.{CalledAt}
use Rattle.std.specs.List.{FoldsTo}
use Rattle.cases.proofs.Laws.{the_tail}
use Rattle.harness.specs.Lines.{texts_from}
use Rattle.harness.proofs.Laws.{line_more, line_last}
use Rattle.harness.proofs.each_line.Goals as goal

pub loop-rest-preserved : goal.loop-rest-preserved
loop-rest-preserved g c =
    let at = c.loop-rest in
    let rest = at.rest.now in
    let n = at.invariant.1.0 in
    let next = c.after.result in
    let some : 0 < length rest = search (rules, tests) in (
      search of_calls,
      (
        n - 1,
        omega (arith, c.after.ensures.2 some, at.invariant.1.1, ap length (the_tail next rest)),
        λ last h.
            at.invariant.1.2 last
            (line_more rest _ at.case last c.case.new.self n next some (omega (arith, some, at.invariant.1.1)) c.after.ensures.3 (record { shown = at.rest; shows = refl; called = c.case.ensures })
            (subst (λ (l : List ℕ). FoldsTo (λ p rest q. CalledAt g.F.FnMut p rest tt q) c.case.new.self (texts_from (n - 1) l) last) (the_tail next rest) h)),
      ),
    )

pub returns : goal.returns
returns g c =
    let at = c.loop-rest in
    let none : length at.rest.now ≤ 0 = search (rules, tests) in
    (at.case, at.invariant.1.2 at.case (line_last at.rest.now _ at.case at.case at.invariant.1.0 none refl))
