-- `sweeps::back_to` meets its contract. Assumes nothing.
use mathlib.Core.Bool.{true}
use mathlib.Core.Path.{sym, ◌∙◌, ap, subst}
use Prim.Native.Nat.{◌-◌}
use Rattle.facts.specs.Record.{cell_of, FineCell}
use Rattle.transfer.proofs.TableLaws.{fine_facts}
use Rattle.sweeps.proofs.Hub.{hub_covers, hub_walked}
use Rattle.sweeps.proofs.back_to.Goals as goal

pub returns-then-covered : goal.returns-then-covered
returns-then-covered c =
    let start = c in
    let a = start.args in
    let cell = c.cell-c.ensures.0 ∙ ap (cell_of true) c.of-facts.ensures in
    hub_covers a.image.now (λ k. (c.type_inv.image k).fits) a.table.now a.marks.now a.hubs.now (a.t.depth - 1) a.t.c.facts start.requires.0 start.requires.1 start.requires.2 start.requires.4.deep
    (fine_facts (cell_of true a.t.c.facts) (subst FineCell cell c.cell-c.ensures.1)) (sym (rw cell at c.covered.ensures) ∙ c.if-covered.true)

pub returns : goal.returns
returns c =
    let start = c in
    let a = start.args in
    let cell = c.cell-c.ensures.0 ∙ ap (cell_of true) c.of-facts.ensures in
    hub_walked a.image.now (λ k. (c.type_inv.image k).fits) a.table.now a.marks.now a.hubs.now (a.t.depth - 1) a.t.c.facts start.requires.0 start.requires.1 start.requires.2 start.requires.4.deep
    (fine_facts (cell_of true a.t.c.facts) (subst FineCell cell c.cell-c.ensures.1)) a.t.i start.requires.4 start.requires.6
    (rw c.of-facts.ensures at c.walk_back-r.ensures) (rw cell at c.keep_hub.ensures)
