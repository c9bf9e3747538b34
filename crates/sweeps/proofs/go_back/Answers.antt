-- `sweeps::go_back` meets its contract. Assumes nothing.
use mathlib.Core.Path.{sym, ◌∙◌}
use Prim.Native.Nat.{◌-◌}
use Rattle.sweeps.proofs.Hub.{back_none}
use Rattle.sweeps.proofs.go_back.Goals as goal

pub returns-then-not-has : goal.returns-then-not-has
returns-then-not-has c =
    let start = c in
    let a = start.args in
    back_none a.image.now a.table.now a.marks.now a.hubs.now (a.t.depth - 1) a.t.c.facts start.requires.0 start.requires.1 start.requires.2 (sym c.has.ensures ∙ c.if-not-has.true)
