-- `sweeps::returns` meets its contract. Assumes nothing.
use Rattle.sweeps.proofs.Beginning.{returns_told}
use Rattle.sweeps.proofs.returns.Goals as goal

pub returns : goal.returns
returns c =
    let start = c in
    let a = start.args in
    returns_told a.image.now a.t.i a.t.depth a.t.pc start.requires.0 a.t.c c.if-not-t.false c.if-t-eq0.false start.requires.2 (rw c.of.ensures at c.performs.ensures)
