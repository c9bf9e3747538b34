-- `admission::mark` meets its contract. The loops go through the cells in order. Assumes nothing.
use mathlib.Core.Path.{subst}
use native.Mathlib.Omega.{arith}
use Rattle.admission.proofs.Marks.{Marks, marks_next, marks_end, marks_told}
use Rattle.admission.proofs.mark.Goals as goal

pub loop-address-preserved : goal.loop-address-preserved
loop-address-preserved c =
    let a = c.args in
    let p = c.loop-address in
    let told = c.mark_cell-found.ensures in
    subst (λ i. Marks a.image.now a.map.now a.table.now i c.mark_cell-found.new.table c.keep_lower-first.result) (omega arith)
    (marks_next c.requires.0 c.loop-depth.depth p.address p.table _ p.first c.mark_cell-found.result _ (omega arith) (omega arith) p.invariant told.number told.cell told.table c.keep_lower-first.ensures)

pub returns : goal.returns
returns c =
    let p = c.loop-depth in (
      marks_told c.requires.0 _ p.table p.first (grind arith) p.invariant,
      marks_end c.requires.0 _ p.table p.first (grind arith) p.invariant,
    )
