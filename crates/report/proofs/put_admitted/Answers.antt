-- `report::put_admitted` meets its contract: a map's counts are small. Assumes nothing.
use native.Mathlib.Omega.{arith}
use Rattle.report.proofs.Writing.{small_counts, admitted_line_lem}
use Rattle.report.proofs.put_admitted.Goals as goal

pub put_sets-requires : goal.put_sets-requires
put_sets-requires c =
    let put = c.put_value-a.ensures in
    let small = small_counts c.args.map.now c.sizes.ensures in
    (omega (arith, c.requires.0, put.1, put.0.long), small.0, small.1, small.2, small.3)

pub returns : goal.returns
returns c =
    let put = c.put_value-a.ensures in
    let last = c.put_sets.ensures in
    ((λ image e. admitted_line_lem image c.args.map.now e c.sizes.ensures put.0 last.0), omega (arith, put.1, last.1))
