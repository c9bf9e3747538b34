-- `report::put_found` meets its contract. Assumes nothing.
use native.Mathlib.Omega.{arith}
use Rattle.findings.specs.Findings.{fault_number}
use Rattle.report.proofs.Writing.{found_line_lem}
use Rattle.report.proofs.put_found.Goals as goal

pub returns : goal.returns
returns c =
    let failure = c.args.failure in
    let u = c.put_value-b.ensures in
    let v = c.put_value-c.ensures in
    let w = c.put_value.ensures in
    (found_line_lem (fault_number failure.fault) failure.depth failure.address (rw (c.from.ensures, c.number.ensures) at u.0) v.0 w.0, omega (arith, u.1, v.1, w.1))
