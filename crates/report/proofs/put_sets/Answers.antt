-- `report::put_sets` meets its contract. Assumes nothing.
use native.Mathlib.Omega.{arith}
use Rattle.report.proofs.Writing.{sets_text_lem}
use Rattle.report.proofs.put_sets.Goals as goal

pub returns : goal.returns
returns c =
    let s = c.args.sizes in (
      sets_text_lem s.left_readable s.left_writable s.right_readable s.right_writable c.put_value-b.ensures.0 c.put_value-c.ensures.0 c.put_value-d.ensures.0 c.put_value.ensures.0,
      omega (arith, c.put_value-b.ensures.1, c.put_value-c.ensures.1, c.put_value-d.ensures.1, c.put_value.ensures.1),
    )
