-- `text::put_value` meets its contract. Assumes nothing.
use native.Mathlib.Omega.{arith}
use Rattle.text.proofs.Writing.{behind}
use Rattle.text.proofs.put_value.Goals as goal

pub returns : goal.returns
returns c =
    let v = c.put-b.ensures in
    let w = c.put_decimal.ensures in
    (behind v w.0, omega (arith, v.place, w.1))
