-- `field::rotate` meets its contract: std's rotation is the two shifts, which are the turn. Assumes nothing.
use mathlib.Core.Path.{◌≡◌, ◌∙◌}
use native.Mathlib.Omega.{arith}
use Prim.Native.Nat.{◌-◌, ◌*◌, ◌/◌, ◌%◌, ◌^◌}
use Rattle.std.proofs.Common.{rules}
use Rattle.std.proofs.lemmas.Nat.{or_comm}
use Rattle.field.proofs.Shifts.{shifts_rotate}
use Rattle.field.proofs.rotate.Goals as goal

pub returns : goal.returns
returns c =
    let x = c.args.x in
    let p = c.args.places in
    let turned : c.args.places % 8 ≡ c.args.places = omega arith in
    rw turned at c.rotate_right.ensures ∙ or_comm (x / 2 ^ p) (x * 2 ^ ((8 - p) % 8) % 256) ∙ shifts_rotate c.args.places (search rules) (search rules)
