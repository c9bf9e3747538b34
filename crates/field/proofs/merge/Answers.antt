-- `field::merge` meets its contract. Assumes nothing.
use Rattle.std.proofs.Common.{rules}
use Rattle.field.proofs.Shifts.{masks_merge}
use Rattle.field.proofs.merge.Goals as goal

pub returns : goal.returns
returns c =
    rw c.ones.ensures
    (masks_merge c.args.position c.args.length c.args.value (search rules) (search rules))
