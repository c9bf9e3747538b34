-- `bitset::last` meets its contract. Assumes nothing.
use mathlib.Core.Path.{sym, subst}
use Prim.Native.Nat.{◌-◌, ◌/◌}
use native.Mathlib.Omega.{arith}
use Rattle.bitset.specs.Bitset.{Last}
use Rattle.bitset.proofs.Nexts.{clear_none, start_at}
use Rattle.bitset.proofs.Lasts.{front_clear, last_some}
use Rattle.bitset.proofs.last.Goals as goal

pub returns-in-Some : goal.returns-in-Some
returns-in-Some c =
    let set = c.args.set.now in
    subst (Last set c.args.from c.args.end) (sym c.max.ensures)
    (last_some set ((c.args.end - 1) / 64) (omega arith) c.in-Some.ensures (start_at set (omega arith) (clear_none set c.args.end))
    (omega arith) c.requires.0)

pub last_word-requires : goal.last_word-requires
last_word-requires c = (omega arith, c.requires.1, front_clear c.args.set.now c.args.end (omega arith) c.in-None.ensures)
