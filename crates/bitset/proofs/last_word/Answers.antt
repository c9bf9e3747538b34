-- `bitset::last_word` meets its contract. Assumes nothing.
use mathlib.Core.Path.{sym, subst}
use Prim.Native.Nat.{◌-◌}
use native.Mathlib.Omega.{arith}
use Rattle.bitset.specs.Bitset.{Last}
use Rattle.bitset.proofs.Nexts.{start_at}
use Rattle.bitset.proofs.Lasts.{word_clear, last_some}
use Rattle.bitset.proofs.last_word.Goals as goal

pub returns-in-Some : goal.returns-in-Some
returns-in-Some c =
    let set = c.args.set.now in
    subst (Last set c.args.from c.args.end) (sym c.max.ensures)
    (last_some set (c.loop-i.i - 1) (omega arith) c.in-Some.ensures (start_at set (omega arith) c.loop-i.invariant) (omega arith)
    (omega arith))

pub loop-i-preserved : goal.loop-i-preserved
loop-i-preserved c =
    word_clear c.args.set.now (c.loop-i.i - 1) c.in_default.ensures (start_at c.args.set.now (omega arith) c.loop-i.invariant)
