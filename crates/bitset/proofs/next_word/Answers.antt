-- `bitset::next_word` meets its contract. Assumes nothing.
use mathlib.Core.Path.{sym, subst}
use native.Mathlib.Omega.{arith}
use Rattle.bitset.specs.Bitset.{Next}
use Rattle.bitset.proofs.Nexts.{clear_word, next_some, end_at}
use Rattle.bitset.proofs.next_word.Goals as goal

pub returns-in-Some : goal.returns-in-Some
returns-in-Some c =
    let set = c.args.set.now in
    subst (Next set c.args.from c.args.end) (sym c.min.ensures)
    (next_some set c.loop-i.i (end_at set (omega arith) c.loop-i.invariant) c.in-Some.ensures (omega arith) (omega arith))

pub loop-i-preserved : goal.loop-i-preserved
loop-i-preserved c = clear_word c.args.set.now c.loop-i.i c.loop-i.invariant c.in_default.ensures
