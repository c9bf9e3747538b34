-- `bitset::next` meets its contract. Assumes nothing.
use mathlib.Core.Path.{sym, subst}
use Prim.Native.Nat.{◌/◌}
use native.Mathlib.Omega.{arith}
use Rattle.bitset.specs.Bitset.{Next}
use Rattle.bitset.proofs.Nexts.{clear_none, next_some, rest_clear, end_at}
use Rattle.bitset.proofs.next.Goals as goal

pub returns-in-Some : goal.returns-in-Some
returns-in-Some c =
    let set = c.args.set.now in
    subst (Next set c.args.from c.args.end) (sym c.min.ensures)
    (next_some set (c.args.from / 64) (end_at set (omega arith) (clear_none set c.args.from)) c.in-Some.ensures (omega arith)
    c.requires.0)

pub next_word-requires : goal.next_word-requires
next_word-requires c = (omega arith, c.requires.1, rest_clear c.args.set.now c.args.from c.in-None.ensures)
