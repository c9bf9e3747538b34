use Prim.Native.Nat.{◌*◌}
use Rattle.bitset.specs.Words.{Clear}
use Rattle.bitset.proofs.last_word.Given as goal

-- no number is in the words passed
abbrev pub invariant-loop-i : goal.invariant-loop-i
invariant-loop-i l = Clear l.set (l.i * 64) l.end
