use Rattle.bitset.proofs.Joins.{Joined}
use Rattle.bitset.proofs.unite.Given as goal

-- the words passed are joined, the others are as they were
abbrev pub invariant-loop-i : goal.invariant-loop-i
invariant-loop-i l = Joined l.initial.set l.at l.off l.i l.set
