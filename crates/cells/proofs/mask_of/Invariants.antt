use Rattle.std.proofs.Common.{◌≡◌, take}
use Rattle.facts.specs.Record.{mask_of}
use Rattle.cells.proofs.mask_of.Given as goal

abbrev pub invariant-loop-k : goal.invariant-loop-k
invariant-loop-k l = l.mask ≡ mask_of (take l.k l.fn.facts)
