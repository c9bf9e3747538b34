use mathlib.Core.Path.{◌≡◌}
use lib.ListN.{drop}
use Rattle.digest.specs.Digest.{digest_of}
use Rattle.digest.proofs.add.Given as goal

abbrev pub invariant-loop-byte : goal.invariant-loop-byte
invariant-loop-byte l = digest_of l.sum (drop l.byte-index l.bytes) ≡ digest_of l.h l.bytes
