-- `digest::add` meets its contract: going on over the bytes left gives the digest of all. Assumes nothing.
use native.Mathlib.Omega.{arith}
use Rattle.digest.proofs.Laws.{digest_turn, digest_end}
use Rattle.digest.proofs.add.Goals as goal

pub loop-byte-preserved : goal.loop-byte-preserved
loop-byte-preserved c =
    let at = c.loop-byte in
    digest_turn c.args.bytes.now at.byte-index at.sum _ (omega arith) at.invariant c.add_byte-sum.ensures

pub returns : goal.returns
returns c =
    digest_end c.args.bytes.now c.loop-byte.byte-index c.loop-byte.sum _ (omega arith) c.loop-byte.invariant
