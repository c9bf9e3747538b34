-- `digest::generate` meets its contract: the bytes there and those left are the generator's. Assumes nothing.
use native.Mathlib.Omega.{arith}
use Rattle.digest.proofs.Laws.{generated_turn, generated_end}
use Rattle.digest.proofs.generate.Goals as goal

pub loop-byte-preserved : goal.loop-byte-preserved
loop-byte-preserved c =
    let at = c.loop-byte in
    generated_turn at.byte-items at.byte-index at.x (omega (arith, at.auto.byte-items)) c.next-x.ensures (rw (← c.from.ensures) c.byte_of.ensures) at.invariant

pub returns : goal.returns
returns c =
    let at = c.loop-byte in
    generated_end at.byte-items at.byte-index at.x (omega (arith, at.auto.byte-items)) at.invariant
