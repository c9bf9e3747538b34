-- JMP is what the definition reads at opcode 7; any other word is made of its opcode, bits 3-7 and low byte.
use mathlib.Core.Path.{◌≡◌}
use native.Mathlib.Omega.{arith}
use Prim.Native.Nat.{◌+◌, ◌*◌, ◌%◌}
use Rattle.word.specs.Word.{decoded, opcode_of, bits3to15}
use Rattle.word.proofs.decode_bytes.Goals as goal

pub returns-then-op-eq7 : goal.returns-then-op-eq7
unfolding decoded
returns-then-op-eq7 c = let args = c.args in
    let h = c.from-h.result in
    let l = c.from-l.result in
    let o : opcode_of (args.high * 256 + args.low) ≡ 7 = omega arith in
    let a : bits3to15 (args.high * 256 + args.low) ≡ h % 32 * 256 + l = omega arith in
    simp (o, a)
