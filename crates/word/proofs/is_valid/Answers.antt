-- What is not Invalid is valid.
use native.Mathlib.Omega.{arith}
use Prim.Native.Nat.{◌+◌, ◌*◌}
use Rattle.word.proofs.Laws.{is_valid_lem, is_invalid}
use Rattle.word.proofs.is_valid.Goals as goal
use Rattle.word.proofs.is_valid.Goals.{in-Invalid, in_default}

pub returns : goal.returns
returns c =
    let word = c.args.high * 256 + c.args.low in
    elim c.match-matches.branch [
      | in-Invalid w ↦ rw w.matches-is (is_invalid word (omega arith) c.decode_bytes.ensures w.in-Invalid.is)
      | in_default w ↦ rw w.matches-is (is_valid_lem word (omega arith) c.decode_bytes.ensures w.in_default.not-Invalid)
    ]
