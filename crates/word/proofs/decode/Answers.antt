-- A word is made of its two bytes.
use mathlib.Core.Path.{◌≡◌, ap, ◌∙◌}
use borrow.Author.Rules.{rules}
use native.Mathlib.Omega.{arith}
use Prim.Native.Nat.{◌+◌, ◌*◌, ◌<◌}
use lib.ListN.{get_or}
use Rattle.std.specs.Int.{w16, to_be_bytes}
use Rattle.std.proofs.lemmas.Nat.{from_be_bytes-to_be_bytes_2}
use Rattle.word.specs.Word.{decoded}
use Rattle.word.proofs.Laws.{read_as}
use Rattle.word.proofs.decode.Goals as goal

pub returns : goal.returns
returns c = let w = c.args.word in
    let small : w < 65536 = search rules in
    let whole : get_or (to_be_bytes w16 w) 0 0 * 256 + get_or (to_be_bytes w16 w) 1 0 ≡ w = omega (arith, from_be_bytes-to_be_bytes_2 w small) in
    read_as w small (c.decode_bytes.ensures ∙ ap decoded (rw c.to_be_bytes.ensures whole))
