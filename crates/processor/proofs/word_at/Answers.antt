-- `processor::word_at` meets its contract. Assumes nothing.
use Prim.Native.Nat.{◌+◌, ◌*◌}
use lib.ListN.{get_or}
use Rattle.processor.proofs.Forming.{read_in_range}
use Rattle.processor.proofs.word_at.Goals as goal

pub returns : goal.returns
returns c =
    let a = c.args in
    let byte = c.type_inv.image in
    (c.decode_bytes.ensures, read_in_range (get_or a.image.now (2 * a.at) 0) (get_or a.image.now (2 * a.at + 1) 0) (byte (2 * a.at)).fits (byte (2 * a.at + 1)).fits c.decode_bytes.ensures)
