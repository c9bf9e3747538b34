-- `text::put` meets its contract. Assumes nothing.
use Rattle.text.proofs.Writing.{put_here}
use Rattle.text.proofs.put.Goals as goal

pub returns : goal.returns
returns c =
    let start = c in
    put_here start.args.out.now start.args.at start.args.text.now start.requires _ c.copy_from_slice.ensures.after
