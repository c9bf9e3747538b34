-- `listing::lines` meets its contract: the lines there are those of the addresses passed. Assumes nothing.
use mathlib.Core.Path.{refl, ◌∙◌}
use native.Mathlib.Omega.{arith}
use Rattle.listing.specs.Listing.{lines_below}
use Rattle.listing.proofs.Laws.{line_more, lines_all, word_of_chunk}
use Rattle.listing.proofs.lines.Goals as goal

pub loop-a-init : goal.loop-a-init
unfolding lines_below
loop-a-init c = (refl, refl)

pub loop-a-preserved : goal.loop-a-preserved
loop-a-preserved c =
    let turn = c.loop-a in
    let words = c.as_chunks.ensures in
    let put = c.put_line.ensures in
    (line_more c.args.image.now turn.a turn.invariant.0 (word_of_chunk c.args.image.now turn.a _ words.front (omega (arith, words.front_len, c.loop-a-test.true))) put, put.long ∙ turn.invariant.1)

pub returns : goal.returns
returns c =
    let turn = c.loop-a in
    lines_all c.args.image.now turn.a turn.invariant.0 (omega (arith, c.as_chunks.ensures.front_len, turn.auto.a-end, c.loop-a-test.false)) (turn.invariant.1 ∙ c.requires)
