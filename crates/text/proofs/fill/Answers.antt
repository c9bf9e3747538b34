-- `text::fill` meets its contract: the part up to the place is filled with spaces. Assumes nothing.
use Prim.Native.Nat.{◌-◌}
use mathlib.Core.Path.{◌≡◌, ap, ◌∙◌}
use borrow.Rule.Slice.PartMut.{mid_len}
use native.Mathlib.Omega.{arith}
use lib.ListN.{length, length-replicate}
use Rattle.text.specs.Text.{spaces}
use Rattle.text.proofs.Writing.{put_up_to}
use Rattle.text.proofs.fill.Goals as goal

pub returns : goal.returns
returns c =
    let a = c.args in
    let long : length (spaces (a.to - a.at)) ≡ a.to - a.at = length-replicate (a.to - a.at) 32 in
    put_up_to a.out.now a.at (spaces (a.to - a.at)) (omega (arith, long, c.requires)) _ _ (omega (arith, long, c.requires.0))
    (c.fill.ensures.after (λ y e. e) ∙ ap spaces (mid_len a.at a.to a.out.now c.requires.1))
