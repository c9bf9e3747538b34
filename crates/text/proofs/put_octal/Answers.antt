-- `text::put_octal` meets its contract: the part that the digits take is filled with them. Assumes nothing.
use Prim.Native.Nat.{ℕ, ◌+◌, ◌-◌}
use mathlib.Core.Path.{◌≡◌, ap, ◌∙◌}
use borrow.Rule.Slice.PartMut.{mid_len}
use native.Mathlib.Omega.{arith}
use Rattle.text.specs.Text.{octal}
use Rattle.text.proofs.Writing.{put_up_to, length_octal}
use Rattle.text.proofs.put_octal.Goals as goal

pub returns : goal.returns
returns c =
    let a = c.args in
    let long = length_octal a.digits a.value in
    let size : a.at + a.digits - a.at ≡ a.digits = omega arith in
    put_up_to a.out.now a.at (octal a.digits a.value) (omega (arith, long, c.requires.0)) _ _ (omega (arith, long))
    (c.fill_octal.ensures ∙ ap (λ (n : ℕ). octal n a.value) (mid_len a.at (a.at + a.digits) a.out.now c.requires.0 ∙ size))
