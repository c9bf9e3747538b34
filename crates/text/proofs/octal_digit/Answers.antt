-- `text::octal_digit` meets its contract: an octal digit is three bits. Assumes nothing.
use mathlib.Core.Path.{◌∙◌, ap}
use Prim.Native.Nat.{ℕ, ◌+◌, ◌/◌, ◌%◌}
use Rattle.text.proofs.Writing.{eights}
use Rattle.text.proofs.octal_digit.Goals as goal

pub returns : goal.returns
returns c =
    c.digit.ensures ∙ ap (λ (x : ℕ). 48 + c.args.value / x % 8) (eights c.args.place)
