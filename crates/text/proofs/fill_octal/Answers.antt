-- `text::fill_octal` meets its contract: it has the number's digit at each place. Assumes nothing.
use mathlib.Core.Path.{sym, ◌∙◌}
use native.Mathlib.Omega.{arith}
use Rattle.std.proofs.lemmas.List.{ext_get_or}
use Rattle.text.proofs.Writing.{length_octal, octal_at}
use Rattle.text.proofs.fill_octal.Goals as goal

pub returns : goal.returns
returns c =
    let at = c.loop-k in
    let a = c.args in
    ext_get_or 0 _ _ (at.auto.out ∙ sym (length_octal _ a.value))
    (λ i below. at.invariant i (omega (arith, at.auto.out)) ∙ sym (octal_at _ a.value i (omega (arith, at.auto.out))))
