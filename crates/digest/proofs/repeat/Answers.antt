-- `digest::repeat` meets its contract: it has the word's two in turn at each place. Assumes nothing.
use mathlib.Core.Path.{sym, ◌∙◌}
use native.Mathlib.Omega.{arith}
use Rattle.std.proofs.lemmas.List.{ext_get_or}
use Rattle.digest.proofs.Laws.{length_in_turn, in_turn_at}
use Rattle.digest.proofs.repeat.Goals as goal

pub returns : goal.returns
returns c =
    let at = c.loop-i in
    let a = c.args in
    ext_get_or 0 _ _ (at.auto.out ∙ sym (length_in_turn a.high a.low _))
    (λ k below. at.invariant k (omega (arith, at.auto.out)) ∙ sym (in_turn_at a.high a.low _ k (omega (arith, at.auto.out))))
