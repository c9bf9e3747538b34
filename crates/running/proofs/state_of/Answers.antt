-- `running::state_of` meets its contract: the length, and what is loaded, decide whether the state fits. Assumes nothing.
use mathlib.Core.Path.{refl, sym, ap, ◌∙◌}
use Rattle.state.specs.State.{loaded, well_formed}
use Rattle.emulator.proofs.Door.{wrong_length, not_formed, fits}
use Rattle.running.proofs.state_of.Goals as goal

pub returns-in_default-clause-refusal : goal.returns-in_default-clause-refusal
returns-in_default-clause-refusal c = (wrong_length c.args.bytes.now c.in_default.ensures.1, refl)

pub returns-then-not-well_formed-clause-refusal : goal.returns-then-not-well_formed-clause-refusal
returns-then-not-well_formed-clause-refusal c =
    let whole = c.in-Ok.ensures.1 in
    let l = c.load-s.ensures ∙ ap loaded whole.same in
    (not_formed c.args.bytes.now whole.long (sym (c.well_formed-2.ensures ∙ ap well_formed l) ∙ c.if-not-well_formed.true), refl)

pub returns-clause-formed : goal.returns-clause-formed
returns-clause-formed c =
    let whole = c.in-Ok.ensures.1 in
    let l = c.load-s.ensures ∙ ap loaded whole.same in
    (fits c.args.bytes.now whole.long (sym (c.well_formed-2.ensures ∙ ap well_formed l) ∙ c.if-not-well_formed.false), whole.long, l)
