-- `running::run_from` meets its contract. Assumes nothing.
use mathlib.Core.Path.{ap, sym, subst, ◌∙◌}
use Rattle.state.specs.declared.State.{State}
use Rattle.state.specs.State.{stored}
use Rattle.emulator.specs.Run.{ran_over}
use Rattle.emulator.specs.Parts.{laid_over, Accepted}
use Rattle.emulator.proofs.Door.{finished}
use Rattle.running.proofs.run_from.Goals as goal

pub steps-last-requires : goal.steps-last-requires
steps-last-requires c =
    let s = c in
    subst (Accepted s.args.image.now s.args.recording.now s.args.trace.now)
    (sym s.sequencer_of-start.ensures) s.requires.0

pub returns : goal.returns
returns c =
    let s = c in
    let o = c.steps-last in
    let ran = ran_over s.args.image.now s.args.map.now s.args.recording.now in
    finished o.result _ _ _ _ _ s.args.trace.now (ran s.args.s)
    (o.ensures ∙ ap (λ (x : State). laid_over (ran x) s.args.trace.now) s.sequencer_of-start.ensures)
    (c.store.ensures ∙ ap stored c.last_state-after.ensures)

pub store-requires : goal.store-requires
store-requires c = c.requires.2
