-- `running::run` meets its contract: a law for each way out. Assumes nothing.
use mathlib.Core.Path.{ap, ap₂, sym, subst, ◌∙◌}
use Rattle.choice.proofs.Library.{handed_on}
use Rattle.state.specs.declared.State.{State}
use Rattle.emulator.specs.Run.{Ended, run_told, ran_over, yielded, ended}
use Rattle.emulator.specs.Parts.{Accepted}
use Rattle.emulator.proofs.Door.{refused_11, refused_12, refused_14, refused_15, refused_16, let_in_lem, came_stopped, let_in_sound}
use Rattle.running.proofs.Laws.{formed}
use Rattle.running.proofs.run.Goals as goal

pub returns-then-not-image_fits : goal.returns-then-not-image_fits
returns-then-not-image_fits c =
    let a = c.args in
    refused_11 a.image.now a.map.now a.state.now a.recording.now a.trace.now (sym c.image_fits.ensures ∙ c.if-not-image_fits.true)

pub returns-in_default : goal.returns-in_default
returns-in_default c =
    let a = c.args in
    refused_12 a.image.now a.map.now a.state.now a.recording.now a.trace.now (sym c.image_fits.ensures ∙ c.if-not-image_fits.false) c.in_default.ensures.1

pub returns-in_err-s : goal.returns-in_err-s
returns-in_err-s c =
    let a = c.args in
    let unfit = c.in_err-s.ensures.refusal in
    ap (λ r. yielded (run_told r) a.state.now a.trace.now) (handed_on c.from_residual.result c.from_residual.ensures.1 unfit.1)
    ∙ refused_14 a.image.now a.map.now a.state.now a.recording.now a.trace.now (sym c.image_fits.ensures ∙ c.if-not-image_fits.false)
    c.in-Ok.ensures.1.long unfit.0

pub returns-then-recording-ne0 : goal.returns-then-recording-ne0
returns-then-recording-ne0 c =
    let a = c.args in
    refused_15 a.image.now a.map.now a.state.now a.recording.now a.trace.now (sym c.image_fits.ensures ∙ c.if-not-image_fits.false)
    c.in-Ok.ensures.1.long c.in_ok-s.ensures.formed.0 c.if-recording-ne0.true

pub returns-then-not-trace_fits : goal.returns-then-not-trace_fits
returns-then-not-trace_fits c =
    let a = c.args in
    refused_16 a.image.now a.map.now a.state.now a.recording.now a.trace.now (sym c.image_fits.ensures ∙ c.if-not-image_fits.false)
    c.in-Ok.ensures.1.long c.in_ok-s.ensures.formed.0 c.if-recording-ne0.false (sym c.trace_fits.ensures ∙ c.if-not-trace_fits.true)

pub returns-then-stop-ne0 : goal.returns-then-stop-ne0
returns-then-stop-ne0 c =
    let a = c.args in
    let l = c.in_ok-s.ensures.formed.2 in
    ap (λ (s : State). yielded (Ended 0 s.stop) a.state.now a.trace.now) l
    ∙ came_stopped a.image.now a.map.now a.state.now a.recording.now a.trace.now (sym c.image_fits.ensures ∙ c.if-not-image_fits.false)
    c.in-Ok.ensures.1.long c.in_ok-s.ensures.formed.0 c.if-recording-ne0.false (sym c.trace_fits.ensures ∙ c.if-not-trace_fits.false)
    c.in_ok-s.ensures.formed.1 c.state_of.ensures.bytes (λ e. c.if-stop-ne0.true (ap (λ (s : State). s.stop) l ∙ e))

pub run_from-requires : goal.run_from-requires
run_from-requires c =
    let a = c.args in (
      subst (Accepted a.image.now a.recording.now a.trace.now) (sym c.in_ok-s.ensures.formed.2)
          (let_in_sound a.image.now a.state.now a.recording.now a.trace.now (sym c.image_fits.ensures ∙ c.if-not-image_fits.false)
          c.in_ok-s.ensures.formed.1 (formed a.state.now c.in_ok-s.ensures.formed.0) c.state_of.ensures.bytes
          (sym c.trace_fits.ensures ∙ c.if-not-trace_fits.false)),
      c.if-stop-ne0.false,
      c.in_ok-s.ensures.formed.1,
    )

pub returns : goal.returns
returns c =
    let a = c.args in
    let_in_lem a.image.now a.map.now a.state.now a.recording.now a.trace.now (sym c.image_fits.ensures ∙ c.if-not-image_fits.false)
    c.in-Ok.ensures.1.long c.in_ok-s.ensures.formed.0 c.if-recording-ne0.false (sym c.trace_fits.ensures ∙ c.if-not-trace_fits.false) _
    (c.run_from.ensures
    ∙ ap₂ (λ map (s : State). ended a.trace.now (ran_over a.image.now map a.recording.now s)) c.in-Ok.ensures.1.same c.in_ok-s.ensures.formed.2)
