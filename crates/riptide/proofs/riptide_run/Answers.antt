-- `riptide::riptide_run` meets its contract. Assumes nothing.
use mathlib.Core.Path.{◌∙◌, ap}
use Rattle.emulator.specs.Run.{RunResult}
use Rattle.answers.specs.Numbers.{run_number}
use Rattle.riptide.proofs.riptide_run.Goals as goal

pub returns : goal.returns
returns c =
    let e = c.run.ensures in
    (c.run_number.ensures ∙ ap (λ (r : RunResult). run_number r.answer) e, ap (λ (r : RunResult). r.state) e, ap (λ (r : RunResult). r.trace) e)
