-- `machine::Sequencer::of` meets its contract. Assumes nothing.
use mathlib.Core.Bool.{true, false}
use borrow.Author.Tests.{eq-eqb, ne_eqb}
use Rattle.machine.proofs.Numbers.{step_numbers}
use Rattle.machine.proofs.Sequencer.of.Goals as goal

pub returns-then-flag-eq1-clause-step : goal.returns-then-flag-eq1-clause-step
returns-then-flag-eq1-clause-step c image map bus values latches returns =
    step_numbers image map bus c.args.pc c.args.flag c.args.pending c.args.depth values latches returns true
    (eq-eqb c.args.flag 1 c.if-flag-eq1.true)

pub returns-else-flag-eq1-clause-step : goal.returns-else-flag-eq1-clause-step
returns-else-flag-eq1-clause-step c image map bus values latches returns =
    step_numbers image map bus c.args.pc c.args.flag c.args.pending c.args.depth values latches returns false
    (ne_eqb c.args.flag 1 c.if-flag-eq1.false)
