use Rattle.machine.specs.Parts.{whole}
use Rattle.emulator.proofs.Going.{Going}
use Rattle.emulator.proofs.steps.Given as goal

abbrev pub invariant-loop-i : goal.invariant-loop-i
invariant-loop-i l =
    Going l.image l.map l.recording l.initial.trace (whole l.initial.q l.initial.values l.initial.latches l.initial.returns) l.i (whole l.q l.values l.latches l.returns) l.trace
