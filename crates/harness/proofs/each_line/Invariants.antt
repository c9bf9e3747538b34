use Rattle.std.proofs.Common.{ℕ, ◌≤◌, length}
use Rattle.std.specs.Fn.{CalledAt}
use Rattle.std.specs.List.{FoldsTo}
use Rattle.harness.specs.Lines.{texts_from, line_texts}
use Rattle.harness.proofs.each_line.Given as goal

abbrev pub invariant-loop-rest : goal.invariant-loop-rest
invariant-loop-rest g l =
    goal.F-IsAlwaysCallable g l.case
    × ((n : ℕ) × (length l.rest ≤ n)
    × ((last : _) → FoldsTo (λ p rest q. CalledAt g.F.FnMut p rest tt q) l.case (texts_from n l.rest) last
    → FoldsTo (λ p rest q. CalledAt g.F.FnMut p rest tt q) l.fn.case (line_texts l.fn.text) last))

abbrev pub decreases-loop-rest : goal.decreases-loop-rest
decreases-loop-rest g l = length l.rest
