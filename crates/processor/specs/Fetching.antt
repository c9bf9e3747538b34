-- What is fetched as the code holds it, and what a step needs.
use Rattle.std.specs.Prelude.{List, ◌≡◌, ◌<◌, ◌≤◌, ℕ, Option, Some, None, IfSome}
use Rattle.word.specs.declared.Word.{Word}
use Rattle.word.specs.declared.Word.TheVariants.{Invalid}
use Rattle.state.specs.State.{stack_places}
use Rattle.machine.specs.declared.Sequencer.{Sequencer}
use Rattle.machine.specs.Step.{word_count}

-- What is fetched: the decoded word, or none exactly where it is invalid.
abbrev pub Fetches : Word → Option Word → Type 0
Fetches word (Some w) = (word ≡ w) × (word ≡ Invalid → ⊥)
Fetches word None = word ≡ Invalid

-- What a step needs: at most 8,192 words, and of a well-formed state that PC is near while an
-- XEC is pending, and that the depth is within the stack.
pub record Runs (image : List ℕ) (q : Sequencer) : Type 0 where
  pub words : word_count image ≤ 8192
  pub near : IfSome q.pending (λ a. q.pc < 8192)
  pub shallow : q.depth ≤ stack_places
