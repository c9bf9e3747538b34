-- Foretelling (request 2026-07 of document 02): what an admission of an image takes.
use Rattle.std.specs.Prelude.{List, [], ◌∷◌, ℕ, Result, Ok, Err}
use Rattle.choice.specs.Choice.{Question, ask, asked}
use Rattle.emulator.specs.Run.{image_fits}
use Rattle.transfer.specs.Passes.{table_length, sweep_bound}
use Rattle.refusal.specs.declared.Refusal.{Refusal}
use Rattle.foretell.specs.declared.Forecast.{Forecast}

-- What foretelling answers: the table's length and the most sweeps that admission can count; or a refusal at the door.
pub data ForetellAnswer : Type 0 where
  Refused : ForetellAnswer
  Foretold : ℕ → ℕ → ForetellAnswer

-- what the code answers
abbrev pub foretold_as : Result Forecast Refusal → ForetellAnswer
foretold_as (Ok forecast) = Foretold forecast.length forecast.bound
foretold_as (Err refusal) = Refused

-- "That call puts question 11 alone."
abbrev pub foretell_questions : List ℕ → List Question
foretell_questions image = ask 11 (image_fits image) ∷ []

-- "A second call takes only an image and gives the table's length and this bound"
unfoldable pub foretold : List ℕ → ForetellAnswer
foretold image = asked (foretell_questions image) (Foretold (table_length image) (sweep_bound image)) (λ number. Refused)

-- The paper's numbers for each case: 0, the length and the bound; or 11.
abbrev pub foretold_numbers : ForetellAnswer → List ℕ
foretold_numbers Refused = 11 ∷ []
foretold_numbers (Foretold length bound) = 0 ∷ length ∷ bound ∷ []

-- the same told in numbers alone
unfoldable pub foretelling : List ℕ → List ℕ
foretelling image = asked (foretell_questions image) (0 ∷ table_length image ∷ sweep_bound image ∷ []) (λ number. number ∷ [])

-- the bound of an answer; a refusal foretells no sweep
abbrev pub bound_of : ForetellAnswer → ℕ
bound_of Refused = 0
bound_of (Foretold length bound) = bound
