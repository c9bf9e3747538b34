-- A choice between two values by a test, and the first no among questions: the two forms by which
-- document 01 tells what happens.
use Rattle.std.specs.Prelude.{Bool, true, false, List, [], ◌∷◌, ℕ}

module _ {A : Type 0} where
  -- the first value where the test holds, else the second
  abbrev pub pick : Bool → A → A → A
  pick true x y = x
  pick false x y = y

-- A question: the number that a no gives, and the answer.
pub record Question : Type 0 where
  pub number : ℕ
  pub answer : Bool

-- a question, written as the number that a no gives and the answer
abbrev pub ask : ℕ → Bool → Question
ask n b = record { number = n; answer = b }

module _ {A : Type 0} where
  -- the questions in order: the first no gives what is made of its number, yes to all gives the value
  abbrev pub asked : List Question → A → (ℕ → A) → A
  asked [] value refuse = value
  asked (q ∷ qs) value refuse = pick q.answer (asked qs value refuse) (refuse q.number)

-- the number of the first no, or 0 where every answer is yes
abbrev pub first_no : List Question → ℕ
first_no qs = asked qs 0 (λ n. n)
