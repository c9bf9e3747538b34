-- What listing answers, and how the code says it.
use Rattle.std.specs.Prelude.{ℕ, Result, Ok, Err}
use Rattle.refusal.specs.declared.Refusal.{Refusal}
use Rattle.refusal.specs.Refusal.{refusal_number}

-- done, or a refusal at the door
pub data ListAnswer : Type 0 where
  Listed : ListAnswer
  Refused : (number : ℕ) → ListAnswer

-- the answer by the paper's numbers
abbrev pub answer_of : {A : Type 0} → Result A Refusal → ListAnswer
answer_of (Ok done) = Listed
answer_of (Err refusal) = Refused (refusal_number refusal)
