-- The tables of a walk as the code holds them together.
use Rattle.std.specs.Prelude.{◌≡◌, Bool, List, ℕ}
use Rattle.flow.specs.Flow.{Pass}
use Rattle.facts.specs.declared.Cell.{Cell}
use Rattle.passing.specs.declared.Tables.{Tables}
use Rattle.passing.specs.Passing.{Ready, Passed}

abbrev pub ReadyIn : Tables → Type 0
ReadyIn t = Ready t.image.now t.asked.now t.table.now t.marks.now

abbrev pub PassedIn : Tables → ℕ → List (Pass Cell) → Tables → Bool → Type 0
PassedIn s depth passes t changed = Passed s.image.now s.asked.now depth s.table.now s.marks.now passes t.table.now t.marks.now changed

-- the same image and table that is asked, and the same loans of the other table and its marks
pub record SameLoans (s t : Tables) : Type 0 where
  pub image : t.image ≡ s.image
  pub asked : t.asked ≡ s.asked
  pub table : t.table.ghost_name ≡ s.table.ghost_name
  pub marks : t.marks.ghost_name ≡ s.marks.ghost_name
