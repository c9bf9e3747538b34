-- The tables of a walk from one call to the next: the same loans, and so the same image and table that is asked.
use mathlib.Core.Path.{refl, ◌∙◌, subst}
use mathlib.Core.Bool.{Bool}
use mathlib.Core.List.{List}
use Prim.Native.Nat.{ℕ}
use denote.Ref.{Bor}
use Rattle.flow.specs.Flow.{Pass}
use Rattle.facts.specs.declared.Cell.{Cell}
use Rattle.passing.specs.declared.Tables.{Tables}
use Rattle.passing.specs.Passing.{Passed}
use Rattle.passing.specs.Tables.{PassedIn, SameLoans}

pub loans_same : {t : Tables} → SameLoans t t
loans_same = record { image = refl; asked = refl; table = refl; marks = refl }

pub loans_then : {s t u : Tables} → SameLoans s t → SameLoans t u → SameLoans s u
loans_then p q =
    record { image = q.image ∙ p.image; asked = q.asked ∙ p.asked; table = q.table ∙ p.table; marks = q.marks ∙ p.marks }

module _ {s t : Tables} (k : SameLoans s t) where
  -- what was passed on from t on, told of the image and the asked table of s
  pub passed_on : (u : Tables) {d : ℕ} {r : Bool} (ps : List ℕ → List ℕ → List (Pass Cell)) → PassedIn t d (ps t.image.now t.asked.now) u r
      → Passed s.image.now s.asked.now d t.table.now t.marks.now (ps s.image.now s.asked.now) u.table.now u.marks.now r
  passed_on u {d = d} {r = r} ps p =
      subst (λ (im : Bor (List ℕ)). Passed im.now s.asked.now d t.table.now t.marks.now (ps im.now s.asked.now) u.table.now u.marks.now r) k.image
      (subst (λ (asked : Bor (List ℕ)). Passed t.image.now asked.now d t.table.now t.marks.now (ps t.image.now asked.now) u.table.now u.marks.now r) k.asked p)
