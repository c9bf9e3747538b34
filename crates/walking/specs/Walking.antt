-- Which call sites a RET goes back to, as the walk finds them one by one from the last on.
use Rattle.std.specs.Prelude.{◌≡◌, Bool, true, false, List, Option, None, Some, ℕ, ◌+◌, ◌-◌, ◌≤◌, ◌<◌}
use Rattle.choice.specs.Choice.{pick}
use Rattle.machine.specs.Step.{word_count}
use Rattle.transfer.specs.Passes.{point_at, is_call_site}
use Rattle.marks.specs.Marks.{is_site}
use Rattle.passing.specs.Passing.{asks}

-- a call site at a depth and address: of the table that is asked, or by the marks of the one that is filled
abbrev pub site_at : List ℕ → List ℕ → List ℕ → ℕ → ℕ → Bool
site_at image asked marks depth a =
    pick (asks asked) (is_call_site image asked depth a) (is_site marks (point_at (word_count image) depth a))

-- one more than the last address below `end` that passes a test; 0 where none does
pub record LastBelow (test : ℕ → Bool) (end r : ℕ) : Type 0 where
  pub high : r ≤ end
  pub none : (k : ℕ) → r ≤ k → k < end → test k ≡ false
  pub found : 0 < r → test (r - 1) ≡ true

-- one more than a site that was found, 0 where none was
abbrev pub after_last : Option ℕ → ℕ
after_last None = 0
after_last (Some site) = site + 1
