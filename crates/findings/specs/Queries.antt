-- What the cell questions are put of, as the code holds it together.
use Rattle.std.specs.Prelude.{◌≡◌, List, ℕ, ◌-◌}
use Rattle.machine.specs.Step.{word_count}
use Rattle.transfer.specs.Passes.{is_call_site}
use Rattle.transfer.specs.Findings.{all_below}
use Rattle.findings.specs.declared.Query.{Query}

-- of a table: whether the address after every call site at the depth below is inside the code
abbrev pub Back : Query → List ℕ → Type 0
Back q table = q.back ≡ all_below (word_count q.image.now) (word_count q.image.now) (is_call_site q.image.now table (q.depth - 1))
