-- What the walk over the passes of a cell asks of its tables, and what it does.
use Rattle.std.specs.Prelude.{◌≡◌, Bool, true, false, not, List, ℕ, ◌*◌, ◌≤◌, ◌<◌, ltb, length}
use Rattle.choice.specs.Choice.{pick}
use Rattle.machine.specs.Step.{word_count}
use Rattle.flow.specs.Flow.{Pass, join_all, changes_all, all_covered}
use Rattle.facts.specs.declared.Cell.{Cell}
use Rattle.facts.specs.Record.{depths, cell_at, Layout}
use Rattle.transfer.specs.Passes.{table_space}
use Rattle.marks.specs.Marks.{Sited, Noted}

-- an image of at most 8,192 words and its table, with no finding in it
pub record Laid (image table : List ℕ) : Type 0 where
  pub words : word_count image ≤ 8192
  pub layout : Layout (depths * word_count image) table

-- The walk goes over a table that is asked whether it holds what is passed on; or, where that one is empty, over a table
-- into which it is joined.
abbrev pub asks : List ℕ → Bool
asks asked = ltb 0 (length asked)

abbrev pub seen : List ℕ → List ℕ → List ℕ
seen asked table = pick (asks asked) asked table

-- the table that is seen has its layout, and marks go with one that is joined into
pub record Ready (image asked table marks : List ℕ) : Type 0 where
  pub words : word_count image ≤ 8192
  pub layout : Layout (depths * word_count image) (seen asked table)
  pub sited : asks asked ≡ false → Sited image table marks

-- Passes asked of one table, and then the other is left as it was; or joined into the other, and what changes there is noted
-- in its marks, m before and n after. Whether one was not held, or changed it. Cells of lower depths than `depth` stay as
-- they were.
pub record Passed (image asked : List ℕ) (depth : ℕ) (before m : List ℕ) (passes : List (Pass Cell)) (after n : List ℕ) (changed : Bool) : Type 0 where
  pub table : after ≡ pick (asks asked) before (join_all (table_space image) before passes)
  pub flag : changed ≡ pick (asks asked) (not (all_covered (table_space image) asked passes)) (changes_all (table_space image) before passes)
  pub laid : Layout (depths * word_count image) (seen asked after)
  pub kept : (i : ℕ) → i < depth * word_count image → cell_at (seen asked after) i ≡ cell_at (seen asked before) i
  pub noted : asks asked ≡ false → Noted image before m after n
  pub spared : asks asked ≡ true → n ≡ m
