-- What the code over a lent table, and over facts, asks of them.
use Rattle.std.specs.Prelude.{List, ℕ, ◌≤◌, ◌<◌, get_or}
use Rattle.facts.specs.Facts.{unknown}
use Rattle.facts.specs.Record.{Layout}

-- a table with the layout, of some number of cells, i among them
pub record HasCell (table : List ℕ) (i : ℕ) : Type 0 where
  pub cells : ℕ
  pub layout : Layout cells table
  pub inside : i < cells

-- each fact is a value or unknown
abbrev pub Bounded : List ℕ → Type 0
Bounded facts = (k : ℕ) → get_or facts k unknown ≤ unknown
