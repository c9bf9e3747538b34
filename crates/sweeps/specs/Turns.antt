-- The parts of a turn: its cell taken out of the marks, what it passes on by its own record, and its return by the hub.
use Rattle.std.specs.Prelude.{◌≡◌, Bool, ◌&&◌, List, ℕ, ◌+◌, ◌*◌, ◌≤◌, ◌<◌, length}
use Rattle.choice.specs.Choice.{pick}
use Rattle.bitset.specs.Bitset.{has}
use Rattle.machine.specs.Step.{word_count, shape_at}
use Rattle.forms.specs.declared.Form.{Form}
use Rattle.forms.specs.Forms.{shape_is, FormFits}
use Rattle.flow.specs.Flow.{Pass, join_all, changes_all, turn, turn_changes, sweep, sweep_changes}
use Rattle.flow.specs.Due.{Taken}
use Rattle.facts.specs.declared.Cell.{Cell}
use Rattle.facts.specs.Record.{depths, cell_at, put_cell, join_cell}
use Rattle.transfer.specs.Passes.{point_at, table_space}
use Rattle.marks.specs.Marks.{set_size, is_due, is_changed, is_returning, is_site, is_born, returns_at, Moves, Hubs, Agenda}
use Rattle.passing.specs.Passing.{Laid}

-- cell i is at a depth and PC
pub record Place (image : List ℕ) (i depth pc : ℕ) : Type 0 where
  pub words : word_count image ≤ 8192
  pub deep : depth < depths
  pub inside : pc < word_count image
  pub at : i ≡ point_at (word_count image) depth pc

-- the form of the word at PC
pub record Read (image : List ℕ) (pc : ℕ) (form : Form) : Type 0 where
  pub shape : shape_is form ≡ shape_at image pc
  pub fits : FormFits form

-- cell i is one depth further down than `depth`
pub record OneDown (image : List ℕ) (i depth : ℕ) : Type 0 where
  pub deep : depth < depths
  pub inside : i < depths * word_count image
  pub low : (depth + 1) * word_count image ≤ i
  pub high : i < (depth + 2) * word_count image

-- number i is told to be in a set or not
pub record Told (before : List ℕ) (i : ℕ) (on : Bool) (after : List ℕ) : Type 0 where
  pub long : length after ≡ length before
  pub here : has after i ≡ on
  pub others : (j : ℕ) → (j ≡ i → ⊥) → has after j ≡ has before j

-- the marks m as the turn of cell i begins, which has the record c: it is taken out, and if its record changed it is told
-- whether it returns
pub record Begun (image : List ℕ) (i : ℕ) (c : Cell) (m n : List ℕ) (changed : Bool) : Type 0 where
  pub long : length n ≡ length m
  pub told : changed ≡ is_changed m i
  pub taken : Taken (depths * word_count image) i (is_due m) (is_changed m) (is_due n) (is_changed n)
  pub returns : is_returning n i ≡ pick (is_changed m i) (returns_at image i c) (is_returning m i)
  pub returning : (j : ℕ) → j < set_size → (j ≡ i → ⊥) → is_returning n j ≡ is_returning m j
  pub sites : (j : ℕ) → j < set_size → is_site n j ≡ is_site m j
  pub born : (e : ℕ) → e < depths → is_born n e ≡ is_born m e

-- The hub of a depth after facts went back there in the turn of cell i: if that cell is due again it is left, else it is these
-- facts where a call site was born, or joined with them.
pub record HubKept (m hubs : List ℕ) (depth i : ℕ) (c : Cell) (n hubs₁ : List ℕ) : Type 0 where
  pub long : length n ≡ length m
  pub hub : hubs₁ ≡ pick (is_due m i) hubs (put_cell hubs depth (pick (is_born m depth) c (join_cell (cell_at hubs depth) c)))
  pub born : is_born n depth ≡ is_due m i && is_born m depth
  pub others : (j : ℕ) → (j ≡ 4 * set_size + depth → ⊥) → has n j ≡ has m j

-- passes joined in while the marks and the hubs are kept
pub record Turned (image t m : List ℕ) (passes : List (Pass Cell)) (u n hubs₁ : List ℕ) (changed : Bool) : Type 0 where
  pub table : u ≡ join_all (table_space image) t passes
  pub flag : changed ≡ changes_all (table_space image) t passes
  pub laid : Laid image u
  pub moves : Moves image t m u n
  pub shown : Hubs image u n hubs₁

-- the turn of a cell, and a sweep
pub record TurnDone (image t : List ℕ) (i : ℕ) (u n hubs₁ : List ℕ) (changed : Bool) : Type 0 where
  pub table : u ≡ turn (table_space image) t i
  pub flag : changed ≡ turn_changes (table_space image) t i
  pub laid : Laid image u
  pub agenda : Agenda image u n hubs₁

pub record SweepDone (image t u n hubs₁ : List ℕ) (changed : Bool) : Type 0 where
  pub table : u ≡ sweep (table_space image) t
  pub flag : changed ≡ sweep_changes (table_space image) t
  pub laid : Laid image u
  pub agenda : Agenda image u n hubs₁
