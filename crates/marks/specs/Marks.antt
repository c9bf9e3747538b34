-- Which cells can still change the table while it is filled. The marks are five sets in one slice of words: cells that are
-- due, cells whose record changed since their last turn, cells that returned at their last turn, call sites, and depths at
-- which a call site was born since the hub there was made.
use Rattle.std.specs.Prelude.{◌≡◌, Bool, true, false, ◌&&◌, ◌||◌, List, [], ◌⊎◌, ℕ, ◌+◌, ◌-◌, ◌*◌, ◌/◌, ◌%◌, ◌<◌, ◌≤◌, ltb, length}
use Rattle.choice.specs.Choice.{pick}
use Rattle.bitset.specs.Bitset.{has}
use Rattle.machine.specs.Step.{word_count, shape_at}
use Rattle.flow.specs.Flow.{Pass, all_covered}
use Rattle.flow.specs.Due.{Parts, Settled}
use Rattle.facts.specs.declared.Cell.{Cell}
use Rattle.facts.specs.Record.{depths, cell_at, Layout}
use Rattle.transfer.specs.Passes.{point_at, is_return, words_at, some, all_passes, is_call_site, return_passes, table_space}

-- 9 × 8,192 cells; four sets of them and one of nine depths
abbrev pub set_size : ℕ
set_size = 73728

abbrev pub mark_words : ℕ
mark_words = 4609

abbrev pub is_due : List ℕ → ℕ → Bool
is_due marks i = has marks i

abbrev pub is_changed : List ℕ → ℕ → Bool
is_changed marks i = has marks (set_size + i)

abbrev pub is_returning : List ℕ → ℕ → Bool
is_returning marks i = has marks (2 * set_size + i)

abbrev pub is_site : List ℕ → ℕ → Bool
is_site marks i = has marks (3 * set_size + i)

abbrev pub is_born : List ℕ → ℕ → Bool
is_born marks depth = has marks (4 * set_size + depth)

-- ---- what a cell depends on: its own record and, where it may return, the call sites one depth up
-- does cell i return, with this record?
abbrev pub returns_at : List ℕ → ℕ → Cell → Bool
returns_at image i c =
    c.reached && (ltb 0 (i / word_count image) && some is_return (words_at image (i % word_count image) c.facts (shape_at image (i % word_count image))))

abbrev pub own_passes : List ℕ → ℕ → Cell → List (Pass Cell)
own_passes image i c =
    pick c.reached
    (all_passes (word_count image) (i / word_count image) (i % word_count image) c.facts (words_at image (i % word_count image) c.facts (shape_at image (i % word_count image))))
    []

abbrev pub cell_parts : List ℕ → Parts (List ℕ) Cell
cell_parts image =
    record {
      own = own_passes image;
      shared = λ t i c. pick (returns_at image i c) (return_passes image t (i / word_count image - 1) c.facts) [];
    }

-- the call sites at a depth are the same in two tables
pub record SameSites (image t u : List ℕ) (depth : ℕ) : Type 0 where
  pub same : (a : ℕ) → a < word_count image → is_call_site image u depth a ≡ is_call_site image t depth a

-- the returning cells one depth down are due
pub record Woken (image marks : List ℕ) (depth : ℕ) : Type 0 where
  pub due : (i : ℕ) → i < depths * word_count image → (depth + 1) * word_count image ≤ i → i < (depth + 2) * word_count image
      → is_returning marks i ≡ true → is_due marks i ≡ true

-- marks of a table: the call sites are marked
pub record Sited (image table marks : List ℕ) : Type 0 where
  pub long : length marks ≡ mark_words
  pub sites : (depth a : ℕ) → depth < depths → a < word_count image
      → is_site marks (point_at (word_count image) depth a) ≡ is_call_site image table depth a

-- A table and its marks made others. A cell is due afterwards if it was, if its record changed, or if it returns and a call
-- site was born one depth up; and the marks tell which records changed.
pub record Moves (image t m u n : List ℕ) : Type 0 where
  pub sited : Sited image u n
  pub due : (i : ℕ) → i < depths * word_count image → is_due n i ≡ false → is_due m i ≡ false
  pub changed : (i : ℕ) → i < depths * word_count image → is_changed n i ≡ false → (is_changed m i ≡ false) × (cell_at u i ≡ cell_at t i)
  pub within : (i : ℕ) → i < depths * word_count image → is_due n i ≡ false → (is_changed n i ≡ is_changed m i) × (cell_at u i ≡ cell_at t i)
  pub returning : (i : ℕ) → i < depths * word_count image → is_returning n i ≡ is_returning m i
  pub births : (depth : ℕ) → depth < depths → SameSites image t u depth ⊎ Woken image n depth

-- and a birth is noted
pub record Noted (image t m u n : List ℕ) : Type 0 where
  pub moves : Moves image t m u n
  pub born : (depth : ℕ) → depth < depths → is_born n depth ≡ false → (is_born m depth ≡ false) × SameSites image t u depth

-- a birth at a depth, of call site i of a table with so many words: no other mark changes but those of cells that are due
pub record Birth (words : ℕ) (m : List ℕ) (depth i : ℕ) (n : List ℕ) : Type 0 where
  pub long : length n ≡ mark_words
  pub due : (j : ℕ) → j < set_size → is_due n j ≡ false → is_due m j ≡ false
  pub changed : (j : ℕ) → j < set_size → is_changed n j ≡ is_changed m j
  pub returning : (j : ℕ) → j < set_size → is_returning n j ≡ is_returning m j
  pub site : is_site n i ≡ true
  pub sites : (j : ℕ) → j < set_size → (j ≡ i → ⊥) → is_site n j ≡ is_site m j
  pub born : (e : ℕ) → e < depths → is_born n e ≡ false → (is_born m e ≡ false) × (e ≡ depth → ⊥)
  pub woken : (j : ℕ) → j < set_size → (depth + 1) * words ≤ j → j < (depth + 2) * words → depth < 8 → is_returning n j ≡ true → is_due n j ≡ true

-- the marks of the cell at a depth and address, after its record changed
pub record Marked (image table m : List ℕ) (depth a : ℕ) (n : List ℕ) : Type 0 where
  pub long : length n ≡ mark_words
  pub due : is_due n (point_at (word_count image) depth a) ≡ true
  pub dues : (j : ℕ) → j < set_size → is_due n j ≡ false → is_due m j ≡ false
  pub changed : is_changed n (point_at (word_count image) depth a) ≡ true
  pub others : (j : ℕ) → j < set_size → (j ≡ point_at (word_count image) depth a → ⊥) → (is_changed n j ≡ is_changed m j) × (is_site n j ≡ is_site m j)
  pub returning : (j : ℕ) → j < set_size → is_returning n j ≡ is_returning m j
  pub site : is_site n (point_at (word_count image) depth a) ≡ is_site m (point_at (word_count image) depth a) || is_call_site image table depth a
  pub born : (e : ℕ) → e < depths → is_born n e ≡ false
      → (is_born m e ≡ false) × (e ≡ depth → is_site n (point_at (word_count image) depth a) ≡ is_site m (point_at (word_count image) depth a))
  pub woken : (is_site n (point_at (word_count image) depth a) ≡ is_site m (point_at (word_count image) depth a)) ⊎ Woken image n depth

-- cells whose record did not change are marked exactly where they return
pub record Returning (image table marks : List ℕ) : Type 0 where
  pub exact : (i : ℕ) → i < depths * word_count image → is_changed marks i ≡ false → is_returning marks i ≡ returns_at image i (cell_at table i)

-- The hub of a depth is a record with facts that the address after every call site there holds, unless one was born since.
pub record Hubs (image table marks hubs : List ℕ) : Type 0 where
  pub layout : Layout depths hubs
  pub held : (depth : ℕ) → depth < depths → is_born marks depth ≡ false → (cell_at hubs depth).reached ≡ true
      → all_covered (table_space image) table (return_passes image table depth (cell_at hubs depth).facts) ≡ true

-- All of it: a cell that is not due passes nothing on that is not held.
pub record Agenda (image table marks hubs : List ℕ) : Type 0 where
  pub sited : Sited image table marks
  pub settled : Settled (table_space image) (cell_parts image) table (is_due marks) (is_changed marks)
  pub returning : Returning image table marks
  pub shown : Hubs image table marks hubs
