-- Cells and their records of 16 bytes ("The table of facts" of document 01).
use Rattle.std.specs.Prelude.{◌≡◌, Bool, true, false, ◌&&◌, ◌||◌, not, List, [], ◌∷◌, ◌++◌, map, ℕ, zero, suc, ◌+◌, ◌*◌, ◌/◌, ◌%◌, ◌^◌, ◌≤◌, ◌<◌, eqb, length, get_or, take, drop, replicate}
use Rattle.choice.specs.Choice.{pick}
use Rattle.facts.specs.declared.Cell.{Cell}
use Rattle.facts.specs.Facts.{fact_count, unknown, is_known, reset_facts, all_know_no_more, join_facts, known_count}

-- "One record of 16 bytes for each cell"
abbrev pub record_size : ℕ
record_size = 16

-- depths 0 to 8
abbrev pub depths : ℕ
depths = 9

abbrev pub cell_of : Bool → List ℕ → Cell
cell_of reached facts = record { reached = reached; facts = facts }

-- a cell that is not reached says nothing
abbrev pub unreached : Cell
unreached = cell_of false (replicate fact_count unknown)

abbrev pub reset_cell : Cell
reset_cell = cell_of true reset_facts

-- a cell holds what is passed on: it is reached and knows no more; every cell holds what is not reached
unfoldable pub holds_cell : Cell → Cell → Bool
holds_cell c d = not d.reached || (c.reached && all_know_no_more c.facts d.facts)

unfoldable pub join_cell : Cell → Cell → Cell
join_cell c d = pick d.reached (pick c.reached (cell_of true (join_facts c.facts d.facts)) d) c

-- 12 for an unreached cell, else its number of known facts: every join that changes the cell lowers it
unfoldable pub cell_weight : Cell → ℕ
cell_weight c = pick c.reached (known_count c.facts) 12

-- Bytes 2-3: which facts are known, weight 2^k for fact k.
unfoldable pub mask_of : List ℕ → ℕ
mask_of [] = 0
mask_of (f ∷ fs) = pick (is_known f) 1 0 + 2 * mask_of fs

-- Bytes 4-14: their values, 0 if unknown.
abbrev pub value_byte : ℕ → ℕ
value_byte f = pick (is_known f) f 0

-- Byte 0: 1 reached, else 0. Byte 1: finding or 0. Byte 15: 0.
unfoldable pub record_of : Cell → ℕ → List ℕ
record_of c finding =
    pick c.reached 1 0 ∷ finding ∷ mask_of c.facts % 256 ∷ mask_of c.facts / 256 ∷ (map value_byte c.facts ++ (0 ∷ []))

-- the fact k of a record: its value where its bit is one
abbrev pub fact_at : List ℕ → ℕ → ℕ
fact_at bytes k = pick (eqb ((get_or bytes 2 0 + 256 * get_or bytes 3 0) / 2 ^ k % 2) 1) (get_or bytes (4 + k) 0) unknown

abbrev pub facts_from : List ℕ → ℕ → ℕ → List ℕ
facts_from bytes k zero = []
facts_from bytes k (suc n) = fact_at bytes k ∷ facts_from bytes (suc k) n

-- a record read back; its finding says nothing of the cell
unfoldable pub read_cell : List ℕ → Cell
read_cell bytes = cell_of (eqb (get_or bytes 0 0) 1) (facts_from bytes 0 fact_count)

-- cell i of a table, and a table with cell i replaced (no finding)
unfoldable pub cell_at : List ℕ → ℕ → Cell
cell_at table i = read_cell (take record_size (drop (record_size * i) table))

unfoldable pub put_record : List ℕ → ℕ → List ℕ → List ℕ
put_record table i bytes = take (record_size * i) table ++ (bytes ++ drop (record_size * i + record_size) table)

abbrev pub put_cell : List ℕ → ℕ → Cell → List ℕ
put_cell table i c = put_record table i (record_of c 0)

-- A cell as a record tells it: eleven facts, each a value or unknown, and none of them known where it is not reached.
pub record FineCell (c : Cell) : Type 0 where
  pub facts : length c.facts ≡ fact_count
  pub bounded : (k : ℕ) → get_or c.facts k unknown ≤ unknown
  pub blank : c.reached ≡ false → c.facts ≡ replicate fact_count unknown

-- The layout of a table: a record for each cell, each as document 01 lays it out, and no finding.
pub record Layout (cells : ℕ) (table : List ℕ) : Type 0 where
  pub long : length table ≡ record_size * cells
  pub records : (i : ℕ) → i < cells → take record_size (drop (record_size * i) table) ≡ record_of (cell_at table i) 0
  pub fine : (i : ℕ) → i < cells → FineCell (cell_at table i)
