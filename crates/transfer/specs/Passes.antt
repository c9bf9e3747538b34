-- What each cell passes on ("The table of facts" of document 01). A cell is a depth and an address; its place in the
-- table is depth × N + address.
use Rattle.std.specs.Prelude.{Bool, true, false, ◌&&◌, ◌||◌, not, List, [], ◌∷◌, ◌++◌, ℕ, zero, suc, ◌+◌, ◌-◌, ◌*◌, ◌/◌, ◌%◌, ltb, replicate}
use Rattle.choice.specs.Choice.{pick}
use Rattle.state.specs.State.{stack_places}
use Rattle.machine.specs.Shape.{jump, branch, defer, call, return, Shape, act, go, invalid}
use Rattle.machine.specs.Step.{word_count, shape_at, in_page}
use Rattle.flow.specs.Flow.{Pass, Space, sweeps, sweep_count}
use Rattle.facts.specs.declared.Cell.{Cell}
use Rattle.facts.specs.Facts.{Span, span_of, may_be_zero, may_be_other, facts_after}
use Rattle.facts.specs.Record.{record_size, depths, cell_of, reset_cell, holds_cell, join_cell, cell_weight, cell_at, put_cell}

module _ {A : Type 0} where
  -- what f gives at each of n places from a place on that passes a test, in ascending order
  unfoldable pub over : ℕ → ℕ → (ℕ → Bool) → (ℕ → List A) → List A
  over from zero test f = []
  over from (suc n) test f = pick (test from) (f from) [] ++ over (suc from) n test f

  -- the same at the places below n, in descending order
  unfoldable pub over_down : ℕ → (ℕ → Bool) → (ℕ → List A) → List A
  over_down zero test f = []
  over_down (suc n) test f = pick (test n) (f n) [] ++ over_down n test f

-- the place of a cell in the table
abbrev pub point_at : ℕ → ℕ → ℕ → ℕ
point_at words depth a = depth * words + a

-- facts passed on to an address; "addresses at or above N pass on nothing"
abbrev pub toward : ℕ → ℕ → ℕ → List ℕ → List (Pass Cell)
toward words depth a facts = pick (ltb a words) (record { target = point_at words depth a; cell = cell_of true facts } ∷ []) []

-- one of three answers where a word is XEC, CALL or RET, and no where it is any other
abbrev pub directing : Bool → Bool → Bool → Shape → Bool
directing xec called ret (act source op target) = false
directing xec called ret (go source (jump a)) = false
directing xec called ret (go source (branch page i)) = false
directing xec called ret (go source (defer page i)) = xec
directing xec called ret (go source (call i)) = called
directing xec called ret (go source return) = ret
directing xec called ret invalid = false

abbrev pub is_defer : Shape → Bool
is_defer = directing true false false

abbrev pub is_call : Shape → Bool
is_call = directing false true false

abbrev pub is_return : Shape → Bool
is_return = directing false false true

-- the address at place k of the page of PC
abbrev pub page_address : ℕ → ℕ → ℕ → ℕ
page_address page pc k = pc / page * page + k

-- XEC may give the address at place k of its page: k is I plus a value of its source, kept to the page
unfoldable pub gives : ℕ → ℕ → Span → ℕ → Bool
gives page i span k = ltb ((k + (page - (i + span.low) % page)) % page) span.count

-- an XEC executes what is below N and no XEC itself
abbrev pub can_be_executed : List ℕ → ℕ → Bool
can_be_executed image a = ltb a (word_count image) && not (is_defer (shape_at image a))

-- "XEC executes, with its own PC and facts, the word at each address that its source may give": the words that the
-- cell at PC executes, which is the word there unless that is an XEC
unfoldable pub words_at : List ℕ → ℕ → List ℕ → Shape → List Shape
words_at image pc facts (act source op target) = act source op target ∷ []
words_at image pc facts (go source (jump a)) = go source (jump a) ∷ []
words_at image pc facts (go source (branch page i)) = go source (branch page i) ∷ []
words_at image pc facts (go source (defer page i)) =
    over 0 page (λ k. gives page i (span_of source facts) k && can_be_executed image (page_address page pc k))
    (λ k. shape_at image (page_address page pc k) ∷ [])
words_at image pc facts (go source (call i)) = go source (call i) ∷ []
words_at image pc facts (go source return) = go source return ∷ []
words_at image pc facts invalid = invalid ∷ []

-- some word of a list passes a test
unfoldable pub some : (Shape → Bool) → List Shape → Bool
some test [] = false
some test (w ∷ ws) = test w || some test ws

-- What a word passes on at a depth and PC: "A known NZT source gives one branch, else both. CALL goes to depth + 1;
-- with AUX unknown, to every AUX × 256 + I below N." RET is told below; "invalid words, an XEC executed by XEC, CALL
-- at depth 8 and RET at depth 0 pass on nothing".
unfoldable pub word_passes : ℕ → ℕ → ℕ → List ℕ → Shape → List (Pass Cell)
word_passes words depth pc facts (act source op target) = toward words depth (pc + 1) (facts_after source op target facts)
word_passes words depth pc facts (go source (jump a)) = toward words depth a facts
word_passes words depth pc facts (go source (branch page i)) =
    pick (may_be_zero (span_of source facts)) (toward words depth (pc + 1) facts) [] ++
    pick (may_be_other (span_of source facts)) (toward words depth (in_page page pc i) facts) []
word_passes words depth pc facts (go source (defer page i)) = []
word_passes words depth pc facts (go source (call i)) =
    pick (ltb depth stack_places)
    (over (span_of source facts).low (span_of source facts).count (λ v. true) (λ v. toward words (depth + 1) (v * 256 + i) facts))
    []
word_passes words depth pc facts (go source return) = []
word_passes words depth pc facts invalid = []

unfoldable pub all_passes : ℕ → ℕ → ℕ → List ℕ → List Shape → List (Pass Cell)
all_passes words depth pc facts [] = []
all_passes words depth pc facts (w ∷ ws) = word_passes words depth pc facts w ++ all_passes words depth pc facts ws

-- a call site: "every cell reached there that is a CALL or an XEC that may execute one"
abbrev pub is_call_site : List ℕ → List ℕ → ℕ → ℕ → Bool
is_call_site image table depth a =
    (cell_at table (point_at (word_count image) depth a)).reached &&
    some is_call (words_at image a (cell_at table (point_at (word_count image) depth a)).facts (shape_at image a))

-- "RET goes, at depth - 1, to the address after every" call site there
abbrev pub return_passes : List ℕ → List ℕ → ℕ → List ℕ → List (Pass Cell)
return_passes image table depth facts =
    over_down (word_count image) (is_call_site image table depth) (λ a. toward (word_count image) depth (a + 1) facts)

-- what a reached cell passes on: its words in turn, and then once to the call sites if one of them is RET
abbrev pub cell_passes : List ℕ → List ℕ → ℕ → ℕ → List ℕ → List (Pass Cell)
cell_passes image table depth pc facts =
    all_passes (word_count image) depth pc facts (words_at image pc facts (shape_at image pc)) ++
    pick (ltb 0 depth && some is_return (words_at image pc facts (shape_at image pc)))
    (return_passes image table (depth - 1) facts)
    []

abbrev pub passes_from : List ℕ → List ℕ → ℕ → List (Pass Cell)
passes_from image table i =
    pick (cell_at table i).reached
    (cell_passes image table (i / word_count image) (i % word_count image) (cell_at table i).facts)
    []

-- the table of an image, as a space of cells
abbrev pub table_space : List ℕ → Space (List ℕ) Cell
table_space image =
    record {
      size = depths * word_count image;
      at = cell_at;
      put = put_cell;
      covers = holds_cell;
      join = join_cell;
      pass = passes_from image;
      weight = cell_weight;
    }

-- the table before the first sweep: the reset cell alone is reached
abbrev pub table_length : List ℕ → ℕ
table_length image = depths * record_size * word_count image

abbrev pub start_table : List ℕ → List ℕ
start_table image = put_cell (replicate (table_length image) 0) 0 reset_cell

-- "at most 108 × N" (request 2026-07 of document 02): a sweep that changes something lowers a number that is no more at
-- the start
abbrev pub sweep_bound : List ℕ → ℕ
sweep_bound image = 108 * word_count image

-- the least table, computed by as many sweeps
unfoldable pub least_table : List ℕ → List ℕ
least_table image = sweeps (table_space image) (sweep_bound image) (start_table image)

-- "Starting from the reset cell", the sweeps that change the table, counted
unfoldable pub sweeps_of : List ℕ → ℕ
sweeps_of image = sweep_count (table_space image) (sweep_bound image) (start_table image)
