-- What holds of a machine between the steps of an admitted program.
use Rattle.std.specs.Prelude.{◌≡◌, true, List, ℕ, ◌+◌, ◌<◌, get_or}
use Rattle.state.specs.declared.State.{State}
use Rattle.state.specs.State.{Sized, Formed}
use Rattle.machine.specs.Shape.{Source, go, defer}
use Rattle.machine.specs.Step.{word_count, shape_at}
use Rattle.facts.specs.Facts.{within, span_of}
use Rattle.facts.specs.Record.{depths, cell_at}
use Rattle.transfer.specs.Passes.{point_at, page_address, gives, is_call_site}

-- the cell of a state's depth and PC
abbrev pub cell_index : List ℕ → State → ℕ
cell_index image s = point_at (word_count image) s.depth s.pc

-- "the state lies within the facts that the table holds at its depth and PC"
pub record Inside (image table : List ℕ) (s : State) : Type 0 where
  pub depth : s.depth < depths
  pub near : s.pc < word_count image
  pub reached : (cell_at table (cell_index image s)).reached ≡ true
  pub agrees : within (cell_at table (cell_index image s)).facts s.values ≡ true

-- a return address at a place of the stack: the address after a call site at that depth
pub record Returns (image table : List ℕ) (place address : ℕ) : Type 0 where
  pub site : ℕ
  pub in_code : site < word_count image
  pub calls : is_call_site image table place site ≡ true
  pub next : address ≡ site + 1

-- a pending address: one that the XEC at PC may give with the facts there
pub record Given (image table : List ℕ) (s : State) : Type 0 where
  pub source : Source
  pub page : ℕ
  pub i : ℕ
  pub k : ℕ
  pub is_xec : shape_at image s.pc ≡ go source (defer page i)
  pub place : k < page
  pub given : gives page i (span_of source (cell_at table (cell_index image s)).facts) k ≡ true
  pub address : s.pending ≡ page_address page s.pc k

pub record Safe (image table : List ℕ) (s : State) : Type 0 where
  pub running : s.stop ≡ 0
  pub sized : Sized s
  pub formed : Formed s
  pub inside : Inside image table s
  pub stack : (k : ℕ) → k < s.depth → Returns image table k (get_or s.returns k 0)
  pub pending : s.flag ≡ 1 → Given image table s
