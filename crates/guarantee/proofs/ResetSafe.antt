-- The state of reset is safe for every closed table of an image that has a word.
use mathlib.Core.Path.{◌≡◌, refl, sym, subst}
use mathlib.Core.Bool.{true}
use mathlib.Core.List.{List}
use Prim.Native.Nat.{ℕ, ◌≤◌}
use native.Mathlib.Omega.{arith}
use lib.ListN.{length}
use borrow.Author.Tests.{eq-eqb}
use Rattle.state.specs.State.{state_length, loaded, reset_bytes, reset_number_of, reset_state, zero_state}
use Rattle.state.proofs.WellFormed.{reset_formed}
use Rattle.state.proofs.RoundTrip.{reset_loaded, reset_sized}
use Rattle.machine.specs.Step.{word_count}
use Rattle.flow.specs.Flow.{Closed}
use Rattle.facts.specs.Facts.{reset_facts, within}
use Rattle.facts.specs.Record.{reset_cell, holds_cell, cell_at}
use Rattle.transfer.specs.Passes.{point_at, table_space}
use Rattle.guarantee.specs.Safe.{Inside, Safe}
use Rattle.guarantee.proofs.Cells.{held_reached, held_within}

reset_within : within reset_facts zero_state.values ≡ true
unfolding within
reset_within = refl

reset_inside : (image table : List ℕ) → Closed (table_space image) reset_cell table → 1 ≤ word_count image → Inside image table zero_state
reset_inside image table closed some =
    record {
      depth = omega arith;
      near = some;
      reached = held_reached (cell_at table (point_at (word_count image) 0 0)) reset_facts held;
      agrees = held_within (cell_at table (point_at (word_count image) 0 0)) reset_facts zero_state.values held reset_within;
    }
  where
    first : 0 ≡ point_at (word_count image) 0 0
    first = omega arith

    held : holds_cell (cell_at table (point_at (word_count image) 0 0)) reset_cell ≡ true
    held = subst (λ i. holds_cell (cell_at table i) reset_cell ≡ true) first closed.starts

pub reset_safe : (image table : List ℕ) → Closed (table_space image) reset_cell table → 1 ≤ word_count image → Safe image table zero_state
reset_safe image table closed some =
    record {
      running = refl;
      sized = reset_sized;
      formed = reset_formed;
      inside = reset_inside image table closed some;
      stack = λ k below. absurd (omega arith);
      pending = λ h. absurd (omega arith);
    }

-- the same for the state that is read from the bytes of reset
pub reset_loaded_safe : (image table : List ℕ) → Closed (table_space image) reset_cell table → 1 ≤ word_count image
    → Safe image table (loaded reset_bytes)
reset_loaded_safe image table closed some = subst (Safe image table) (sym reset_loaded) (reset_safe image table closed some)

-- reset answers 0 for a state of 36 bytes, and makes all of them zero
pub reset_done : (state : List ℕ) → length state ≡ state_length → (reset_number_of state ≡ 0) × (reset_state state ≡ reset_bytes)
unfolding reset_number_of reset_state
reset_done state h = (rw (eq-eqb (length state) state_length h), rw (eq-eqb (length state) state_length h))
