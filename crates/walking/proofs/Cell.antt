-- What the cell at a depth and an address of a table passes on.
use mathlib.Core.Path.{◌≡◌, sym, ◌∙◌, ap, ap₂}
use mathlib.Core.Bool.{Bool, true, false, not}
use mathlib.Core.List.{List, []}
use Prim.Native.Nat.{ℕ, ◌/◌, ◌%◌, ◌<◌}
use borrow.Author.Tests.{not-true, not-false}
use Rattle.choice.specs.Choice.{pick}
use Rattle.machine.specs.Step.{word_count}
use Rattle.facts.specs.declared.Cell.{Cell}
use Rattle.facts.specs.Record.{cell_at}
use Rattle.transfer.specs.Passes.{point_at, cell_passes, passes_from}
use Rattle.callers.proofs.Points.{point_depth, point_address}

module _ (image t : List ℕ) where
  -- a cell that is not reached passes nothing on
  pub nothing_passed : (i : ℕ) {b : Bool} → b ≡ (cell_at t i).reached → not b ≡ true → passes_from image t i ≡ []
  nothing_passed i {b = b} e n =
      let no : (cell_at t i).reached ≡ false = sym e ∙ not-true b n in
      ap (λ (b : Bool). pick b (cell_passes image t (i / word_count image) (i % word_count image) (cell_at t i).facts) []) no

  module _ (depth pc : ℕ) (h : pc < word_count image) where
    abbrev point : ℕ
    point = point_at (word_count image) depth pc

    -- one that is reached passes on by its facts
    pub reached_passes : {b : Bool} {c : Cell} → b ≡ (cell_at t (point_at (word_count image) depth pc)).reached → not b ≡ false
        → c ≡ cell_at t (point_at (word_count image) depth pc)
        → passes_from image t (point_at (word_count image) depth pc) ≡ cell_passes image t depth pc c.facts
    reached_passes {b = b} {c = c} here n e =
        let yes : (cell_at t point).reached ≡ true = sym here ∙ not-false b n in
        ap (λ (b : Bool). pick b (cell_passes image t (point / word_count image) (point % word_count image) (cell_at t point).facts) []) yes
        ∙ ap₂ (λ (d a : ℕ). cell_passes image t d a (cell_at t point).facts) (point_depth (word_count image) depth pc h) (point_address (word_count image) depth pc h)
        ∙ sym (ap (λ (x : Cell). cell_passes image t depth pc x.facts) e)
