-- The theory of sweeps, told of the table of facts of an image.
use mathlib.Core.Path.{◌≡◌}
use mathlib.Core.Bool.{true, false}
use mathlib.Core.List.{List}
use Prim.Native.Nat.{ℕ, ◌*◌, ◌≤◌, ◌<◌}
use native.Mathlib.Nat.{le_trans}
use lib.ListN.{get_or}
use Rattle.machine.specs.Step.{word_count}
use Rattle.flow.specs.Flow.{Below, Closed, Least, Filled, sweep, sweep_changes, sum_weights}
use Rattle.flow.proofs.Grows.{sweep_below}
use Rattle.flow.proofs.Still.{still_closed}
use Rattle.flow.proofs.Weights.{sweep_falls}
use Rattle.flow.proofs.Filling.{filled_sweeps, filled_table_unique, filled_count_unique, filled_bound}
use Rattle.flow.proofs.Fixpoint.{least_unique}
use Rattle.facts.specs.Record.{depths, reset_cell, holds_cell, cell_at, Layout}
use Rattle.transfer.specs.Passes.{table_space, start_table, sweep_bound, least_table, sweeps_of}
use Rattle.transfer.proofs.TableLaws.{table_laws, start_begins, start_weight}

module _ (image : List ℕ) (bytes : (k : ℕ) → get_or image k 0 < 256) where
  abbrev Good : List ℕ → Type 0
  Good = Layout (depths * word_count image)

  -- two least tables are equal, byte for byte
  pub one_least : (t u : List ℕ) → Least (table_space image) Good reset_cell t → Least (table_space image) Good reset_cell u → t ≡ u
  one_least t u a b = least_unique (table_laws image bytes) a b

  -- a sweep stays below every closed table
  pub sweep_stays_below : (t u : List ℕ) → Good t → Good u → Closed (table_space image) reset_cell u → Below (table_space image) t u
      → Below (table_space image) (sweep (table_space image) t) u
  sweep_stays_below t u g k c b = sweep_below (table_laws image bytes) u k c.passed t g b

  -- a sweep that changes nothing leaves a closed table
  pub still_table_closed : (t : List ℕ) → Good t → holds_cell (cell_at t 0) reset_cell ≡ true → sweep_changes (table_space image) t ≡ false
      → Closed (table_space image) reset_cell t
  still_table_closed t g c h = still_closed (table_laws image bytes) reset_cell t g c h

  -- one that changes something lowers a number
  pub sweep_lowers : (t : List ℕ) → Good t → sweep_changes (table_space image) t ≡ true
      → sum_weights (table_space image) (sweep (table_space image) t) < sum_weights (table_space image) t
  sweep_lowers t g h = sweep_falls (table_laws image bytes) t g h

  -- the definitions' count and table: so many sweeps from the reset cell each change something, and one more does not
  pub least_filled : 0 < word_count image → Filled (table_space image) (start_table image) (sweeps_of image) (least_table image)
  unfolding least_table sweeps_of
  least_filled some = filled_sweeps (table_laws image bytes) (start_table image) (sweep_bound image) (start_begins image bytes some).good (start_weight image bytes some)

  pub count_bound : 0 < word_count image → sweeps_of image ≤ sweep_bound image
  count_bound some = le_trans (filled_bound (table_laws image bytes) (start_begins image bytes some).good (least_filled some)) (start_weight image bytes some)

  -- and sweeps until one changes nothing give no other table and no other count
  pub filled_is_least : {k : ℕ} {t : List ℕ} → 0 < word_count image → Filled (table_space image) (start_table image) k t
      → (t ≡ least_table image) × (k ≡ sweeps_of image)
  filled_is_least some f = (filled_table_unique f (least_filled some), filled_count_unique f (least_filled some))
