-- Sweeps until nothing changes: the table on its way to the least one, and their count.
use mathlib.Core.Path.{◌≡◌, sym, ◌∙◌, subst⁻¹}
use mathlib.Core.Bool.{Bool, true, false}
use mathlib.Core.List.{List}
use Prim.Native.Nat.{ℕ, ◌+◌, ◌*◌, ◌≤◌, ◌<◌}
use native.Mathlib.Omega.{arith}
use native.Mathlib.Nat.{le_trans}
use lib.ListN.{get_or}
use Rattle.machine.specs.Step.{word_count}
use Rattle.flow.specs.Flow.{sweep, sweep_changes, Filling, sum_weights}
use Rattle.flow.proofs.Filling.{filling_begins, filling_sweep, filling_falls, filling_ends, filling_bound}
use Rattle.facts.specs.Record.{depths, Layout}
use Rattle.transfer.specs.Passes.{table_space, start_table, sweep_bound, least_table, sweeps_of}
use Rattle.transfer.proofs.TableLaws.{table_laws, start_begins, start_weight}
use Rattle.transfer.proofs.LeastTable.{count_bound, filled_is_least}

-- after `count` sweeps, each of which changed the table
abbrev pub Way : List ℕ → ℕ → List ℕ → Type 0
Way image = Filling (table_space image) (start_table image)

module _ (image : List ℕ) (bytes : (k : ℕ) → get_or image k 0 < 256) (some : 0 < word_count image) where
  good : Layout (depths * word_count image) (start_table image)
  good = (start_begins image bytes some).good

  pub way_begins : {t : List ℕ} → t ≡ start_table image → Way image 0 t
  way_begins e = subst⁻¹ (Way image 0) e (filling_begins (start_table image))

  module _ {count : ℕ} {t u : List ℕ} {r : Bool} (way : Way image count t) (e : u ≡ sweep (table_space image) t) (c : r ≡ sweep_changes (table_space image) t) where
    pub way_next : r ≡ true → Way image (count + 1) u
    way_next h = filling_sweep way e (sym c ∙ h)

    pub way_less : r ≡ true → sum_weights (table_space image) u < sum_weights (table_space image) t
    way_less h = filling_falls (table_laws image bytes) good way e (sym c ∙ h)

    pub way_ends : r ≡ false → (u ≡ least_table image) × (count ≡ sweeps_of image) × (count ≤ sweep_bound image)
    way_ends h =
        let last = filled_is_least image bytes some (filling_ends (table_laws image bytes) good way e (sym c ∙ h)) in
        (last.0, last.1, subst⁻¹ (λ (k : ℕ). k ≤ sweep_bound image) last.1 (count_bound image bytes some))

  pub way_bound : {count : ℕ} {t : List ℕ} → Way image count t → count ≤ sweep_bound image
  way_bound way =
      let most = filling_bound (table_laws image bytes) good way in
      le_trans (omega arith) (start_weight image bytes some)
