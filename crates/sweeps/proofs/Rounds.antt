-- A sweep on its way, from one cell that is due to the next.
use mathlib.Core.Bool.{Bool, false, ◌||◌}
use mathlib.Core.List.{List}
use Prim.Native.Nat.{ℕ, ◌+◌, ◌*◌, ◌≤◌, ◌<◌}
use native.Mathlib.Omega.{arith}
use lib.ListN.{get_or}
use Rattle.bitset.specs.Bitset.{Next}
use Rattle.machine.specs.Step.{word_count}
use Rattle.flow.proofs.Loops.{Sweeping, sweeping_begins, sweeping_turn, sweeping_table, sweeping_flag}
use Rattle.flow.proofs.Due.{sweeping_skip, settled_quiet}
use Rattle.facts.specs.Record.{depths}
use Rattle.transfer.specs.Passes.{table_space}
use Rattle.transfer.proofs.TableLaws.{table_laws}
use Rattle.marks.specs.Marks.{Agenda}
use Rattle.marks.proofs.Settling.{cell_split}
use Rattle.passing.specs.Passing.{Laid}
use Rattle.sweeps.specs.Turns.{TurnDone, SweepDone}

-- the next cell that is due, and the table, marks and hubs now
pub record Round (image t₀ : List ℕ) (i : ℕ) (t m hubs : List ℕ) (f : Bool) : Type 0 where
  pub within : i ≤ depths * word_count image
  pub laid : Laid image t
  pub agenda : Agenda image t m hubs
  pub sweeping : Sweeping (table_space image) t₀ i t f

module _ (image : List ℕ) (bytes : (k : ℕ) → get_or image k 0 < 256) (t₀ : List ℕ) where
  -- on to the next one: those between pass nothing on that is not held
  on_to : {i j : ℕ} {t m hubs : List ℕ} {f : Bool} → Laid image t → Agenda image t m hubs → Next m i (depths * word_count image) j
      → Sweeping (table_space image) t₀ i t f → Round image t₀ j t m hubs f
  on_to {i = i} {j = j} g a next s = record {
    within = next.high;
    laid = g;
    agenda = a;
    sweeping =
        sweeping_skip (table_laws image bytes) i j g.layout next.low next.high
        (λ k low high. settled_quiet (table_laws image bytes) (cell_split image) a.settled k (omega (arith, high, next.high)) (next.none k low high))
        s;
  }

  pub round_begins : {i : ℕ} {m hubs : List ℕ} → Laid image t₀ → Agenda image t₀ m hubs → Next m 0 (depths * word_count image) i → Round image t₀ i t₀ m hubs false
  round_begins g a next = on_to g a next (sweeping_begins t₀)

  pub round_next : {i j : ℕ} {t m hubs u n hubs₁ : List ℕ} {f r : Bool} → i < depths * word_count image → Round image t₀ i t m hubs f
      → TurnDone image t i u n hubs₁ r → Next n (i + 1) (depths * word_count image) j → Round image t₀ j u n hubs₁ (f || r)
  round_next l b done next = on_to done.laid done.agenda next (sweeping_turn l b.sweeping done.table done.flag)

  pub round_ends : {i : ℕ} {t m hubs : List ℕ} {f : Bool} → depths * word_count image ≤ i → Round image t₀ i t m hubs f → SweepDone image t₀ t m hubs f
  round_ends l b = record { table = sweeping_table l b.sweeping; flag = sweeping_flag l b.sweeping; laid = b.laid; agenda = b.agenda }
