-- The least table's facts of OVF are unknown, 0 or 1.
use mathlib.Core.Path.{◌≡◌, refl, subst}
use mathlib.Core.Bool.{Bool, true, false}
use mathlib.Core.List.{List}
use Prim.Native.Nat.{ℕ, ◌*◌, ◌<◌}
use native.Mathlib.Omega.{arith}
use lib.Dec.{eqb}
use lib.ListN.{get_or, replicate}
use borrow.Author.Tests.{eqb-true, eqb-false}
use Rattle.machine.specs.Step.{word_count}
use Rattle.flow.specs.Flow.{Pass, join_at}
use Rattle.flow.proofs.Lawful.{Fits}
use Rattle.flow.proofs.Keeps.{sweeps_keeps}
use Rattle.facts.specs.declared.Cell.{Cell}
use Rattle.facts.specs.Record.{record_size, depths, reset_cell, join_cell, cell_at, put_cell, FineCell, Layout}
use Rattle.facts.proofs.Cells.{join_fine}
use Rattle.facts.proofs.Records.{stored_cell, other_cell, put_layout}
use Rattle.facts.proofs.Makes.{FineFacts, after_fine}
use Rattle.facts.proofs.Overflow.{OverflowFits, unknown_flag, after_overflow, joined_overflow}
use Rattle.transfer.specs.Passes.{table_space, table_length, start_table, sweep_bound, least_table}
use Rattle.transfer.proofs.TableLaws.{fine_facts, reached_fine, zeros_cell, zeros_layout, reset_fine, passes_fit}

record FlaggedFacts (facts : List ℕ) : Type 0 where
  fine : FineFacts facts
  flag : OverflowFits facts

record FlaggedCell (c : Cell) : Type 0 where
  fine : FineCell c
  flag : OverflowFits c.facts

record FlaggedTable (cells : ℕ) (t : List ℕ) : Type 0 where
  layout : Layout cells t
  flags : (i : ℕ) → i < cells → OverflowFits (cell_at t i).facts

-- storing such a cell keeps a table so
put_keeps : (cells : ℕ) (t : List ℕ) (i : ℕ) (c : Cell) → FlaggedTable cells t → i < cells → FlaggedCell c → FlaggedTable cells (put_cell t i c)
put_keeps cells t i c g l f =
    record { layout = put_layout cells t i c g.layout l f.fine; flags = λ j m. at j m (eqb j i) refl }
  where
    at : (j : ℕ) → j < cells → (b : Bool) → eqb j i ≡ b → OverflowFits (cell_at (put_cell t i c) j).facts
    at j m true w = rw (eqb-true j i w, stored_cell cells t i c g.layout l f.fine) f.flag
    at j m false w = rw (other_cell cells t i c g.layout l f.fine j m (eqb-false j i w)) (g.flags j m)

zeros_flagged : (cells : ℕ) → FlaggedTable cells (replicate (record_size * cells) 0)
zeros_flagged cells = record { layout = zeros_layout cells; flags = λ i l. rw (zeros_cell cells i l) unknown_flag }

module _ (image : List ℕ) (bytes : (k : ℕ) → get_or image k 0 < 256) where
  start_flagged : 0 < word_count image → FlaggedTable (depths * word_count image) (start_table image)
  start_flagged some =
      let cells = depths * word_count image in
      let long : record_size * cells ≡ table_length image = omega arith in
      subst (λ (n : ℕ). FlaggedTable cells (put_cell (replicate n 0) 0 reset_cell)) long
      (put_keeps cells (replicate (record_size * cells) 0) 0 reset_cell (zeros_flagged cells) (omega arith)
      (record { fine = reset_fine; flag = λ e. omega arith }))

  join_keeps : (t : List ℕ) (p : Pass Cell) → Fits (table_space image) FlaggedCell p → FlaggedTable (depths * word_count image) t
      → FlaggedTable (depths * word_count image) (join_at (table_space image) t p)
  join_keeps t p q g =
      let c = cell_at t p.target in
      put_keeps (depths * word_count image) t p.target (join_cell c p.cell) g q.inside
      (record {
        fine = join_fine c p.cell (g.layout.fine p.target q.inside) q.fine.fine;
        flag = joined_overflow c p.cell (g.flags p.target q.inside) q.fine.flag;
      })

  pub least_overflow : 0 < word_count image → (i : ℕ) → i < depths * word_count image → OverflowFits (cell_at (least_table image) i).facts
  unfolding least_table
  least_overflow some =
      (sweeps_keeps (table_space image) (FlaggedTable (depths * word_count image)) (Fits (table_space image) FlaggedCell) join_keeps
      (λ t i l g.
      passes_fit image bytes FlaggedFacts FlaggedCell (λ fs f. record { fine = reached_fine fs f.fine; flag = f.flag })
      (λ source op target fs s f. record { fine = after_fine source op target fs s.0 f.fine; flag = after_overflow source op target fs s.0 s.1 f.fine f.flag })
      t i l (record { fine = fine_facts (cell_at t i) (g.layout.fine i l); flag = g.flags i l }))
      (sweep_bound image) (start_table image) (start_flagged some)).flags
