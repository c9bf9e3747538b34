-- A cell joined into a table: a table whose cell holds what is joined stays as it is.
use mathlib.Core.Path.{◌≡◌, sym, ◌∙◌, ap, subst}
use mathlib.Core.Bool.{Bool, true, false, not}
use mathlib.Core.List.{List}
use Prim.Native.Nat.{ℕ, ◌+◌, ◌*◌, ◌≤◌}
use native.Mathlib.Omega.{arith}
use lib.ListN.{length}
use lib.Seq.{drop-drop}
use borrow.Rule.Slice.PartMut.{put_same}
use Rattle.facts.specs.declared.Cell.{Cell}
use Rattle.facts.specs.Record.{record_size, cell_at, put_record, put_cell, holds_cell, join_cell, FineCell}
use Rattle.facts.proofs.Cells.{holds_refl, holds_antisym, join_holds_left, join_held, join_fine}
use Rattle.cells.specs.Cells.{HasCell}

module _ (t : List ℕ) (i : ℕ) (g : HasCell t i) where
  pub room : record_size * i + record_size ≤ length t
  room = let l = g.layout.long in let h = g.inside in omega arith

  -- a cell put back as it was
  pub put_back : put_cell t i (cell_at t i) ≡ t
  unfolding put_record
  put_back = rw (← g.layout.records i g.inside, ← drop-drop record_size (record_size * i) t) (put_same (record_size * i) record_size t)

  module _ (d : Cell) (f : FineCell d) where
    result_fine : FineCell (join_cell (cell_at t i) d)
    result_fine = join_fine (cell_at t i) d (g.layout.fine i g.inside) f

    same : holds_cell (cell_at t i) d ≡ true → t ≡ put_cell t i (join_cell (cell_at t i) d)
    same h =
        let c = cell_at t i in
        let e : c ≡ join_cell c d = holds_antisym c (join_cell c d) (g.layout.fine i g.inside) result_fine (join_held c d c (holds_refl c) h) (join_holds_left c d) in
        sym put_back ∙ ap (put_cell t i) e

    -- the cell holds what is joined; it does not
    pub joined_fine : {c j : Cell} → c ≡ cell_at t i → j ≡ join_cell c d → FineCell j
    joined_fine p q = subst FineCell (sym (q ∙ ap (λ (x : Cell). join_cell x d) p)) result_fine

    pub already : {c : Cell} {b : Bool} → c ≡ cell_at t i → b ≡ holds_cell c d → b ≡ true
        → (t ≡ put_cell t i (join_cell (cell_at t i) d)) × (false ≡ not (holds_cell (cell_at t i) d))
    already p q w =
        let h : holds_cell (cell_at t i) d ≡ true = ap (λ (x : Cell). holds_cell x d) (sym p) ∙ sym q ∙ w in
        (same h, sym (ap not h))

    pub changed : {c j : Cell} {b : Bool} {u : List ℕ} → c ≡ cell_at t i → b ≡ holds_cell c d → b ≡ false → j ≡ join_cell c d → u ≡ put_cell t i j
        → (u ≡ put_cell t i (join_cell (cell_at t i) d)) × (true ≡ not (holds_cell (cell_at t i) d))
    changed p q w r e =
        let h : holds_cell (cell_at t i) d ≡ false = ap (λ (x : Cell). holds_cell x d) (sym p) ∙ sym q ∙ w in
        (e ∙ ap (put_cell t i) (r ∙ ap (λ (x : Cell). join_cell x d) p), sym (ap not h))
