-- One cell handed on: asked of a table, or joined into one and noted where that changes it.
use mathlib.Core.Path.{◌≡◌, sym, ◌∙◌, ap, subst⁻¹}
use mathlib.Core.Bool.{Bool, true, false, not}
use mathlib.Core.List.{List}
use Prim.Native.Nat.{ℕ, ◌*◌, ◌≤◌, ◌<◌}
use lib.Arith.{digits_lt}
use lib.ListN.{length, get_or}
use borrow.Author.Tests.{lt-ltb, not-true, not-false}
use Rattle.choice.specs.Choice.{pick}
use Rattle.machine.specs.Step.{word_count}
use Rattle.flow.specs.Flow.{Pass}
use Rattle.flow.proofs.Lawful.{Fits}
use Rattle.flow.proofs.Grows.{join_at-good, join_at-other, join_at-grows}
use Rattle.flow.proofs.Still.{join_at-still}
use Rattle.facts.specs.declared.Cell.{Cell}
use Rattle.facts.specs.Record.{depths, cell_at, put_cell, join_cell, holds_cell, FineCell, Layout}
use Rattle.transfer.specs.Passes.{point_at, is_call_site, table_space}
use Rattle.transfer.proofs.TableLaws.{table_laws, site_wider}
use Rattle.callers.specs.Callers.{Held}
use Rattle.marks.specs.Marks.{Sited, Marked, Noted}
use Rattle.marks.proofs.Moving.{noted_none, marked_noted}
use Rattle.passing.specs.Passing.{Laid, seen}

-- a table with the layout is one that call sites can be asked of
pub held : (image t : List ℕ) → word_count image ≤ 8192 → Layout (depths * word_count image) t → Held image t
held image t w g = record { words = w; long = g.long; fine = g.fine }

-- ---- joined
module _ (image : List ℕ) (bytes : (k : ℕ) → get_or image k 0 < 256) (t m : List ℕ) (depth a : ℕ) (d : Cell) (g : Laid image t) (s : Sited image t m)
    (l : depth < depths) (h : a < word_count image) (f : FineCell d) where
  abbrev pass : Pass Cell
  pass = record { target = point_at (word_count image) depth a; cell = d }

  fits : Fits (table_space image) FineCell pass
  fits = record { inside = digits_lt l h; fine = f }

  module _ {u : List ℕ} (e : u ≡ put_cell t (point_at (word_count image) depth a) (join_cell (cell_at t (point_at (word_count image) depth a)) d)) where
    pub joined_held : Held image u
    joined_held = subst⁻¹ (Held image) e
        (held image (put_cell t (point_at (word_count image) depth a) (join_cell (cell_at t (point_at (word_count image) depth a)) d)) g.words
        (join_at-good (table_laws image bytes) t pass fits g.layout))

    -- a cell that held it stays, and nothing is to be noted
    pub joined_same : {r : Bool} → r ≡ not (holds_cell (cell_at t (point_at (word_count image) depth a)) d) → not r ≡ true
        → (u ≡ put_cell t (point_at (word_count image) depth a) (join_cell (cell_at t (point_at (word_count image) depth a)) d))
        × (false ≡ not (holds_cell (cell_at t (point_at (word_count image) depth a)) d)) × Noted image t m u m
    joined_same {r = r} told clear =
        let holds : holds_cell (cell_at t (point_at (word_count image) depth a)) d ≡ true = not-false (holds_cell (cell_at t (point_at (word_count image) depth a)) d) (sym told ∙ not-true r clear) in (
          e,
          sym (not-true r clear) ∙ told,
          subst⁻¹ (λ (x : List ℕ). Noted image t m x m) (e ∙ join_at-still (table_laws image bytes) t pass g.layout fits holds) (noted_none s),
        )

    -- one that changed is noted
    pub joined_noted : {n : List ℕ} {r : Bool} → r ≡ not (holds_cell (cell_at t (point_at (word_count image) depth a)) d) → not r ≡ false → Marked image u m depth a n
        → (u ≡ put_cell t (point_at (word_count image) depth a) (join_cell (cell_at t (point_at (word_count image) depth a)) d))
        × (true ≡ not (holds_cell (cell_at t (point_at (word_count image) depth a)) d)) × Noted image t m u n
    joined_noted {n = n} {r = r} told set k = (
      e,
      sym (not-false r set) ∙ told,
      marked_noted image t m u n depth a g.words l h s
          (λ i b ne. ap (λ (x : List ℕ). cell_at x i) e ∙ join_at-other (table_laws image bytes) t pass i g.layout fits b (λ q. ne (sym q)))
          (λ y. subst⁻¹ (λ (x : List ℕ). is_call_site image x depth a ≡ true) e
          (site_wider image bytes t (put_cell t (point_at (word_count image) depth a) (join_cell (cell_at t (point_at (word_count image) depth a)) d))
          (join_at-grows (table_laws image bytes) t pass fits g.layout) depth a l h y))
          k,
    )

-- ---- handed on
-- which of two tables is seen
module _ (asked t : List ℕ) where
  pub sees_asked : 0 < length asked → seen asked t ≡ asked
  sees_asked h = ap (λ (b : Bool). pick b asked t) (lt-ltb 0 (length asked) h)
