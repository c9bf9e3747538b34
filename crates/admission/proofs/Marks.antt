-- The loop over the cells, depth by depth: it writes the findings and keeps the lowest. Assumes nothing.
use mathlib.Core.Path.{◌≡◌, ◌∙◌, ap}
use mathlib.Core.List.{List}
use Prim.Native.Nat.{ℕ, ◌+◌, ◌*◌, ◌≤◌, ◌<◌}
use native.Mathlib.Omega.{arith}
use lib.Arith.{digits_lt}
use lib.ListN.{length}
use Rattle.machine.specs.Step.{word_count}
use Rattle.facts.specs.Record.{record_size, depths, record_of, cell_at, put_record}
use Rattle.callers.specs.Callers.{Held}
use Rattle.transfer.specs.Passes.{point_at}
use Rattle.std.specs.Prelude.{Option, Some, Ok, IfSome, MatchOption}
use Rattle.findings.specs.declared.Failure.{Failure}
use Rattle.findings.specs.Findings.{failing}
use Rattle.admission.specs.Admission.{with_findings, verdict_of, admit_told}
use Rattle.admission.proofs.Marking.{Marking, marking_ends, marking_finding, marking_goes}
use Rattle.admission.proofs.Verdict.{cell_finding, Telling, telling_next, telling_ends}

-- ---- a cell's place

module _ (image table : List ℕ) (held : Held image table) (depth pc : ℕ) (d : depth < depths) (l : pc < word_count image) where
  pub low : point_at (word_count image) depth pc < 73728
  low = let i : point_at (word_count image) depth pc < depths * word_count image = digits_lt d l in omega (arith, held.words)

  pub room : record_size * point_at (word_count image) depth pc + record_size ≤ length table
  room = let i : point_at (word_count image) depth pc < depths * word_count image = digits_lt d l in omega (arith, held.long)

-- ---- the loop

-- cell i is the next; t is the table now, of t₀; told is the lowest finding so far
pub record Marks (image map t₀ : List ℕ) (i : ℕ) (t : List ℕ) (told : Option Failure) : Type 0 where
  pub marking : Marking image map t₀ i t
  pub telling : Telling image map t₀ i told

module _ {image map t₀ : List ℕ} (held : Held image t₀) where
  -- the finding of a cell is written, which leaves u, and told unless a lower one is
  pub marks_next : (depth pc : ℕ) (t u : List ℕ) (before found kept : Option Failure) → depth < depths → pc < word_count image
      → Marks image map t₀ (point_at (word_count image) depth pc) t before
      → failing found ≡ cell_finding image map t depth pc
      → IfSome found (λ f. (f.depth ≡ depth) × (f.address ≡ pc))
      → u ≡ put_record t (point_at (word_count image) depth pc) (record_of (cell_at t (point_at (word_count image) depth pc)) (failing found))
      → MatchOption before (kept ≡ found) (λ f. kept ≡ Some f)
      → Marks image map t₀ (point_at (word_count image) depth pc + 1) u kept
  marks_next depth pc t u before found kept deep near m e at w k =
      record {
        marking = marking_goes image map t₀ held.fine i t u (digits_lt deep near) (w ∙ ap (λ (x : ℕ). put_record t i (record_of (cell_at t i) x)) e) m.marking;
        telling =
            telling_next image map t₀ depth pc before found kept deep near
            (e ∙ marking_finding image map t₀ held.fine i t m.marking i (digits_lt deep near)) at k m.telling;
      }
    where
      i : ℕ
      i = point_at (word_count image) depth pc

  -- past the last cell
  module _ (i : ℕ) (t : List ℕ) (told : Option Failure) (past : depths * word_count image ≤ i) (m : Marks image map t₀ i t told) where
    pub marks_end : t ≡ with_findings image map t₀ t₀ 0 (depths * word_count image)
    marks_end = marking_ends image map t₀ i t past m.marking

    pub marks_told : admit_told (Ok told) ≡ verdict_of image map t₀
    marks_told = telling_ends image map t₀ i told past m.telling
