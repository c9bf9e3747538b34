-- The table, marks and hubs before the first sweep: from nothing, by what reset passes on to the first cell.
use mathlib.Core.Path.{◌≡◌, refl, sym, ◌∙◌, ap, ap₂, subst, subst⁻¹}
use mathlib.Core.Bool.{Bool, true, false, ◌&&◌, false≢true}
use mathlib.Core.List.{List, [], ◌∷◌}
use Prim.Native.Nat.{ℕ, ◌-◌, ◌*◌, ◌/◌, ◌≤◌, ◌<◌}
use native.Mathlib.Omega.{arith}
use lib.Arith.{digits_lt}
use lib.ListN.{get_or, replicate, length-replicate}
use borrow.Author.Tests.{lt-ltb}
use Rattle.choice.specs.Choice.{pick}
use Rattle.bitset.proofs.Sets.{has_zeros}
use Rattle.machine.specs.Step.{word_count, shape_at}
use Rattle.flow.specs.Flow.{Pass, Below, join_all, all_covered}
use Rattle.flow.proofs.Each.{Each, none, also}
use Rattle.flow.proofs.Lawful.{Fits}
use Rattle.flow.proofs.Rest.{join_all-one, all_covered-nil}
use Rattle.flow.proofs.Grows.{join_all-grows}
use Rattle.facts.specs.declared.Cell.{Cell}
use Rattle.facts.specs.Facts.{reset_facts}
use Rattle.facts.specs.Record.{record_size, depths, unreached, reset_cell, cell_at, put_cell, join_cell, FineCell}
use Rattle.transfer.specs.Passes.{point_at, toward, is_call, some, words_at, is_call_site, return_passes, table_space, table_length, start_table}
use Rattle.transfer.proofs.TableLaws.{table_laws, zeros_cell, zeros_layout, reset_fine}
use Rattle.marks.specs.Marks.{mark_words, returns_at, own_passes, Noted, Agenda}
use Rattle.marks.proofs.Settling.{agenda_noted}
use Rattle.passing.specs.Passing.{Laid, Ready, Passed}

abbrev zeros : ℕ → List ℕ
zeros n = replicate n 0

-- reset joined into a cell that is not reached
first_cell : join_cell unreached reset_cell ≡ reset_cell
unfolding join_cell
first_cell = refl

module _ (image : List ℕ) where
  abbrev size : ℕ
  size = depths * word_count image

  -- no cell of a table of zeros is reached: none is a call site, none passes anything on, none returns
  module _ (i : ℕ) (l : i < depths * word_count image) where
    blank : cell_at (replicate (record_size * (depths * word_count image)) 0) i ≡ unreached
    blank = zeros_cell (depths * word_count image) i l

    no_own : all_covered (table_space image) (replicate (record_size * (depths * word_count image)) 0) (own_passes image i (cell_at (replicate (record_size * (depths * word_count image)) 0) i)) ≡ true
    no_own =
        ap (λ (c : Cell). all_covered (table_space image) (zeros (record_size * size)) (own_passes image i c)) blank
        ∙ all_covered-nil (table_space image) (zeros (record_size * size))

    no_return : returns_at image i (cell_at (replicate (record_size * (depths * word_count image)) 0) i) ≡ false
    no_return = ap (returns_at image i) blank

  no_site : (depth a : ℕ) → depth < depths → a < word_count image → is_call_site image (replicate (record_size * (depths * word_count image)) 0) depth a ≡ false
  no_site depth a d l =
      ap (λ (c : Cell). c.reached && some is_call (words_at image a c.facts (shape_at image a))) (blank (point_at (word_count image) depth a) (digits_lt d l))

  pub nothing_due : Agenda image (replicate (record_size * (depths * word_count image)) 0) (replicate mark_words 0) (replicate 144 0)
  nothing_due = record {
    sited = record {
      long = length-replicate {A = ℕ} mark_words 0;
      sites = λ d a h l. has_zeros mark_words _ ∙ sym (no_site d a h l);
    };
    settled = record {
      within = λ i l h. has_zeros mark_words _;
      own = λ i l h. no_own i l;
      shared = λ i l h.
          ap (λ (b : Bool). all_covered (table_space image) (zeros (record_size * size)) (pick b (return_passes image (zeros (record_size * size)) (i / word_count image - 1) (cell_at (zeros (record_size * size)) i).facts) [])) (no_return i l)
          ∙ all_covered-nil (table_space image) (zeros (record_size * size));
    };
    returning = record { exact = λ i l h. has_zeros mark_words _ ∙ sym (no_return i l) };
    shown = record {
      layout = zeros_layout depths;
      held = λ d l clear reached. absurd (false≢true (sym (ap (λ (c : Cell). c.reached) (zeros_cell depths d l)) ∙ reached));
    };
  }

  module _ (words : word_count image ≤ 8192) {t : List ℕ} (e : t ≡ replicate (record_size * (depths * word_count image)) 0) where
    pub ready : Ready image [] t (replicate mark_words 0)
    ready = subst⁻¹ (λ (x : List ℕ). Ready image [] x (zeros mark_words)) e
        (record { words = words; layout = zeros_layout size; sited = λ x. nothing_due.sited })

    -- what reset passes on makes the table before the first sweep, and its marks
    module _ (bytes : (k : ℕ) → get_or image k 0 < 256) (filled : 0 < word_count image) {u n : List ℕ} {r : Bool}
        (p : Passed image [] 0 t (replicate mark_words 0) (toward (word_count image) 0 0 reset_facts) u n r) where
      abbrev first : Pass Cell
      first = record { target = point_at (word_count image) 0 0; cell = reset_cell }

      one : toward (word_count image) 0 0 reset_facts ≡ first ∷ []
      one = ap (λ (b : Bool). pick b (first ∷ []) []) (lt-ltb 0 (word_count image) filled)

      made : u ≡ join_all (table_space image) (replicate (record_size * (depths * word_count image)) 0) (first ∷ [])
      made = p.table ∙ ap₂ (join_all (table_space image)) e one

      pub started : u ≡ start_table image
      started =
          let here : point_at (word_count image) 0 0 ≡ 0 = omega arith in
          let long : record_size * (depths * word_count image) ≡ table_length image = omega arith in
          made ∙ join_all-one (table_space image) (zeros (record_size * size)) first
          ∙ ap (λ (c : Cell). put_cell (zeros (record_size * size)) (point_at (word_count image) 0 0) (join_cell c reset_cell)) (blank (point_at (word_count image) 0 0) (omega (arith, filled)))
          ∙ ap (λ (c : Cell). put_cell (zeros (record_size * size)) (point_at (word_count image) 0 0) c) first_cell
          ∙ ap₂ (λ (m i : ℕ). put_cell (zeros m) i reset_cell) long here

      pub begun : Laid image u × Agenda image u n (replicate 144 0)
      begun = (
        record { words = words; layout = p.laid },
        agenda_noted image bytes (zeros_layout size) p.laid wide nothing_due (subst (λ (x : List ℕ). Noted image x (zeros mark_words) u n) e (p.noted refl)),
      )
        where
          fits : Each (Fits (table_space image) FineCell) (first ∷ [])
          fits = also {x = first} (record { inside = omega (arith, filled); fine = reset_fine }) none

          wide : Below (table_space image) (zeros (record_size * size)) u
          wide = subst⁻¹ (Below (table_space image) (zeros (record_size * size))) made (join_all-grows (table_laws image bytes) (zeros (record_size * size)) (first ∷ []) fits (zeros_layout size))
