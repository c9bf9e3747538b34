-- Facts that know no more pass on at least as much: the words that a cell executes, its call sites, and what each word
-- passes on.
use mathlib.Core.Path.{◌≡◌, refl, sym, ◌∙◌}
use mathlib.Core.Bool.{Bool, true, false, ◌&&◌}
use mathlib.Core.List.{List, [], ◌∷◌}
use Prim.Native.Nat.{ℕ, ◌+◌, ◌-◌, ◌*◌, ◌%◌, ◌≤◌, ◌<◌}
use native.Mathlib.Omega.{arith}
use native.Mathlib.Nat.{mod-lt, lt_of_lt_of_le}
use lib.Dec.{ltb}
use lib.ListN.{get_or}
use borrow.Author.Tests.{lt-ltb}
use Rattle.choice.specs.Choice.{pick}
use Rattle.choice.proofs.Laws.{and_both, and_first, and_second}
use Rattle.state.specs.State.{stack_places}
use Rattle.machine.specs.Shape.{Source, jump, branch, defer, call, return, Shape, act, go, invalid}
use Rattle.machine.specs.Step.{shape_at, in_page}
use Rattle.flow.specs.Flow.{Pass}
use Rattle.flow.proofs.Each.{Each, none, also, each_append, each_left, each_right}
use Rattle.flow.proofs.Grows.{Covered}
use Rattle.facts.specs.declared.Cell.{Cell}
use Rattle.facts.specs.Facts.{all_know_no_more, span_of, may_be_zero, may_be_other, facts_after}
use Rattle.facts.specs.Record.{cell_of, holds_cell, cell_at}
use Rattle.facts.proofs.Cells.{holds_trans}
use Rattle.facts.proofs.Makes.{FineFacts, after_no_more, span_cases, span_bytes}
use Rattle.transfer.specs.Passes.{over, point_at, toward, gives, page_address, can_be_executed, words_at, some, word_passes, all_passes, table_space}
use Rattle.transfer.proofs.Membership.{In, first, later, each_picked, each_over, each_pick, over_each, in_over, in_one, over_in, some_in, some_out}
use Rattle.machine.proofs.InRange.{ShapeInRange, shape_at_in_range}
use Rattle.transfer.proofs.Ranges.{PageFits, page_fits}

-- ---- the words that a cell executes

pub gives_wider : (source : Source) (page i k : ℕ) (gs fs : List ℕ) → PageFits source page → all_know_no_more gs fs ≡ true
    → gives page i (span_of source fs) k ≡ true → gives page i (span_of source gs) k ≡ true
unfolding gives
gives_wider source page i k gs fs fits h g =
    span_cases source gs fs h (λ e. rw e g)
    (λ e. rw e (lt-ltb ((k + (page - (i + 0) % page)) % page) 256 (lt_of_lt_of_le (mod-lt (k + (page - (i + 0) % page)) fits.some) fits.most)))

pub words_wider : (image : List ℕ) (pc : ℕ) (sh : Shape) (gs fs : List ℕ) {w : Shape} → ShapeInRange sh → all_know_no_more gs fs ≡ true
    → In w (words_at image pc fs sh) → In w (words_at image pc gs sh)
unfolding words_at
words_wider image pc (act source op target) gs fs f h i = i
words_wider image pc (go source (jump a)) gs fs f h i = i
words_wider image pc (go source (branch page n)) gs fs f h i = i
words_wider image pc (go source (defer page n)) gs fs f h i =
    over_in 0 page (λ k. gives page n (span_of source fs) k && can_be_executed image (page_address page pc k)) (λ k. shape_at image (page_address page pc k) ∷ []) i
    (λ k low high t m.
    in_over 0 page (λ k. gives page n (span_of source gs) k && can_be_executed image (page_address page pc k)) (λ k. shape_at image (page_address page pc k) ∷ []) k low high
    (and_both
    (gives_wider source page n k gs fs (page_fits source page f.1.0 f.1.2) h (and_first (gives page n (span_of source fs) k) (can_be_executed image (page_address page pc k)) t))
    (and_second (gives page n (span_of source fs) k) (can_be_executed image (page_address page pc k)) t))
    m)
words_wider image pc (go source (call n)) gs fs f h i = i
words_wider image pc (go source return) gs fs f h i = i
words_wider image pc invalid gs fs f h i = i

-- each of them has its fields in range
pub words_fit : (image : List ℕ) → ((k : ℕ) → get_or image k 0 < 256) → (pc : ℕ) (sh : Shape) (fs : List ℕ) {w : Shape} → ShapeInRange sh
    → In w (words_at image pc fs sh) → ShapeInRange w
unfolding words_at
words_fit image bytes pc (act source op target) fs f i = rw (in_one i) f
words_fit image bytes pc (go source (jump a)) fs f i = rw (in_one i) f
words_fit image bytes pc (go source (branch page n)) fs f i = rw (in_one i) f
words_fit image bytes pc (go source (defer page n)) fs f i =
    over_in 0 page (λ k. gives page n (span_of source fs) k && can_be_executed image (page_address page pc k)) (λ k. shape_at image (page_address page pc k) ∷ []) i
    (λ k low high t m. rw (in_one m) (shape_at_in_range image bytes (page_address page pc k)))
words_fit image bytes pc (go source (call n)) fs f i = rw (in_one i) f
words_fit image bytes pc (go source return) fs f i = rw (in_one i) f
words_fit image bytes pc invalid fs f i = rw (in_one i) f

pub some_wider : (image : List ℕ) (pc : ℕ) (sh : Shape) (gs fs : List ℕ) (test : Shape → Bool) → ShapeInRange sh → all_know_no_more gs fs ≡ true
    → some test (words_at image pc fs sh) ≡ true → some test (words_at image pc gs sh) ≡ true
some_wider image pc sh gs fs test f h s =
    some_out test (words_at image pc fs sh) s (λ w i t. some_in test (words_wider image pc sh gs fs f h i) t)

-- ---- what a word passes on

module _ (image u : List ℕ) where
  abbrev Held : Pass Cell → Type 0
  Held = Covered (table_space image) u

  held_wider : (words depth a : ℕ) (gs fs : List ℕ) (b : Bool) → all_know_no_more gs fs ≡ true
      → Each Held (pick b (record { target = point_at words depth a; cell = cell_of true gs } ∷ []) [])
      → Each Held (pick b (record { target = point_at words depth a; cell = cell_of true fs } ∷ []) [])
  unfolding holds_cell
  held_wider words depth a gs fs false h e = none
  held_wider words depth a gs fs true h (also p e) =
      also (record { holds = holds_trans (cell_at u (point_at words depth a)) (cell_of true gs) (cell_of true fs) p.holds h }) none

  pub toward_wider : (words depth a : ℕ) (gs fs : List ℕ) → all_know_no_more gs fs ≡ true → Each Held (toward words depth a gs) → Each Held (toward words depth a fs)
  toward_wider words depth a gs fs h e = held_wider words depth a gs fs (ltb a words) h e

  zero_wider : (source : Source) (gs fs : List ℕ) → all_know_no_more gs fs ≡ true → may_be_zero (span_of source fs) ≡ true → may_be_zero (span_of source gs) ≡ true
  zero_wider source gs fs h z = span_cases source gs fs h (λ e. rw e z) (λ e. rw e)

  other_wider : (source : Source) (gs fs : List ℕ) → all_know_no_more gs fs ≡ true → may_be_other (span_of source fs) ≡ true → may_be_other (span_of source gs) ≡ true
  other_wider source gs fs h z = span_cases source gs fs h (λ e. rw e z) (λ e. rw e)

  pub word_wider : (words depth pc : ℕ) (gs fs : List ℕ) (w : Shape) → ShapeInRange w → FineFacts gs → FineFacts fs → all_know_no_more gs fs ≡ true
      → Each Held (word_passes words depth pc gs w) → Each Held (word_passes words depth pc fs w)
  unfolding word_passes
  word_wider words depth pc gs fs (act source op target) f g k h e =
      toward_wider words depth (pc + 1) (facts_after source op target gs) (facts_after source op target fs) (after_no_more source op target gs fs (g.long ∙ sym k.long) h) e
  word_wider words depth pc gs fs (go source (jump a)) f g k h e = toward_wider words depth a gs fs h e
  word_wider words depth pc gs fs (go source (branch page i)) f g k h e =
      let zeros = pick (may_be_zero (span_of source gs)) (toward words depth (pc + 1) gs) [] in
      let others = pick (may_be_other (span_of source gs)) (toward words depth (in_page page pc i) gs) [] in
      each_append
      (each_pick (may_be_zero (span_of source fs)) (λ z. toward_wider words depth (pc + 1) gs fs h (each_picked (may_be_zero (span_of source gs)) (zero_wider source gs fs h z) (each_left zeros others e))))
      (each_pick (may_be_other (span_of source fs)) (λ z. toward_wider words depth (in_page page pc i) gs fs h (each_picked (may_be_other (span_of source gs)) (other_wider source gs fs h z) (each_right zeros others e))))
  word_wider words depth pc gs fs (go source (defer page i)) f g k h e = none
  word_wider words depth pc gs fs (go source (call i)) f g k h e =
      each_pick (ltb depth stack_places)
      (λ d.
      let all = each_picked (ltb depth stack_places) d e in
      over_each (span_of source fs).low (span_of source fs).count (λ v. true) (λ v. toward words (depth + 1) (v * 256 + i) fs)
      (λ v low high t. toward_wider words (depth + 1) (v * 256 + i) gs fs h (called v low high all)))
    where
      called : (v : ℕ) → (span_of source fs).low ≤ v → v < (span_of source fs).low + (span_of source fs).count
          → Each Held (over (span_of source gs).low (span_of source gs).count (λ v. true) (λ v. toward words (depth + 1) (v * 256 + i) gs))
          → Each Held (toward words (depth + 1) (v * 256 + i) gs)
      called v low high all =
          span_cases source gs fs h
          (λ e. each_over (span_of source gs).low (span_of source gs).count (λ v. true) (λ v. toward words (depth + 1) (v * 256 + i) gs) v (rw e low) (rw e high) refl all)
          (λ e. each_over (span_of source gs).low (span_of source gs).count (λ v. true) (λ v. toward words (depth + 1) (v * 256 + i) gs) v (rw e (omega arith)) (rw e (span_bytes source fs f.0 k v high)) refl all)
  word_wider words depth pc gs fs (go source return) f g k h e = none
  word_wider words depth pc gs fs invalid f g k h e = none

  pub passes_at : {P : Pass Cell → Type 0} (words depth pc : ℕ) (fs : List ℕ) (ws : List Shape) {w : Shape} → Each P (all_passes words depth pc fs ws) → In w ws → Each P (word_passes words depth pc fs w)
  unfolding all_passes
  passes_at words depth pc fs (w ∷ ws) e first = each_left (word_passes words depth pc fs w) (all_passes words depth pc fs ws) e
  passes_at words depth pc fs (v ∷ ws) e (later i) = passes_at words depth pc fs ws (each_right (word_passes words depth pc fs v) (all_passes words depth pc fs ws) e) i
  passes_at {P = P} words depth pc fs [] {w = w} e x'' = elim x'' [ ]

  pub passes_from_lem : {P : Pass Cell → Type 0} (words depth pc : ℕ) (fs : List ℕ) (ws : List Shape) → ((w : Shape) → In w ws → Each P (word_passes words depth pc fs w)) → Each P (all_passes words depth pc fs ws)
  unfolding all_passes
  passes_from_lem words depth pc fs [] h = none
  passes_from_lem words depth pc fs (w ∷ ws) h = each_append (h w first) (passes_from_lem words depth pc fs ws (λ v i. h v (later i)))
