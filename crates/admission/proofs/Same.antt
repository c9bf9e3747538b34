-- What is found depends on a table's cells alone: tables with the same cells have the same findings. Assumes nothing.
use mathlib.Core.Path.{◌≡◌, refl, ◌∙◌, ap, ap₂}
use mathlib.Core.Bool.{Bool, true, ◌&&◌, not}
use mathlib.Core.List.{List, [], ◌∷◌, ◌++◌}
use Prim.Native.Nat.{ℕ, zero, suc, ◌+◌, ◌-◌, ◌*◌, ◌/◌, ◌%◌, ◌<◌}
use native.Mathlib.Omega.{arith}
use native.Mathlib.Nat.{div-lt_iff_lt-mul}
use lib.Arith.{digits_lt}
use lib.Dec.{ltb}
use Rattle.choice.specs.Choice.{pick, Question, ask, first_no}
use Rattle.machine.specs.Shape.{Control, jump, branch, defer, call, return, Shape, act, go, invalid}
use Rattle.machine.specs.Step.{word_count, shape_at}
use Rattle.facts.specs.declared.Cell.{Cell}
use Rattle.facts.specs.Facts.{Span, span_of}
use Rattle.facts.specs.Record.{depths, cell_at}
use Rattle.transfer.specs.Passes.{over, point_at, is_defer, is_call, page_address, gives, some, words_at, is_call_site}
use Rattle.transfer.specs.Findings.{read_questions, all_below, control_questions, word_findings, executed_findings, defer_findings, cell_questions, finding_at}

-- ---- only the places below n are asked

pub below_same : (words n : ℕ) (f g : ℕ → Bool) → ((k : ℕ) → k < n → f k ≡ g k) → all_below words n f ≡ all_below words n g
unfolding all_below
below_same words zero f g h = refl
below_same words (suc n) f g h =
    ap₂ (λ (b c : Bool). pick b (ltb (n + 1) words) true && c) (h n (omega arith)) (below_same words n f g (λ k l. h k (omega arith)))

pub over_same : {A : Type 0} (from n : ℕ) (test : ℕ → Bool) (f g : ℕ → List A) → ((k : ℕ) → f k ≡ g k) → over from n test f ≡ over from n test g
unfolding over
over_same from zero test f g h = refl
over_same {A} from (suc n) test f g h =
    ap₂ (λ (x y : List A). pick (test from) x [] ++ y) (h from) (over_same (suc from) n test f g h)

-- a cell's depth
pub depth_of : (i n : ℕ) → i < depths * n → i / n < depths
depth_of i n h = let some : 0 < n = omega arith in (div-lt_iff_lt-mul {k = n} {x = i} {y = depths} some).1 h

-- the cells of two tables are the same
pub record SameCells (image t u : List ℕ) : Type 0 where
  pub same : (j : ℕ) → j < depths * word_count image → cell_at t j ≡ cell_at u j

module _ (image map t u : List ℕ) (cells : SameCells image t u) where
  pub site_same : (depth a : ℕ) → depth < depths → a < word_count image → is_call_site image t depth a ≡ is_call_site image u depth a
  site_same depth a d l =
      ap (λ (c : Cell). c.reached && some is_call (words_at image a c.facts (shape_at image a)))
      (cells.same (point_at (word_count image) depth a) (digits_lt d l))

  control_same : (depth pc : ℕ) (span : Span) (control : Control) → depth < depths
      → control_questions image t depth pc span control ≡ control_questions image u depth pc span control
  control_same depth pc span (jump a) d = refl
  control_same depth pc span (branch page i) d = refl
  control_same depth pc span (defer page i) d = refl
  control_same depth pc span (call i) d = refl
  control_same depth pc span return d =
      ap (λ (b : Bool). ask 27 (ltb 0 depth) ∷ ask 21 b ∷ [])
      (below_same (word_count image) (word_count image) (is_call_site image t (depth - 1)) (is_call_site image u (depth - 1))
      (λ a l. site_same (depth - 1) a (omega arith) l))

  word_same : (depth pc : ℕ) (facts : List ℕ) (w : Shape) → depth < depths
      → word_findings image map t depth pc facts w ≡ word_findings image map u depth pc facts w
  word_same depth pc facts (act source op target) d = refl
  word_same depth pc facts (go source control) d =
      ap (λ (qs : List Question). read_questions map source facts ++ qs) (control_same depth pc (span_of source facts) control d)
  word_same depth pc facts invalid d = refl

  executed_same : (depth pc : ℕ) (facts : List ℕ) (a : ℕ) → depth < depths
      → executed_findings image map t depth pc facts a ≡ executed_findings image map u depth pc facts a
  executed_same depth pc facts a d =
      ap (λ (qs : List Question). ask 21 (ltb a (word_count image)) ∷ ask 29 (not (is_defer (shape_at image a))) ∷ qs)
      (word_same depth pc facts (shape_at image a) d)

  defer_same : (depth pc : ℕ) (facts : List ℕ) (w : Shape) → depth < depths
      → defer_findings image map t depth pc facts w ≡ defer_findings image map u depth pc facts w
  defer_same depth pc facts (act source op target) d = refl
  defer_same depth pc facts (go source (jump a)) d = refl
  defer_same depth pc facts (go source (branch page i)) d = refl
  defer_same depth pc facts (go source (defer page i)) d =
      over_same 0 page (gives page i (span_of source facts))
      (λ k. executed_findings image map t depth pc facts (page_address page pc k))
      (λ k. executed_findings image map u depth pc facts (page_address page pc k))
      (λ k. executed_same depth pc facts (page_address page pc k) d)
  defer_same depth pc facts (go source (call i)) d = refl
  defer_same depth pc facts (go source return) d = refl
  defer_same depth pc facts invalid d = refl

  questions_same : (depth pc : ℕ) (facts : List ℕ) → depth < depths
      → cell_questions image map t depth pc facts ≡ cell_questions image map u depth pc facts
  questions_same depth pc facts d =
      ap₂ (λ (x y : List Question). x ++ y) (word_same depth pc facts (shape_at image pc) d) (defer_same depth pc facts (shape_at image pc) d)

  pub finding_same : (i : ℕ) → i < depths * word_count image → finding_at image map t i ≡ finding_at image map u i
  unfolding finding_at
  finding_same i l =
      ap (λ (qs : List Question). pick (cell_at t i).reached (first_no qs) 0)
      (questions_same (i / word_count image) (i % word_count image) (cell_at t i).facts (depth_of i (word_count image) l))
      ∙ ap (λ (c : Cell). pick c.reached (first_no (cell_questions image map u (i / word_count image) (i % word_count image) c.facts)) 0)
      (cells.same i l)
