-- What an XEC executes: what the code has passed on for the places of its page is what they pass on.
use mathlib.Core.Path.{◌≡◌, sym, ◌∙◌, ap, ap₂, subst}
use mathlib.Core.Bool.{Bool, true, false, not, ◌&&◌, ◌||◌, and-false}
use mathlib.Core.List.{List, [], ◌∷◌, ◌++◌}
use Prim.Native.Nat.{ℕ, ◌+◌, ◌≤◌, ◌<◌}
use native.Mathlib.Omega.{arith}
use lib.Dec.{ltb}
use borrow.Author.Tests.{lt-ltb, le-ltb, not-true, not-false}
use Rattle.choice.specs.Choice.{pick}
use Rattle.machine.specs.Shape.{Source, Shape, go, defer}
use Rattle.machine.specs.Step.{word_count, shape_at, in_page}
use Rattle.flow.specs.Flow.{Pass}
use Rattle.facts.specs.declared.Cell.{Cell}
use Rattle.facts.specs.Facts.{Span, span_of}
use Rattle.transfer.specs.Passes.{over, gives, page_address, can_be_executed, words_at, word_passes, all_passes}
use Rattle.callers.proofs.Executing.{in_page_lem}
use Rattle.passing.specs.Passing.{Ready, Passed}
use Rattle.transfer.proofs.Lists.{over_none, over_more, all_none, all_append, not_defer}
use Rattle.passing.proofs.Passing.{passed_as, passed_none, passed_then}

-- the word at place k of the page, if it is executed; those at the first n places
abbrev pub executed_at : List ℕ → ℕ → ℕ → ℕ → Span → ℕ → List Shape
executed_at image pc page i span k =
    pick (gives page i span k && can_be_executed image (page_address page pc k)) (shape_at image (page_address page pc k) ∷ []) []

abbrev pub executed_to : List ℕ → ℕ → ℕ → ℕ → Span → ℕ → List Shape
executed_to image pc page i span n =
    over 0 n (λ k. gives page i span k && can_be_executed image (page_address page pc k)) (λ k. shape_at image (page_address page pc k) ∷ [])

module _ (image asked : List ℕ) (depth pc : ℕ) (facts : List ℕ) (page i : ℕ) (span : Span) where
  abbrev passes_of : List Shape → List (Pass Cell)
  passes_of ws = all_passes (word_count image) depth pc facts ws

  -- ---- one place
  module _ (k : ℕ) where
    none_passed : {t m : List ℕ} → executed_at image pc page i span k ≡ [] → Ready image asked t m
        → Passed image asked depth t m (passes_of (executed_at image pc page i span k)) t m false
    none_passed e g = passed_as (ap passes_of e ∙ all_none (word_count image) depth pc facts) (passed_none g)

    pub not_given : {t m : List ℕ} (b : Bool) → b ≡ gives page i span k → not b ≡ true → Ready image asked t m
        → Passed image asked depth t m (passes_of (executed_at image pc page i span k)) t m false
    not_given b e w g = let no : gives page i span k ≡ false = sym e ∙ not-true b w in none_passed (rw no) g

    pub not_inside : {t m : List ℕ} {a : ℕ} → k < page → a ≡ in_page page pc k → word_count image ≤ a → Ready image asked t m
        → Passed image asked depth t m (passes_of (executed_at image pc page i span k)) t m false
    not_inside h e l g =
        let at = in_page_lem page pc k h in
        let out : ltb (page_address page pc k) (word_count image) ≡ false = le-ltb (page_address page pc k) (word_count image) (omega arith) in
        none_passed (rw (out, and-false)) g

    pub executed : {t u m n : List ℕ} {a : ℕ} {s : Shape} {r : Bool} (b : Bool) → k < page → b ≡ gives page i span k → not b ≡ false
        → a ≡ in_page page pc k → a < word_count image → s ≡ shape_at image a
        → Passed image asked depth t m (word_passes (word_count image) depth pc facts s) u n r
        → Passed image asked depth t m (passes_of (executed_at image pc page i span k)) u n r
    executed {a = a} {s = s} b h e given at l read p =
        let yes : gives page i span k ≡ true = sym e ∙ not-false b given in
        let same : a ≡ page_address page pc k = at ∙ in_page_lem page pc k h in
        let inside : ltb (page_address page pc k) (word_count image) ≡ true = lt-ltb (page_address page pc k) (word_count image) (omega arith) in
        let shape : s ≡ shape_at image (page_address page pc k) = read ∙ ap (shape_at image) same in
        let all : passes_of (executed_at image pc page i span k) ≡ word_passes (word_count image) depth pc facts (shape_at image (page_address page pc k)) =
        rw (yes, inside) (not_defer (word_count image) depth pc facts (shape_at image (page_address page pc k))) in
        passed_as (all ∙ sym (ap (word_passes (word_count image) depth pc facts) shape)) p

  -- ---- all places
  pub executed_begins : {t m : List ℕ} → Ready image asked t m → Passed image asked depth t m (passes_of (executed_to image pc page i span 0)) t m false
  executed_begins g =
      passed_as (ap passes_of (over_none (λ k. gives page i span k && can_be_executed image (page_address page pc k)) (λ k. shape_at image (page_address page pc k) ∷ []) 0) ∙ all_none (word_count image) depth pc facts)
      (passed_none g)

  pub executed_next : (k : ℕ) {t u w m n o : List ℕ} {r s : Bool} → Passed image asked depth t m (passes_of (executed_to image pc page i span k)) u n r
      → Passed image asked depth u n (passes_of (executed_at image pc page i span k)) w o s
      → Passed image asked depth t m (passes_of (executed_to image pc page i span (k + 1))) w o (r || s)
  executed_next k p q =
      let here : 0 + k ≡ k = omega arith in
      let more : executed_to image pc page i span (k + 1) ≡ executed_to image pc page i span k ++ executed_at image pc page i span k =
      over_more (λ k. gives page i span k && can_be_executed image (page_address page pc k)) (λ k. shape_at image (page_address page pc k) ∷ []) 0 k
      ∙ ap (λ (n : ℕ). executed_to image pc page i span k ++ executed_at image pc page i span n) here in
      passed_as (ap passes_of more ∙ all_append (word_count image) depth pc facts (executed_to image pc page i span k) (executed_at image pc page i span k))
      (passed_then p q)

  pub executed_all : (source : Source) (k : ℕ) {t u m n : List ℕ} {r : Bool} → span ≡ span_of source facts → k ≡ page
      → Passed image asked depth t m (passes_of (executed_to image pc page i span k)) u n r
      → Passed image asked depth t m (passes_of (words_at image pc facts (go source (defer page i)))) u n r
  unfolding words_at
  executed_all source k {t = t} {u = u} {m = m} {n = n} {r = r} e h p =
      subst (λ (ws : List Shape). Passed image asked depth t m (passes_of ws) u n r) (ap₂ (λ (x : Span) (l : ℕ). executed_to image pc page i x l) e h) p
