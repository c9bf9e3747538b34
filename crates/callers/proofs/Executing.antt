-- What an XEC may execute, place by place of its page.
use mathlib.Core.Path.{◌≡◌, refl, sym, ap, ap₂, ◌∙◌}
use mathlib.Core.Bool.{Bool, true, false, ◌&&◌, ◌||◌, not, or-false, true≢false}
use mathlib.Core.List.{List, [], ◌∷◌, ◌++◌}
use Prim.Native.Nat.{ℕ, zero, suc, ◌+◌, ◌*◌, ◌/◌, ◌<◌}
use native.Mathlib.Nat.{mod-eq_of_lt}
use native.Mathlib.Omega.{arith}
use lib.Dec.{ltb}
use borrow.Author.Tests.{lt-ltb}
use Rattle.choice.specs.Choice.{pick}
use Rattle.machine.specs.Shape.{Source, defer, Shape, go}
use Rattle.machine.specs.Step.{word_count, shape_at, in_page}
use Rattle.facts.specs.Facts.{Span, span_of}
use Rattle.transfer.specs.Passes.{over, gives, page_address, can_be_executed, is_defer, some, words_at}
use Rattle.callers.specs.declared.Values.{Values}
use Rattle.callers.specs.Callers.{span_is, asks}
use Rattle.callers.specs.declared.Asked.{Asked}
use Rattle.callers.specs.declared.Asked.TheVariants.{Call, Return}
use Rattle.std.specs.List.{list_any, range_with_len}
use Rattle.callers.proofs.Words.{no_xec}

-- ---- places of a page

-- place k of the page, kept to the page
pub in_page_lem : (page pc k : ℕ) → k < page → in_page page pc k ≡ page_address page pc k
in_page_lem page pc k h = ap (λ n. pc / page * page + n) (mod-eq_of_lt h)

-- the words that an XEC may execute at n places from k on
abbrev pub executed_from : List ℕ → ℕ → ℕ → ℕ → Span → ℕ → ℕ → List Shape
executed_from image pc page i span k n =
    over k n (λ j. gives page i span j && can_be_executed image (page_address page pc j)) (λ j. shape_at image (page_address page pc j) ∷ [])

some_append : (test : Shape → Bool) (ws vs : List Shape) → some test (ws ++ vs) ≡ some test ws || some test vs
unfolding some
some_append test [] vs = refl
some_append test (w ∷ ws) vs = ap (λ b. test w || b) (some_append test ws vs) ∙ assoc (test w) (some test ws) (some test vs)
  where
    assoc : (a b c : Bool) → a || (b || c) ≡ (a || b) || c
    assoc true b c = refl
    assoc false b c = refl

some_one : (test : Shape → Bool) (b : Bool) (w : Shape) → some test (pick b (w ∷ []) []) ≡ b && test w
unfolding some
some_one test true w = or-false (test w)
some_one test false w = refl

-- an XEC executes such a word where it does at one of the places
pub each_place : (test : Shape → Bool) (image : List ℕ) (pc page i : ℕ) (span : Span) (k n : ℕ)
    → list_any (λ j. (gives page i span j && can_be_executed image (page_address page pc j)) && test (shape_at image (page_address page pc j))) (range_with_len k n)
    ≡ some test (executed_from image pc page i span k n)
unfolding over some
each_place test image pc page i span k zero = refl
each_place test image pc page i span k (suc n) =
    let b = gives page i span k && can_be_executed image (page_address page pc k) in
    let w = shape_at image (page_address page pc k) in
    ap₂ (λ (c d : Bool). c || d) (sym (some_one test b w))
    (ap (λ (j : ℕ). list_any (λ j. (gives page i span j && can_be_executed image (page_address page pc j)) && test (shape_at image (page_address page pc j))) (range_with_len j n)) {x = k + 1} {y = suc k} (omega arith)
    ∙ each_place test image pc page i span (suc k) n)
    ∙ sym (some_append test (pick b (w ∷ []) []) (executed_from image pc page i span (suc k) n))

pub executed_all : (image : List ℕ) (pc page i : ℕ) (facts : List ℕ) (source : Source)
    → words_at image pc facts (go source (defer page i)) ≡ executed_from image pc page i (span_of source facts) 0 page
unfolding words_at
executed_all image pc page i facts source = refl

-- ---- one place

-- an XEC is neither
pub asked_is_no_xec : (asked : Asked) (s : Shape) → not (is_defer s) && asks asked s ≡ asks asked s
asked_is_no_xec Call s = no_xec true false s
asked_is_no_xec Return s = no_xec false true s

module _ (image : List ℕ) (pc page i : ℕ) (v : Values) (k : ℕ) (asked : Asked) where
  abbrev performed : Bool
  performed =
      (gives page i (span_is v) k && can_be_executed image (page_address page pc k)) && asks asked (shape_at image (page_address page pc k))

  pub is_executed : k < page → (b : Bool) → b ≡ gives page i (span_is v) k → not b ≡ false → {a : ℕ} → a ≡ in_page page pc k → a < word_count image
      → {s : Shape} → s ≡ shape_at image a → {r : Bool} → r ≡ asks asked s → r ≡ performed
  is_executed short false given n {a} e h {s} read {r} told = absurd (true≢false n)
  is_executed short true given n {a} e h {s} read {r} told =
      let at : a ≡ page_address page pc k = e ∙ in_page_lem page pc k short in
      let shape : s ≡ shape_at image (page_address page pc k) = read ∙ ap (λ x. shape_at image x) at in
      let inside : ltb (page_address page pc k) (word_count image) ≡ true = rw (← at) (lt-ltb a (word_count image) h) in
      told ∙ ap (asks asked) shape ∙ sym (asked_is_no_xec asked (shape_at image (page_address page pc k)))
      ∙ (rw (← given, inside) refl)
