-- What the code tells of the addresses that an XEC may give, of the call sites, and of a whole cell.
use mathlib.Core.Path.{◌≡◌, refl, sym, ◌∙◌, ap, subst}
use mathlib.Core.Bool.{Bool, true, false, not, ◌&&◌}
use mathlib.Core.List.{List, [], ◌∷◌, ◌++◌, append_assoc}
use Prim.Native.Nat.{ℕ, zero, suc, ◌+◌, ◌-◌, ◌*◌, ◌/◌, ◌≤◌, ◌<◌}
use native.Mathlib.Omega.{arith}
use native.Mathlib.Nat.{mod-eq_of_lt}
use native.Mathlib.Numerals.{add-one}
use lib.Dec.{ltb, eqb}
use borrow.Author.Tests.{lt-ltb, le-ltb, ne_eqb}
use Rattle.choice.specs.Choice.{pick, Question, ask, first_no}
use Rattle.machine.specs.Shape.{Source, Shape, go, defer, invalid}
use Rattle.machine.specs.Step.{word_count, shape_at, in_page}
use Rattle.facts.specs.declared.Cell.{Cell}
use Rattle.facts.specs.Facts.{Span, span_of}
use Rattle.facts.specs.Record.{cell_at}
use Rattle.callers.proofs.Points.{point_depth, point_address}
use Rattle.transfer.specs.Passes.{over, is_defer, is_call_site, page_address, gives, point_at}
use Rattle.transfer.specs.Findings.{all_below, word_findings, executed_findings, defer_findings, cell_questions, finding_at}
use Rattle.findings.specs.Findings.{Tells}
use Rattle.findings.proofs.Telling.{tells_none, tells_yes, tells_no, tells_then, tells_stop, tells_first}

-- ---- the places of a page in order

module _ (page : ℕ) (test : ℕ → Bool) (f : ℕ → List Question) where
  -- the places before k have told nothing
  pub Passed : ℕ → Type 0
  Passed k = (rest : List Question) → first_no (over 0 page test f ++ rest) ≡ first_no (over k (page - k) test f ++ rest)

  one_more : (k : ℕ) → k < page → over k (page - k) test f ≡ pick (test k) (f k) [] ++ over (k + 1) (page - (k + 1)) test f
  unfolding over
  one_more k h =
      let n : page - k ≡ suc (page - (k + 1)) = omega arith in
      ap (λ (m : ℕ). over k m test f) n ∙ ap (λ (m : ℕ). pick (test k) (f k) [] ++ over m (page - (k + 1)) test f) (sym (add-one k))

  pub passed_none : Passed 0
  unfolding Passed
  passed_none rest = ap (λ (m : ℕ). first_no (over 0 m test f ++ rest)) {x = page} {y = page - 0} (omega arith)

  here : (k r : ℕ) → k < page → Tells r (pick (test k) (f k) []) → (rest : List Question)
      → first_no (over k (page - k) test f ++ rest) ≡ pick (eqb r 0) (first_no (over (k + 1) (page - (k + 1)) test f ++ rest)) r
  here k r h t rest =
      ap (λ (qs : List Question). first_no (qs ++ rest)) (one_more k h)
      ∙ ap first_no (append_assoc (pick (test k) (f k) []) (over (k + 1) (page - (k + 1)) test f) rest)
      ∙ t (over (k + 1) (page - (k + 1)) test f ++ rest)

  pub passed_skip : (k : ℕ) (b : Bool) → k < page → b ≡ test k → b ≡ false → Passed k → Passed (k + 1)
  unfolding Passed
  passed_skip k b h e n p rest = p rest ∙ here k 0 h (rw (← e, n) tells_none) rest

  pub passed_on : (k r : ℕ) (b : Bool) → k < page → b ≡ test k → b ≡ true → r ≡ 0 → Tells r (f k) → Passed k → Passed (k + 1)
  unfolding Passed
  passed_on k r b h e y z t p rest = p rest ∙ here k 0 h (rw (← e, y) (subst (λ (n : ℕ). Tells n (f k)) z t)) rest

  pub passed_stop : (k r : ℕ) (b : Bool) → k < page → b ≡ test k → b ≡ true → (r ≡ 0 → ⊥) → Tells r (f k) → Passed k → Tells r (over 0 page test f)
  unfolding Passed
  passed_stop k r b h e y z t p = λ rest. p rest ∙ here k r h (rw (← e, y) t) rest ∙ rw (ne_eqb r 0 z)

  pub passed_all : (k : ℕ) → page ≤ k → Passed k → Tells 0 (over 0 page test f)
  unfolding Passed over
  passed_all k h p = λ rest. p rest ∙ ap (λ (m : ℕ). first_no (over k m test f ++ rest)) {x = page - k} {y = 0} (omega arith)

-- ---- the call sites

module _ (words : ℕ) (test : ℕ → Bool) where
  either : (b : Bool) → pick b true true ≡ true
  either true = refl
  either false = refl

  -- a place that is not the last has an address inside after it
  inner : (n : ℕ) → n < words → all_below words n test ≡ true
  unfolding all_below
  inner zero h = refl
  inner (suc n) h = rw (lt-ltb (n + 1) words (omega arith), either (test n), inner n (omega arith))

  last : (b : Bool) → (pick b false true && true) ≡ not b
  last true = refl
  last false = refl

  outer : (n : ℕ) → words ≡ suc n → all_below words (suc n) test ≡ not (test n)
  unfolding all_below
  outer n e = rw (le-ltb (n + 1) words (omega arith), inner n (omega arith)) (last (test n))

  pub sites_inside : (b : Bool) → 0 < words → b ≡ test (words - 1) → not b ≡ all_below words words test
  sites_inside b h e =
      let w : words ≡ suc (words - 1) = omega arith in
      rw e (sym (ap (λ (n : ℕ). all_below words n test) w ∙ outer (words - 1) w))

-- ---- a word that an XEC executes

module _ (image map table fs : List ℕ) (depth pc a : ℕ) where
  executed_on : (r : ℕ) → a < word_count image → Tells r (ask 29 (not (is_defer (shape_at image a))) ∷ word_findings image map table depth pc fs (shape_at image a))
      → Tells r (executed_findings image map table depth pc fs a)
  executed_on r h t =
      tells_yes 21 r (ltb a (word_count image)) (ask 29 (not (is_defer (shape_at image a))) ∷ word_findings image map table depth pc fs (shape_at image a))
      (lt-ltb a (word_count image) h) t

  -- what stands there, as a shape
  pub executed_as : (r : ℕ) (s : Shape) → a < word_count image → shape_at image a ≡ s → Tells r (ask 29 (not (is_defer s)) ∷ word_findings image map table depth pc fs s)
      → Tells r (executed_findings image map table depth pc fs a)
  executed_as r s h e t =
      executed_on r h (subst (λ (z : Shape). Tells r (ask 29 (not (is_defer z)) ∷ word_findings image map table depth pc fs z)) (sym e) t)

  pub executed_invalid : a < word_count image → shape_at image a ≡ invalid → Tells 22 (executed_findings image map table depth pc fs a)
  executed_invalid h e =
      executed_as 22 invalid h e
      (tells_yes 29 22 true (ask 22 false ∷ []) refl (tells_no 22 false [] refl (λ z. omega arith)))

-- ---- an XEC: the words at the addresses that it may give

module _ (image map fs : List ℕ) (depth pc page i : ℕ) (source : Source) (back : Bool) where
  -- the code has asked whether every return address is inside
  abbrev pub Asked : List ℕ → Type 0
  Asked table = back ≡ all_below (word_count image) (word_count image) (is_call_site image table (depth - 1))

  abbrev at_place : List ℕ → ℕ → List Question
  at_place table k = executed_findings image map table depth pc fs (page_address page pc k)

  pub Going : ℕ → Type 0
  Going k = (table : List ℕ) → Asked table → Passed page (gives page i (span_of source fs)) (at_place table) k

  pub begins : Going 0
  unfolding Going
  begins table asked = passed_none page (gives page i (span_of source fs)) (at_place table)

  place : (k a : ℕ) → k < page → a ≡ in_page page pc k → a ≡ page_address page pc k
  place k a h e = e ∙ ap (λ (n : ℕ). pc / page * page + n) (mod-eq_of_lt h)

  pub ends : (k : ℕ) → page ≤ k → Going k → (table : List ℕ) → Asked table → Tells 0 (defer_findings image map table depth pc fs (go source (defer page i)))
  unfolding Going
  ends k h g table asked = passed_all page (gives page i (span_of source fs)) (at_place table) k h (g table asked)

  module _ (k : ℕ) (span : Span) (b : Bool) (h : k < page) (es : span ≡ span_of source fs) (eb : b ≡ gives page i span k) (g : Going k) where
    test : b ≡ gives page i (span_of source fs) k
    test = eb ∙ ap (λ (v : Span). gives page i v k) es

    pub skips : b ≡ false → Going (k + 1)
    unfolding Going
    skips n table asked = passed_skip page (gives page i (span_of source fs)) (at_place table) k b h test n (g table asked)

    module _ (y : b ≡ true) (a r : ℕ) (ea : a ≡ in_page page pc k) (t : (table : List ℕ) → Asked table → Tells r (executed_findings image map table depth pc fs a)) where
      told : (table : List ℕ) → Asked table → Tells r (at_place table k)
      told table asked = subst (λ (n : ℕ). Tells r (executed_findings image map table depth pc fs n)) (place k a h ea) (t table asked)

      pub goes_on_lem : r ≡ 0 → Going (k + 1)
      unfolding Going
      goes_on_lem z table asked = passed_on page (gives page i (span_of source fs)) (at_place table) k r b h test y z (told table asked) (g table asked)

      pub stops : (r ≡ 0 → ⊥) → (table : List ℕ) → Asked table → Tells r (defer_findings image map table depth pc fs (go source (defer page i)))
      unfolding Going
      stops z table asked = passed_stop page (gives page i (span_of source fs)) (at_place table) k r b h test y z (told table asked) (g table asked)

-- ---- a cell

module _ (image map table fs : List ℕ) (depth pc : ℕ) (s : Shape) (e : shape_at image pc ≡ s) where
  as_cell : (r : ℕ) → Tells r (word_findings image map table depth pc fs s ++ defer_findings image map table depth pc fs s)
      → Tells r (cell_questions image map table depth pc fs)
  as_cell r t = subst (λ (z : Shape). Tells r (word_findings image map table depth pc fs z ++ defer_findings image map table depth pc fs z)) (sym e) t

  pub cell_stop : (f : ℕ) → (f ≡ 0 → ⊥) → Tells f (word_findings image map table depth pc fs s) → Tells f (cell_questions image map table depth pc fs)
  cell_stop f h t =
      as_cell f (tells_stop f (word_findings image map table depth pc fs s) (defer_findings image map table depth pc fs s) h t)

  pub cell_on : (f r : ℕ) → f ≡ 0 → Tells f (word_findings image map table depth pc fs s) → Tells r (defer_findings image map table depth pc fs s)
      → Tells r (cell_questions image map table depth pc fs)
  cell_on f r z t n =
      as_cell r (tells_then f r (word_findings image map table depth pc fs s) (defer_findings image map table depth pc fs s) z t n)

pub cell_invalid : (image map table fs : List ℕ) (depth pc : ℕ) → shape_at image pc ≡ invalid → Tells 22 (cell_questions image map table depth pc fs)
cell_invalid image map table fs depth pc e =
    cell_stop image map table fs depth pc invalid e 22 (λ z. omega arith) (tells_no 22 false [] refl (λ z. omega arith))

-- what the code asks of the depth below
pub asked_below_lem : (image table : List ℕ) (depth d : ℕ) (back : Bool) → back ≡ all_below (word_count image) (word_count image) (is_call_site image table d) → d ≡ depth - 1
    → back ≡ all_below (word_count image) (word_count image) (is_call_site image table (depth - 1))
asked_below_lem image table depth d back e z = e ∙ ap (λ (n : ℕ). all_below (word_count image) (word_count image) (is_call_site image table n)) z

module _ (image map table : List ℕ) (depth pc : ℕ) where
  pub cell_unreached : (cell_at table (point_at (word_count image) depth pc)).reached ≡ false → 0 ≡ finding_at image map table (point_at (word_count image) depth pc)
  unfolding finding_at
  cell_unreached n = rw n

  pub cell_told : pc < word_count image → (c : Cell) → c ≡ cell_at table (point_at (word_count image) depth pc) → (r : ℕ)
      → (cell_at table (point_at (word_count image) depth pc)).reached ≡ true → Tells r (cell_questions image map table depth pc c.facts)
      → r ≡ finding_at image map table (point_at (word_count image) depth pc)
  unfolding finding_at
  cell_told h c e r y t =
      rw (y, ← e, point_depth (word_count image) depth pc h, point_address (word_count image) depth pc h)
      (sym (tells_first r (cell_questions image map table depth pc c.facts) t))
