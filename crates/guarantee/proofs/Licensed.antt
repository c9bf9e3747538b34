-- A word that the table licenses at a depth and PC: its questions are answered yes, and what it passes on is held. Such is
-- the word at PC of a reached cell, and each word that an XEC there may execute.
use mathlib.Core.Path.{◌≡◌, refl, sym, ap, subst, ◌∙◌}
use mathlib.Core.Bool.{Bool, true, false, ◌&&◌, false≢true}
use mathlib.Core.List.{List, [], ◌∷◌}
use Prim.Native.Nat.{ℕ, ◌-◌, ◌<◌}
use native.Mathlib.Omega.{arith}
use lib.Dec.{ltb}
use borrow.Author.Tests.{lt-ltb, ltb-true, not-true}
use Rattle.choice.specs.Choice.{pick}
use Rattle.choice.proofs.Laws.{and_both}
use Rattle.machine.specs.Shape.{Source, jump, branch, defer, call, return, Shape, act, go, invalid}
use Rattle.machine.specs.Step.{word_count, shape_at}
use Rattle.flow.specs.Flow.{Pass}
use Rattle.flow.proofs.Each.{Each, none, also, each_left, each_right}
use Rattle.facts.specs.declared.Cell.{Cell}
use Rattle.facts.specs.Facts.{span_of}
use Rattle.facts.specs.Record.{cell_at}
use Rattle.transfer.specs.Passes.{point_at, is_defer, is_call, is_return, page_address, gives, can_be_executed, words_at, some, word_passes, all_passes, is_call_site, return_passes}
use Rattle.transfer.specs.Findings.{word_findings, executed_findings, defer_findings}
use Rattle.transfer.proofs.Membership.{In, first, later, each_picked, each_over, in_over, some_in}
use Rattle.guarantee.proofs.Questions.{Yes}
use Rattle.machine.proofs.InRange.{ShapeInRange}
use Rattle.guarantee.proofs.Cells.{Held, Settled}

pub record Licensed (image map table : List ℕ) (depth pc : ℕ) (facts : List ℕ) (w : Shape) : Type 0 where
  pub answers : Each Yes (word_findings image map table depth pc facts w)
  pub passes : Each (Held table) (word_passes (word_count image) depth pc facts w)
  pub site : is_call w ≡ true → is_call_site image table depth pc ≡ true
  pub back : is_return w ≡ true → 0 < depth → Each (Held table) (return_passes image table (depth - 1) facts)
  pub here : is_defer w ≡ true → shape_at image pc ≡ w
  pub fits : ShapeInRange w

-- a word that is no XEC executes itself
own_word : (image : List ℕ) (pc : ℕ) (facts : List ℕ) (w : Shape) → is_defer w ≡ false → In w (words_at image pc facts w)
unfolding words_at
own_word image pc facts (act source op target) h = first
own_word image pc facts (go source (jump a)) h = first
own_word image pc facts (go source (branch page i)) h = first
own_word image pc facts (go source (defer page i)) h = absurd (false≢true (sym h))
own_word image pc facts (go source (call i)) h = first
own_word image pc facts (go source return) h = first
own_word image pc facts invalid h = first

-- the word at a place of the page that an XEC may give
given_word : (image : List ℕ) (pc : ℕ) (facts : List ℕ) (source : Source) (page i k : ℕ) → k < page
    → gives page i (span_of source facts) k ≡ true → can_be_executed image (page_address page pc k) ≡ true
    → In (shape_at image (page_address page pc k)) (words_at image pc facts (go source (defer page i)))
unfolding words_at
given_word image pc facts source page i k place given can =
    in_over 0 page _ (λ k. shape_at image (page_address page pc k) ∷ []) k (omega arith) (omega arith) (and_both given can) first

-- an XEC by its parts; it passes nothing on
record Xec (w : Shape) : Type 0 where
  source : Source
  page : ℕ
  i : ℕ
  same : w ≡ go source (defer page i)

xec_parts : (w : Shape) → is_defer w ≡ true → Xec w
xec_parts (act source op target) h = absurd (false≢true h)
xec_parts (go source (jump a)) h = absurd (false≢true h)
xec_parts (go source (branch page i)) h = absurd (false≢true h)
xec_parts (go source (defer page i)) h = record { source = source; page = page; i = i; same = refl }
xec_parts (go source (call i)) h = absurd (false≢true h)
xec_parts (go source return) h = absurd (false≢true h)
xec_parts invalid h = absurd (false≢true h)

xec_passes : (table : List ℕ) (words depth pc : ℕ) (facts : List ℕ) (w : Shape) → Xec w
    → Each (Held table) (word_passes words depth pc facts w)
unfolding word_passes
xec_passes table words depth pc facts w x = subst (λ w. Each (Held table) (word_passes words depth pc facts w)) (sym x.same) none

passes_of_lem : (table : List ℕ) (words depth pc : ℕ) (facts : List ℕ) {w : Shape} {ws : List Shape} → In w ws
    → Each (Held table) (all_passes words depth pc facts ws) → Each (Held table) (word_passes words depth pc facts w)
unfolding all_passes
passes_of_lem table words depth pc facts {w} (first {xs}) e =
    each_left (word_passes words depth pc facts w) (all_passes words depth pc facts xs) e
passes_of_lem table words depth pc facts (later {y} {xs} i) e =
    passes_of_lem table words depth pc facts i (each_right (word_passes words depth pc facts y) (all_passes words depth pc facts xs) e)

-- ---- the words of a reached cell

module _ (image map table : List ℕ) (depth pc : ℕ)
    (reached : (cell_at table (point_at (word_count image) depth pc)).reached ≡ true)
    (settled : Settled image map table depth pc (cell_at table (point_at (word_count image) depth pc)).facts) where
  -- the facts there, and the words that are executed there
  abbrev facts : List ℕ
  facts = (cell_at table (point_at (word_count image) depth pc)).facts

  abbrev words : List Shape
  words = words_at image pc facts (shape_at image pc)

  member_licensed : (w : Shape) → In w words → is_defer w ≡ false → ShapeInRange w
      → Each Yes (word_findings image map table depth pc facts w) → Licensed image map table depth pc facts w
  member_licensed w member plain fits answers =
      record {
        answers = answers;
        passes = passes_of_lem table (word_count image) depth pc facts member (each_left passed returned settled.passes);
        site = λ h. and_both reached (some_in is_call member h);
        back = λ h deep.
            each_picked (ltb 0 depth && some is_return words) (and_both (lt-ltb 0 depth deep) (some_in is_return member h))
            (each_right passed returned settled.passes);
        here = λ h. absurd (false≢true (sym plain ∙ h));
        fits = fits;
      }
    where
      passed : List (Pass Cell)
      passed = all_passes (word_count image) depth pc facts words

      returned : List (Pass Cell)
      returned = pick (ltb 0 depth && some is_return words) (return_passes image table (depth - 1) facts) []

  answered : Each Yes (word_findings image map table depth pc facts (shape_at image pc))
  answered =
      each_left (word_findings image map table depth pc facts (shape_at image pc))
      (defer_findings image map table depth pc facts (shape_at image pc)) settled.questions

  -- the word at PC itself
  pub direct_licensed : ShapeInRange (shape_at image pc) → Licensed image map table depth pc facts (shape_at image pc)
  direct_licensed fits = told (is_defer (shape_at image pc)) refl
    where
      told : (b : Bool) → is_defer (shape_at image pc) ≡ b → Licensed image map table depth pc facts (shape_at image pc)
      told false plain = member_licensed (shape_at image pc) (own_word image pc facts (shape_at image pc) plain) plain fits answered
      told true xec =
          let x = xec_parts (shape_at image pc) xec in
          record {
            answers = answered;
            passes = xec_passes table (word_count image) depth pc facts (shape_at image pc) x;
            site = λ h. absurd (false≢true (sym (ap is_call x.same) ∙ h));
            back = λ h deep. absurd (false≢true (sym (ap is_return x.same) ∙ h));
            here = λ h. refl;
            fits = fits;
          }

  -- a word that the XEC at PC executes: it is below N and licensed
  module _ (source : Source) (page i k : ℕ) (xec : shape_at image pc ≡ go source (defer page i)) (place : k < page)
      (given : gives page i (span_of source facts) k ≡ true) where
    abbrev address : ℕ
    address = page_address page pc k

    executed_answers : Each Yes (executed_findings image map table depth pc facts address)
    executed_answers =
        each_over 0 page (gives page i (span_of source facts))
        (λ k. executed_findings image map table depth pc facts (page_address page pc k)) k (omega arith) (omega arith) given
        (subst (λ w. Each Yes (defer_findings image map table depth pc facts w)) xec
        (each_right (word_findings image map table depth pc facts (shape_at image pc))
        (defer_findings image map table depth pc facts (shape_at image pc)) settled.questions))

    pub executed_licensed : ShapeInRange (shape_at image address)
        → (address < word_count image) × Licensed image map table depth pc facts (shape_at image address)
    executed_licensed fits = told executed_answers
      where
        told : Each Yes (executed_findings image map table depth pc facts address)
            → (address < word_count image) × Licensed image map table depth pc facts (shape_at image address)
        told (also near (also plain e)) = (
          ltb-true address (word_count image) near,
          member_licensed (shape_at image address)
              (subst (λ w. In (shape_at image address) (words_at image pc facts w)) (sym xec)
              (given_word image pc facts source page i k place given (and_both near plain)))
              (not-true (is_defer (shape_at image address)) plain) fits e,
        )
