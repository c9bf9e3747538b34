-- What a RET passes on to the addresses after the call sites: the same where the call sites are the same, and held where
-- facts that know no more are.
use mathlib.Core.Path.{◌≡◌, ap}
use mathlib.Core.Bool.{Bool, true, false, ◌&&◌}
use mathlib.Core.List.{List, [], ◌∷◌}
use Prim.Native.Nat.{ℕ, ◌+◌, ◌<◌}
use lib.Dec.{ltb}
use lib.ListN.{get_or}
use Rattle.choice.specs.Choice.{pick}
use Rattle.machine.specs.Step.{word_count, shape_at}
use Rattle.flow.specs.Flow.{Pass, all_covered}
use Rattle.flow.proofs.Each.{Each, none, also}
use Rattle.flow.proofs.Lawful.{Fits}
use Rattle.flow.proofs.Grows.{Covered, each_covered, covered_each}
use Rattle.facts.specs.declared.Cell.{Cell}
use Rattle.facts.specs.Facts.{all_know_no_more, join_facts}
use Rattle.facts.specs.Record.{depths, cell_of, cell_at, holds_cell, join_cell, FineCell}
use Rattle.facts.proofs.Cells.{join_held}
use Rattle.facts.proofs.Makes.{FineFacts, after_fine}
use Rattle.transfer.specs.Passes.{point_at, toward, is_call, some, words_at, is_call_site, return_passes, table_space}
use Rattle.transfer.proofs.Lists.{down_same}
use Rattle.transfer.proofs.Membership.{each-over_down, down_each}
use Rattle.transfer.proofs.TableLaws.{reached_fine, returns_fit}
use Rattle.transfer.proofs.Wider.{toward_wider}

-- what holds two cells that are reached holds their join
join_both : (c : Cell) (hs fs : List ℕ) → holds_cell c (cell_of true hs) ≡ true → holds_cell c (cell_of true fs) ≡ true
    → holds_cell c (cell_of true (join_facts hs fs)) ≡ true
unfolding join_cell
join_both c hs fs p q = join_held (cell_of true hs) (cell_of true fs) c p q

module _ (image : List ℕ) where
  -- a call site is told by its cell
  pub same_site : (t u : List ℕ) (depth a : ℕ) → cell_at t (point_at (word_count image) depth a) ≡ cell_at u (point_at (word_count image) depth a)
      → is_call_site image t depth a ≡ is_call_site image u depth a
  same_site t u depth a e = ap (λ (c : Cell). c.reached && some is_call (words_at image a c.facts (shape_at image a))) e

  -- the same call sites get the same
  pub returns_same : (t u : List ℕ) (depth : ℕ) (facts : List ℕ) → ((a : ℕ) → a < word_count image → is_call_site image u depth a ≡ is_call_site image t depth a)
      → return_passes image u depth facts ≡ return_passes image t depth facts
  returns_same t u depth facts same =
      down_same (is_call_site image u depth) (is_call_site image t depth) (λ a. toward (word_count image) depth (a + 1) facts) (word_count image) same

  pub returns_fine : ((k : ℕ) → get_or image k 0 < 256) → (t : List ℕ) (depth : ℕ) (fs : List ℕ) → depth < depths → FineFacts fs
      → Each (Fits (table_space image) FineCell) (return_passes image t depth fs)
  returns_fine bytes t depth fs d f =
      returns_fit image bytes FineFacts FineCell reached_fine (λ source op target fs s f. after_fine source op target fs s.0 f) t depth fs d f

  module _ (t : List ℕ) (depth : ℕ) where
    abbrev Held : List ℕ → Type 0
    Held facts = Each (Covered (table_space image) t) (return_passes image t depth facts)

    abbrev all_held : List ℕ → Bool
    all_held facts = all_covered (table_space image) t (return_passes image t depth facts)

    abbrev passes_to : List ℕ → ℕ → List (Pass Cell)
    passes_to facts a = toward (word_count image) depth (a + 1) facts

    -- a property of each that is told of each call site
    at_each : (fs : List ℕ) → ((a : ℕ) → a < word_count image → is_call_site image t depth a ≡ true → Each (Covered (table_space image) t) (passes_to fs a)) → all_held fs ≡ true
    at_each fs h = covered_each (table_space image) t (return_passes image t depth fs) (down_each (word_count image) (is_call_site image t depth) (passes_to fs) h)

    at_site : (fs : List ℕ) → all_held fs ≡ true → (a : ℕ) → a < word_count image → is_call_site image t depth a ≡ true → Each (Covered (table_space image) t) (passes_to fs a)
    at_site fs h a l s =
        each-over_down (word_count image) (is_call_site image t depth) (passes_to fs) a l s (each_covered (table_space image) t (return_passes image t depth fs) h)

    -- where facts that know no more are held, these are
    pub returns_known : (hs fs : List ℕ) → all_know_no_more hs fs ≡ true
        → all_covered (table_space image) t (return_passes image t depth hs) ≡ true → all_covered (table_space image) t (return_passes image t depth fs) ≡ true
    returns_known hs fs k h = at_each fs (λ a l s. toward_wider image t (word_count image) depth (a + 1) hs fs k (at_site hs h a l s))

    -- where two are held, their join is
    pub returns_joined : (hs fs : List ℕ)
        → all_covered (table_space image) t (return_passes image t depth hs) ≡ true → all_covered (table_space image) t (return_passes image t depth fs) ≡ true
        → all_covered (table_space image) t (return_passes image t depth (join_facts hs fs)) ≡ true
    returns_joined hs fs h k = at_each (join_facts hs fs) (λ a l s. both a (ltb (a + 1) (word_count image)) (at_site hs h a l s) (at_site fs k a l s))
      where
        one : ℕ → List ℕ → Pass Cell
        one a facts = record { target = point_at (word_count image) depth (a + 1); cell = cell_of true facts }

        both : (a : ℕ) (b : Bool) → Each (Covered (table_space image) t) (pick b (one a hs ∷ []) []) → Each (Covered (table_space image) t) (pick b (one a fs ∷ []) [])
            → Each (Covered (table_space image) t) (pick b (one a (join_facts hs fs) ∷ []) [])
        both a false none none = none
        both a true (also p none) (also q none) =
            also (record { holds = join_both (cell_at t (point_at (word_count image) depth (a + 1))) hs fs p.holds q.holds }) none
