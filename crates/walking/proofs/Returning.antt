-- RET: passed on to the address after every call site, from the last on, so that a cell that changes is none that is
-- still to be asked.
use mathlib.Core.Path.{◌≡◌, refl, sym, ◌∙◌, ap, subst}
use mathlib.Core.Bool.{Bool, true, false, not, ◌&&◌, ◌||◌, and-false}
use mathlib.Core.List.{List, [], ◌++◌, append_assoc, append-nil}
use Prim.Native.Nat.{ℕ, ◌+◌, ◌-◌, ◌*◌, ◌≤◌, ◌<◌}
use native.Mathlib.Omega.{arith}
use lib.Arith.{digits_lt}
use lib.Dec.{ltb}
use borrow.Author.Tests.{le-ltb, ltb-true, not-true}
use Rattle.choice.specs.Choice.{pick}
use Rattle.machine.specs.Shape.{Shape}
use Rattle.machine.specs.Step.{word_count, shape_at}
use Rattle.flow.specs.Flow.{Pass}
use Rattle.facts.specs.declared.Cell.{Cell}
use Rattle.facts.specs.Record.{depths, cell_at}
use Rattle.transfer.specs.Passes.{over_down, point_at, toward, is_return, some, words_at, all_passes, is_call_site, return_passes, cell_passes}
use Rattle.marks.specs.Marks.{is_site}
use denote.Ref.{Bor}
use Rattle.passing.specs.declared.Tables.{Tables}
use Rattle.passing.specs.Tables.{SameLoans}
use Rattle.passing.specs.Passing.{asks, seen, Ready, Passed}
use Rattle.transfer.proofs.Lists.{down_none, down_more, down_skip}
use Rattle.transfer.proofs.Returns.{same_site, returns_same}
use Rattle.passing.proofs.Passing.{passed_as, passed_none, passed_then, passed_higher, passed_not, toward_keeps, still_ready}
use Rattle.walking.specs.Walking.{site_at, LastBelow}

-- the call sites that are found are those of the table that is seen
pub sites_seen : (image asked t m : List ℕ) (depth a : ℕ) → Ready image asked t m → depth < depths → a < word_count image
    → site_at image asked m depth a ≡ is_call_site image (seen asked t) depth a
sites_seen image asked t m depth a g d l = go (asks asked) refl
  where
    go : (b : Bool) → asks asked ≡ b
        → pick b (is_call_site image asked depth a) (is_site m (point_at (word_count image) depth a)) ≡ is_call_site image (pick b asked t) depth a
    go true e = refl
    go false e = (g.sited e).sites depth a d l

-- the last one as it is found
module _ (image asked marks : List ℕ) (depth a : ℕ) where
  abbrev chosen : Bool → ℕ → Bool
  chosen b k = pick b (is_call_site image asked depth k) (is_site marks (point_at (word_count image) depth k))

-- the same tables, lent on
pub last_on : {s t : Tables} (m : List ℕ) (depth : ℕ) {b r : ℕ} → SameLoans s t → LastBelow (site_at t.image.now t.asked.now m depth) b r
    → LastBelow (site_at s.image.now s.asked.now m depth) b r
last_on {s} {t} m depth {b} {r} k last =
    subst (λ (im : Bor (List ℕ)). LastBelow (site_at im.now s.asked.now m depth) b r) k.image
    (subst (λ (asked : Bor (List ℕ)). LastBelow (site_at t.image.now asked.now m depth) b r) k.asked last)

-- ---- the last call site of a table below an address
module _ (image asked : List ℕ) (depth a : ℕ) where
  -- from b on there is none
  pub record Above (b : ℕ) : Type 0 where
    pub high : b ≤ a
    pub none : (k : ℕ) → b ≤ k → k < a → is_call_site image asked depth k ≡ false

module _ (image asked t₀ m₀ : List ℕ) (depth : ℕ) (facts : List ℕ) where
  abbrev site : ℕ → Bool
  site = is_call_site image (seen asked t₀) depth

  abbrev after : ℕ → List (Pass Cell)
  after a = toward (word_count image) depth (a + 1) facts

  -- what is passed on from the call sites below n
  abbrev back_from : ℕ → List (Pass Cell)
  back_from n = over_down n site after

  -- on the way: the call sites from a on are done, and the cells below a are as they were
  pub record Backing (a : ℕ) (t m : List ℕ) (f : Bool) : Type 0 where
    pub within : a ≤ word_count image
    pub done : List (Pass Cell)
    pub passed : Passed image asked depth t₀ m₀ done t m f
    pub rest : done ++ back_from a ≡ return_passes image (seen asked t₀) depth facts
    pub same : (j : ℕ) → j < a → cell_at (seen asked t) (point_at (word_count image) depth j) ≡ cell_at (seen asked t₀) (point_at (word_count image) depth j)

  pub backing_begins : Ready image asked t₀ m₀ → Backing (word_count image) t₀ m₀ false
  backing_begins g = record { within = omega arith; done = []; passed = passed_none g; rest = refl; same = λ j h. refl }

  module _ (b : ℕ) {t m : List ℕ} {f : Bool} (d : depth < depths) (g : Ready image asked t₀ m₀) (k : Backing b t m f) where
    told : (j : ℕ) → j < b → site_at image asked m depth j ≡ is_call_site image (seen asked t₀) depth j
    told j h =
        sites_seen image asked t m depth j (still_ready g k.passed) d (omega (arith, h, k.within))
        ∙ same_site image (seen asked t) (seen asked t₀) depth j (k.same j h)

    skipped : {r : ℕ} → LastBelow (site_at image asked m depth) b r → back_from b ≡ back_from r
    skipped {r} last = down_skip site after b r last.high (λ j l h. sym (told j h) ∙ last.none j l h)

    -- none is left
    pub backing_ends : LastBelow (site_at image asked m depth) b 0
        → Passed image asked depth t₀ m₀ (return_passes image (seen asked t₀) depth facts) t m f
    backing_ends last =
        subst (λ (ps : List (Pass Cell)). Passed image asked depth t₀ m₀ ps t m f)
        (sym (append-nil k.done) ∙ ap (λ (l : List (Pass Cell)). k.done ++ l) (sym (skipped last ∙ down_none site after)) ∙ k.rest)
        k.passed

    -- the last one that is left
    pub backing_next : (a : ℕ) {u n : List ℕ} {r : Bool} → LastBelow (site_at image asked m depth) b (a + 1)
        → Passed image asked depth t m (toward (word_count image) depth (a + 1) facts) u n r → Backing a u n (f || r)
    backing_next a {u = u} last p =
        record {
          within = omega (arith, k.within, last.high);
          done = k.done ++ toward (word_count image) depth (a + 1) facts;
          passed = passed_then k.passed p;
          rest =
              append_assoc k.done (toward (word_count image) depth (a + 1) facts) (back_from a)
              ∙ ap (λ (l : List (Pass Cell)). k.done ++ l)
              (sym (skipped last ∙ first ∙ ap (λ (x : Bool). pick x (after a) [] ++ back_from a) yes))
              ∙ k.rest;
          same = λ j h.
              toward_keeps image asked t m depth (a + 1) facts (still_ready g k.passed) d p (point_at (word_count image) depth j) (digits_lt d (omega (arith, h, last.high, k.within))) (λ q. omega (arith, q, h))
              ∙ k.same j (omega (arith, h, last.high));
        }
      where
        first : back_from (a + 1) ≡ pick (site a) (after a) [] ++ back_from a
        first =
            down_more site after (a + 1) (omega arith)
            ∙ ap (λ (x : ℕ). pick (site x) (after x) [] ++ back_from x) {x = a + 1 - 1} {y = a} (omega arith)

        yes : site a ≡ true
        yes =
            sym (told a (omega (arith, last.high)))
            ∙ ap (site_at image asked m depth) {x = a} {y = a + 1 - 1} (omega arith) ∙ last.found (omega arith)

-- ---- RET back from a depth, if the cell executes one
module _ (image asked t m : List ℕ) (depth : ℕ) (facts : List ℕ) (x : Bool) where
  pub back_at_zero : depth ≡ 0 → Ready image asked t m
      → Passed image asked (depth - 1) t m (pick (ltb 0 depth && x) (return_passes image (seen asked t) (depth - 1) facts) []) t m false
  back_at_zero z g =
      let no : ltb 0 depth ≡ false = le-ltb 0 depth (omega arith) in
      passed_not image asked (depth - 1) t m (ltb 0 depth && x) (return_passes image (seen asked t) (depth - 1) facts) (rw no refl) g

  pub back_without : {b : Bool} → b ≡ x → not b ≡ true → Ready image asked t m
      → Passed image asked (depth - 1) t m (pick (ltb 0 depth && x) (return_passes image (seen asked t) (depth - 1) facts) []) t m false
  back_without {b = b} e n g =
      let no : x ≡ false = sym e ∙ not-true b n in
      passed_not image asked (depth - 1) t m (ltb 0 depth && x) (return_passes image (seen asked t) (depth - 1) facts) (rw no (and-false (ltb 0 depth))) g

-- the call sites of a lower depth are as they were, so that they can be asked of the table at first
pub back_same : (image t : List ℕ) (depth : ℕ) (facts : List ℕ) (x : Bool) (u : List ℕ) → ((i : ℕ) → i < depth * word_count image → cell_at u i ≡ cell_at t i)
    → pick (ltb 0 depth && x) (return_passes image u (depth - 1) facts) [] ≡ pick (ltb 0 depth && x) (return_passes image t (depth - 1) facts) []
back_same image t depth facts x u kept = go (ltb 0 depth) refl
  where
    go : (b : Bool) → ltb 0 depth ≡ b
        → pick (b && x) (return_passes image u (depth - 1) facts) [] ≡ pick (b && x) (return_passes image t (depth - 1) facts) []
    go false w = refl
    go true w =
        let deep = ltb-true 0 depth w in
        let lower : depth - 1 < depth = omega arith in
        ap (λ (l : List (Pass Cell)). pick x l [])
        (returns_same image t u (depth - 1) facts (λ a l. same_site image u t (depth - 1) a (kept (point_at (word_count image) (depth - 1) a) (digits_lt lower l))))

-- ---- all that a cell passes on: its words, and then to the call sites of the table as it was
pub cell_passed : (image asked t m : List ℕ) (depth pc : ℕ) (facts : List ℕ) {w : Shape} {u v n o : List ℕ} {r s : Bool} → w ≡ shape_at image pc
    → Passed image asked depth t m (all_passes (word_count image) depth pc facts (words_at image pc facts w)) u n r
    → Passed image asked (depth - 1) u n (pick (ltb 0 depth && some is_return (words_at image pc facts w)) (return_passes image (seen asked u) (depth - 1) facts) []) v o s
    → Passed image asked (depth - 1) t m (cell_passes image (seen asked t) depth pc facts) v o (r || s)
cell_passed image asked t m depth pc facts {w = w} {u = u} read p q =
    passed_as (sym same) (passed_then (passed_higher (omega arith) p) q)
  where
    same : all_passes (word_count image) depth pc facts (words_at image pc facts w) ++
        pick (ltb 0 depth && some is_return (words_at image pc facts w)) (return_passes image (seen asked u) (depth - 1) facts) []
        ≡ cell_passes image (seen asked t) depth pc facts
    same =
        ap (λ (l : List (Pass Cell)). all_passes (word_count image) depth pc facts (words_at image pc facts w) ++ l)
        (back_same image (seen asked t) depth facts (some is_return (words_at image pc facts w)) (seen asked u) p.kept)
        ∙ ap (λ (s : Shape). all_passes (word_count image) depth pc facts (words_at image pc facts s) ++
        pick (ltb 0 depth && some is_return (words_at image pc facts s)) (return_passes image (seen asked t) (depth - 1) facts) [])
        read
