-- What the marks promise is kept up: as a table and its marks move on, and over the turn of a cell.
use mathlib.Core.Path.{◌≡◌, refl, sym, ◌∙◌, ap}
use mathlib.Core.Bool.{Bool, true, false, ◌&&◌, true≢false}
use mathlib.Core.List.{List, [], ◌++◌}
use mathlib.Core.Logic.{◌⊎◌, inl, inr}
use Prim.Native.Nat.{ℕ, ◌+◌, ◌-◌, ◌*◌, ◌/◌, ◌%◌, ◌≤◌, ◌<◌}
use native.Mathlib.Decide.{ℕ_discrete}
use native.Mathlib.Nat.{mod-lt, div-add-mod'}
use native.Mathlib.Omega.{arith}
use lib.Dec.{ltb}
use lib.Arith.{digits_lt}
use lib.ListN.{length, get_or}
use borrow.Author.Tests.{ltb-true}
use Rattle.bitset.specs.Bitset.{has}
use Rattle.choice.specs.Choice.{pick}
use Rattle.choice.proofs.Laws.{and_first, and_second}
use Rattle.machine.specs.Step.{word_count, shape_at}
use Rattle.flow.specs.Flow.{Pass, Below, all_covered, turn}
use Rattle.flow.specs.Due.{Taken, Split, Moved}
use Rattle.flow.proofs.Due.{covered_wider, moved_settled, turn_settled}
use Rattle.facts.specs.declared.Cell.{Cell}
use Rattle.facts.specs.Record.{depths, cell_at, Layout}
use Rattle.transfer.specs.Passes.{point_at, is_return, some, words_at, all_passes, return_passes, cell_passes, table_space}
use Rattle.transfer.proofs.TableLaws.{table_laws, fine_facts, depth_of}
use Rattle.transfer.proofs.Returns.{returns_same, returns_fine}
use Rattle.marks.specs.Marks.{set_size, is_due, is_changed, returns_at, cell_parts, SameSites, Woken, Moves, Noted, Returning, Hubs, Agenda}

-- ---- what a cell depends on
-- its own part and the other are all that it passes on
pub cell_split : (image : List ℕ) → Split (table_space image) (cell_parts image)
cell_split image = record { parts = λ t i. at t i (i / word_count image) (i % word_count image) }
  where
    both : (b x : Bool) (xs ys : List (Pass Cell)) → pick b (xs ++ pick x ys []) [] ≡ pick b xs [] ++ pick (b && x) ys []
    both true x xs ys = refl
    both false x xs ys = refl

    at : (t : List ℕ) (i depth a : ℕ)
        → pick (cell_at t i).reached (cell_passes image t depth a (cell_at t i).facts) []
        ≡ pick (cell_at t i).reached (all_passes (word_count image) depth a (cell_at t i).facts (words_at image a (cell_at t i).facts (shape_at image a))) [] ++
        pick ((cell_at t i).reached && (ltb 0 depth && some is_return (words_at image a (cell_at t i).facts (shape_at image a)))) (return_passes image t (depth - 1) (cell_at t i).facts) []
    at t i depth a =
        let facts = (cell_at t i).facts in
        both (cell_at t i).reached (ltb 0 depth && some is_return (words_at image a facts (shape_at image a)))
        (all_passes (word_count image) depth a facts (words_at image a facts (shape_at image a))) (return_passes image t (depth - 1) facts)

-- a cell lies in the row of its depth
pub row_of : (n i : ℕ) → 0 < n → 0 < i / n → ((i / n - 1 + 1) * n ≤ i) × (i < (i / n - 1 + 2) * n)
row_of n i some deep =
    let place : i / n * n + i % n ≡ i = div-add-mod' i n in
    let near : i % n < n = mod-lt i some in
    let same : i / n - 1 + 1 ≡ i / n = omega arith in
    let next : i / n - 1 + 2 ≡ i / n + 1 = omega arith in
    rw (same, next) (omega arith, omega arith)

module _ {image : List ℕ} where
  -- a cell that is not due returns to the same call sites as before, if it returns
  returns_alike : {t m u n : List ℕ} → Returning image t m → Moves image t m u n → (i : ℕ) → i < depths * word_count image
      → is_due n i ≡ false → is_changed m i ≡ false → (c : Cell) → c ≡ cell_at t i
      → pick (returns_at image i c) (return_passes image u (i / word_count image - 1) c.facts) [] ≡ pick (returns_at image i c) (return_passes image t (i / word_count image - 1) c.facts) []
  returns_alike {t = t} {u = u} {n = n} r p i l h clear c e = go (returns_at image i c) refl
    where
      depth : ℕ
      depth = i / word_count image - 1

      go : (b : Bool) → returns_at image i c ≡ b → pick b (return_passes image u depth c.facts) [] ≡ pick b (return_passes image t depth c.facts) []
      go false w = refl
      go true w = told (p.births depth (omega (arith, deep, depth_of i (word_count image) l)))
        where
          returning : Bool
          returning = some is_return (words_at image (i % word_count image) c.facts (shape_at image (i % word_count image)))

          deep : 0 < i / word_count image
          deep = ltb-true 0 (i / word_count image) (and_first (ltb 0 (i / word_count image)) returning (and_second c.reached (ltb 0 (i / word_count image) && returning) w))

          told : SameSites image t u depth ⊎ Woken image n depth → return_passes image u depth c.facts ≡ return_passes image t depth c.facts
          told (inl same) = returns_same image t u depth c.facts same.same
          told (inr woken) =
              let row = row_of (word_count image) i (omega arith) deep in
              absurd (true≢false (sym (woken.due i l row.0 row.1 (p.returning i l ∙ r.exact i l clear ∙ ap (returns_at image i) (sym e) ∙ w)) ∙ h))

  pub moves_moved : {t m u n : List ℕ} → Returning image t m → ((i : ℕ) → i < depths * word_count image → is_due m i ≡ false → is_changed m i ≡ false)
      → Moves image t m u n → Moved (table_space image) (cell_parts image) t (is_due m) (is_changed m) u (is_due n) (is_changed n)
  moves_moved {t = t} {u = u} r within p = record {
    due = p.due;
    changed = p.changed;
    within = λ i l h. (p.within i l h).0;
    shared = λ i l h.
        ap (λ (c : Cell). pick (returns_at image i c) (return_passes image u (i / word_count image - 1) c.facts) []) (p.within i l h).1
        ∙ returns_alike r p i l h (within i l (p.due i l h)) (cell_at t i) refl;
  }

  pub returning_moves : {t m u n : List ℕ} → Returning image t m → Moves image t m u n → Returning image u n
  returning_moves r p = record {
    exact = λ i l h.
        let same = p.changed i l h in
        p.returning i l ∙ r.exact i l same.0 ∙ ap (returns_at image i) (sym same.1);
  }

-- marks that differ in the depths of births alone
pub moves_alike : {image t m u n o : List ℕ} → word_count image ≤ 8192 → length o ≡ length n → ((j : ℕ) → j < 4 * set_size → has o j ≡ has n j)
    → Moves image t m u n → Moves image t m u o
moves_alike {image = image} {t = t} {u = u} {n = n} {o = o} words long same p = record {
  sited = record { long = long ∙ p.sited.long; sites = λ d a l h. same (3 * set_size + point_at (word_count image) d a) (omega (arith, digits_lt l h)) ∙ p.sited.sites d a l h };
  due = λ i l h. p.due i l (sym (same i (omega arith)) ∙ h);
  changed = λ i l h. p.changed i l (sym (same (set_size + i) (omega arith)) ∙ h);
  within = λ i l h. let first = p.within i l (sym (same i (omega arith)) ∙ h) in (same (set_size + i) (omega arith) ∙ first.0, first.1);
  returning = λ i l. same (2 * set_size + i) (omega arith) ∙ p.returning i l;
  births = λ d l. alike d (p.births d l);
}
  where
    alike : (d : ℕ) → SameSites image t u d ⊎ Woken image n d → SameSites image t u d ⊎ Woken image o d
    alike d (inl a) = inl a
    alike d (inr w) = inr (record { due = λ i l low high r. same i (omega arith) ∙ w.due i l low high (sym (same (2 * set_size + i) (omega arith)) ∙ r) })

-- ---- all that the marks promise
module _ (image : List ℕ) (bytes : (k : ℕ) → get_or image k 0 < 256) where
  pub hubs_noted : {t m u n hubs : List ℕ} → Layout (depths * word_count image) t → Layout (depths * word_count image) u → Below (table_space image) t u
      → Hubs image t m hubs → Noted image t m u n → Hubs image u n hubs
  hubs_noted {t = t} {u = u} {hubs = hubs} gt gu wide h p = record {
    layout = h.layout;
    held = λ d l clear r.
        let first = p.born d l clear in
        let facts = (cell_at hubs d).facts in
        ap (all_covered (table_space image) u) (returns_same image t u d facts first.1.same)
        ∙ covered_wider (table_laws image bytes) gt gu wide (return_passes image t d facts)
        (returns_fine image bytes t d facts l (fine_facts (cell_at hubs d) (h.layout.fine d l))) (h.held d l first.0 r);
  }

  pub agenda_noted : {t m u n hubs : List ℕ} → Layout (depths * word_count image) t → Layout (depths * word_count image) u → Below (table_space image) t u
      → Agenda image t m hubs → Noted image t m u n → Agenda image u n hubs
  agenda_noted gt gu wide a p = record {
    sited = p.moves.sited;
    settled = moved_settled (table_laws image bytes) (cell_split image) gt gu wide a.settled (moves_moved a.returning a.settled.within p.moves);
    returning = returning_moves a.returning p.moves;
    shown = hubs_noted gt gu wide a.shown p;
  }

  -- the turn of cell i: marks m as it begins, m₁ with the cell taken out
  pub agenda_turn : {t u m m₁ n hubs hubs₁ : List ℕ} (i : ℕ) → Layout (depths * word_count image) t → i < depths * word_count image → Agenda image t m hubs
      → Taken (depths * word_count image) i (is_due m) (is_changed m) (is_due m₁) (is_changed m₁) → Returning image t m₁
      → Moves image t m₁ u n → u ≡ turn (table_space image) t i → Hubs image u n hubs₁ → Agenda image u n hubs₁
  agenda_turn {m₁ = m₁} i g l a taken r p e h = record {
    sited = p.sited;
    settled = turn_settled (table_laws image bytes) (cell_split image) i g l a.settled taken (moves_moved r (λ j k c. inside j k c (ℕ_discrete j i)) p) e;
    returning = returning_moves r p;
    shown = h;
  }
    where
      inside : (j : ℕ) → j < depths * word_count image → is_due m₁ j ≡ false → Dec (j ≡ i) → is_changed m₁ j ≡ false
      inside j k c (yes q) = ap (is_changed m₁) q ∙ taken.clear
      inside j k c (no ne) = taken.changed j k ne ∙ a.settled.within j k (sym (taken.due j k ne) ∙ c)
