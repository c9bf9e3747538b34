-- The return of a cell: by the hub it is told that nothing changes, and after it the hub is kept.
use mathlib.Core.Path.{◌≡◌, refl, sym, ◌∙◌, ap, subst⁻¹}
use mathlib.Core.Bool.{Bool, true, false, not, ◌&&◌, true≢false}
use mathlib.Core.List.{List, []}
use mathlib.Core.Logic.{◌⊎◌, inl, inr}
use Prim.Native.Nat.{ℕ, ◌+◌, ◌*◌, ◌<◌}
use native.Mathlib.Decide.{ℕ_discrete}
use native.Mathlib.Omega.{arith}
use lib.ListN.{get_or}
use borrow.Author.Tests.{not-true}
use Rattle.choice.specs.Choice.{pick}
use Rattle.choice.proofs.Laws.{and_first, and_second}
use Rattle.flow.specs.Flow.{Pass, Below, all_covered}
use Rattle.flow.proofs.Each.{Each}
use Rattle.flow.proofs.Lawful.{Fits}
use Rattle.flow.proofs.Rest.{join_all-nil, changes_all-nil}
use Rattle.flow.proofs.Grows.{join_all-grows, join_all-covers}
use Rattle.flow.proofs.Still.{join_all-still, changes_all-covered}
use Rattle.facts.specs.declared.Cell.{Cell}
use Rattle.facts.specs.Facts.{join_facts}
use Rattle.facts.specs.Record.{depths, cell_of, cell_at, put_cell, join_cell, holds_cell, FineCell}
use Rattle.facts.proofs.Cells.{join_fine, reached_above, known_above}
use Rattle.facts.proofs.Records.{stored_cell, other_cell, put_layout}
use Rattle.facts.proofs.Makes.{FineFacts}
use Rattle.transfer.specs.Passes.{return_passes, table_space}
use Rattle.transfer.proofs.TableLaws.{table_laws, reached_fine}
use Rattle.transfer.proofs.Returns.{returns_same, returns_fine, returns_known, returns_joined}
use Rattle.marks.specs.Marks.{set_size, is_due, is_returning, is_born, SameSites, Woken, Sited, Noted, Hubs}
use Rattle.marks.proofs.Moving.{moves_none}
use Rattle.marks.proofs.Settling.{moves_alike, hubs_noted}
use Rattle.passing.specs.Passing.{Laid, Passed}
use Rattle.sweeps.specs.Turns.{OneDown, HubKept, Turned}

-- the facts of a hub joined with others
joined_facts : (P : List ℕ → Type 0) (b : Bool) (hs fs : List ℕ) → (b ≡ true → P (join_facts hs fs)) → P fs → P (join_cell (cell_of b hs) (cell_of true fs)).facts
unfolding join_cell
joined_facts P true hs fs p q = p refl
joined_facts P false hs fs p q = q

module _ (image : List ℕ) (bytes : (k : ℕ) → get_or image k 0 < 256) (t m hubs : List ℕ) (depth : ℕ) (facts : List ℕ)
    (g : Laid image t) (s : Sited image t m) (h : Hubs image t m hubs) (d : depth < depths) (f : FineFacts facts) where
  abbrev passes : List (Pass Cell)
  passes = return_passes image t depth facts

  fits : Each (Fits (table_space image) FineCell) passes
  fits = returns_fine image bytes t depth facts d f

  -- what the hub covers is held already
  pub hub_covers : not (is_born m depth) && holds_cell (cell_at hubs depth) (cell_of true facts) ≡ true
      → Turned image t m (return_passes image t depth facts) t m hubs false
  hub_covers both = record {
    table = sym (join_all-still (table_laws image bytes) t passes g.layout fits held);
    flag = sym (changes_all-covered (table_laws image bytes) t passes g.layout fits ∙ ap not held);
    laid = g;
    moves = moves_none s;
    shown = h;
  }
    where
      holds : holds_cell (cell_at hubs depth) (cell_of true facts) ≡ true
      holds = and_second (not (is_born m depth)) (holds_cell (cell_at hubs depth) (cell_of true facts)) both

      clear : is_born m depth ≡ false
      clear = not-true (is_born m depth) (and_first (not (is_born m depth)) (holds_cell (cell_at hubs depth) (cell_of true facts)) both)

      held : all_covered (table_space image) t passes ≡ true
      held =
          returns_known image t depth (cell_at hubs depth).facts facts (known_above (cell_at hubs depth) (cell_of true facts) refl holds)
          (h.held depth d clear (reached_above (cell_at hubs depth) (cell_of true facts) refl holds))

  -- what the hub does not cover goes to every call site
  module _ (i : ℕ) {u n₁ n hubs₁ : List ℕ} {r : Bool} (down : OneDown image i depth) (returning : is_returning m i ≡ true)
      (p : Passed image [] depth t m (return_passes image t depth facts) u n₁ r) (k : HubKept n₁ hubs depth i (cell_of true facts) n hubs₁) where
    noted : Noted image t m u n₁
    noted = p.noted refl

    wide : Below (table_space image) t u
    wide = subst⁻¹ (Below (table_space image) t) p.table (join_all-grows (table_laws image bytes) t passes fits g.layout)

    before : Hubs image u n₁ hubs
    before = hubs_noted image bytes g.layout p.laid wide h noted

    -- where the cell is not due again, no call site was born, and all of them hold these facts
    same : is_due n₁ i ≡ false → SameSites image t u depth
    same clear = told (noted.moves.births depth d)
      where
        told : SameSites image t u depth ⊎ Woken image n₁ depth → SameSites image t u depth
        told (inl alike) = alike
        told (inr woken) = absurd (true≢false
            (sym (woken.due i down.inside down.low down.high (noted.moves.returning i down.inside ∙ returning)) ∙ clear))

    held : is_due n₁ i ≡ false → all_covered (table_space image) u (return_passes image u depth facts) ≡ true
    held clear =
        ap (all_covered (table_space image) u) (returns_same image t u depth facts (same clear).same)
        ∙ subst⁻¹ (λ (x : List ℕ). all_covered (table_space image) x passes ≡ true) p.table (join_all-covers (table_laws image bytes) t passes fits g.layout)

    -- the new hub
    abbrev hub : Bool → Cell
    hub b = pick b (cell_of true facts) (join_cell (cell_at hubs depth) (cell_of true facts))

    hub_fine : (b : Bool) → FineCell (hub b)
    hub_fine true = reached_fine facts f
    hub_fine false = join_fine (cell_at hubs depth) (cell_of true facts) (h.layout.fine depth d) (reached_fine facts f)

    hub_held : is_due n₁ i ≡ false → (b : Bool) → is_born n₁ depth ≡ b → all_covered (table_space image) u (return_passes image u depth (hub b).facts) ≡ true
    hub_held clear true e = held clear
    hub_held clear false e =
        joined_facts (λ (x : List ℕ). all_covered (table_space image) u (return_passes image u depth x) ≡ true) (cell_at hubs depth).reached (cell_at hubs depth).facts facts
        (λ reached. returns_joined image u depth (cell_at hubs depth).facts facts (before.held depth d e reached) (held clear)) (held clear)

    kept : (due : Bool) → is_due n₁ i ≡ due → Hubs image u n hubs₁
    kept true e =
        let still : hubs₁ ≡ hubs = k.hub ∙ ap (λ (b : Bool). pick b hubs (put_cell hubs depth (hub (is_born n₁ depth)))) e in
        subst⁻¹ (Hubs image u n) still
        (record {
          layout = h.layout;
          held = λ x l clear. before.held x l (sym (alike x (ℕ_discrete x depth)) ∙ clear);
        })
      where
        alike : (x : ℕ) → Dec (x ≡ depth) → is_born n x ≡ is_born n₁ x
        alike x (yes q) = ap (is_born n) q ∙ k.born ∙ ap (λ (b : Bool). b && is_born n₁ depth) e ∙ ap (is_born n₁) (sym q)
        alike x (no ne) = k.others (4 * set_size + x) (λ q. ne (omega (arith, q)))
    kept false e =
        let made : hubs₁ ≡ put_cell hubs depth (hub (is_born n₁ depth)) = k.hub ∙ ap (λ (b : Bool). pick b hubs (put_cell hubs depth (hub (is_born n₁ depth)))) e in
        subst⁻¹ (Hubs image u n) made
        (record {
          layout = put_layout depths hubs depth (hub (is_born n₁ depth)) h.layout d (hub_fine (is_born n₁ depth));
          held = λ x l clear reached. shown x l clear reached (ℕ_discrete x depth);
        })
      where
        shown : (x : ℕ) → x < depths → is_born n x ≡ false → (cell_at (put_cell hubs depth (hub (is_born n₁ depth))) x).reached ≡ true → Dec (x ≡ depth)
            → all_covered (table_space image) u (return_passes image u x (cell_at (put_cell hubs depth (hub (is_born n₁ depth))) x).facts) ≡ true
        shown x l clear reached (yes q) =
            subst⁻¹ (λ (y : ℕ). all_covered (table_space image) u (return_passes image u y (cell_at (put_cell hubs depth (hub (is_born n₁ depth))) y).facts) ≡ true) q
            (subst⁻¹ (λ (c : Cell). all_covered (table_space image) u (return_passes image u depth c.facts) ≡ true)
            (stored_cell depths hubs depth (hub (is_born n₁ depth)) h.layout d (hub_fine (is_born n₁ depth)))
            (hub_held e (is_born n₁ depth) refl))
        shown x l clear reached (no ne) =
            let alike = other_cell depths hubs depth (hub (is_born n₁ depth)) h.layout d (hub_fine (is_born n₁ depth)) x l ne in
            subst⁻¹ (λ (c : Cell). all_covered (table_space image) u (return_passes image u x c.facts) ≡ true) alike
            (before.held x l (sym (k.others (4 * set_size + x) (λ q. ne (omega (arith, q)))) ∙ clear) (sym (ap (λ (c : Cell). c.reached) alike) ∙ reached))

    pub hub_walked : Turned image t m (return_passes image t depth facts) u n hubs₁ r
    hub_walked = record {
      table = p.table;
      flag = p.flag;
      laid = record { words = g.words; layout = p.laid };
      moves = moves_alike g.words k.long (λ j l. k.others j (λ q. omega (arith, q, l))) noted.moves;
      shown = kept (is_due n₁ i) refl;
    }

-- ---- only where the cell returns
pub back_none : (image t m hubs : List ℕ) (depth : ℕ) (facts : List ℕ) {b : Bool} → Laid image t → Sited image t m → Hubs image t m hubs → b ≡ false
    → Turned image t m (pick b (return_passes image t depth facts) []) t m hubs false
back_none image t m hubs depth facts {b = b} g s h e = rw e
    (record {
      table = sym (join_all-nil (table_space image) t);
      flag = sym (changes_all-nil (table_space image) t);
      laid = g;
      moves = moves_none s;
      shown = h;
    })
