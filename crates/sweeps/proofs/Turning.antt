-- The turn of a cell that is due: its parts make the turn of the definition, and the marks are kept up.
use mathlib.Core.Path.{◌≡◌, refl, sym, ◌∙◌, ap, ap₂, subst, subst⁻¹}
use mathlib.Core.Bool.{Bool, true, false, ◌&&◌, ◌||◌}
use mathlib.Core.List.{List, [], ◌++◌}
use Prim.Native.Nat.{ℕ, ◌-◌, ◌*◌, ◌/◌, ◌%◌, ◌≤◌, ◌<◌}
use native.Mathlib.Decide.{ℕ_discrete}
use native.Mathlib.Nat.{div-add-mod'}
use native.Mathlib.Omega.{arith}
use lib.Arith.{digits_lt}
use lib.Dec.{ltb}
use lib.ListN.{get_or}
use borrow.Author.Tests.{ltb-true}
use Rattle.choice.specs.Choice.{pick}
use Rattle.choice.proofs.Laws.{and_first, and_second}
use Rattle.machine.specs.Step.{word_count, shape_at}
use Rattle.flow.specs.Flow.{Pass, Below, join_all, changes_all, all_covered, turn}
use Rattle.flow.proofs.Each.{Each, none, each_left}
use Rattle.flow.proofs.Lawful.{Fits}
use Rattle.flow.proofs.Rest.{join_all-nil, join_all-append, changes_all-nil, changes_all-append}
use Rattle.flow.proofs.Grows.{join_all-grows}
use Rattle.flow.proofs.Due.{left_out_table, left_out_flag}
use Rattle.facts.specs.declared.Cell.{Cell}
use Rattle.facts.specs.Record.{depths, cell_at, FineCell}
use Rattle.transfer.specs.Passes.{point_at, is_return, some, words_at, return_passes, table_space}
use Rattle.transfer.proofs.TableLaws.{table_laws, depth_of, address_of}
use Rattle.transfer.proofs.Returns.{same_site, returns_same}
use Rattle.marks.specs.Marks.{is_changed, is_returning, returns_at, own_passes, cell_parts, Sited, Returning, Hubs, Agenda}
use Rattle.marks.proofs.Moving.{moves_then}
use Rattle.marks.proofs.Settling.{row_of, cell_split, hubs_noted, agenda_turn}
use Rattle.passing.specs.Passing.{Laid, Ready, Passed}
use Rattle.sweeps.specs.Turns.{Place, OneDown, Begun, Turned, TurnDone}

-- where a cell of a table is
pub place_of : (image : List ℕ) (i : ℕ) → word_count image ≤ 8192 → i < depths * word_count image → Place image i (i / word_count image) (i % word_count image)
place_of image i words l =
    record { words = words; deep = depth_of i (word_count image) l; inside = address_of i (word_count image) l; at = sym (div-add-mod' i (word_count image)) }

module _ (image : List ℕ) (bytes : (k : ℕ) → get_or image k 0 < 256) (t m hubs : List ℕ) (i : ℕ) (g : Laid image t) (a : Agenda image t m hubs)
    (l : i < depths * word_count image) where
  abbrev depth : ℕ
  depth = i / word_count image

  -- a cell that returns lies one depth further down
  deep : (c : Cell) → returns_at image i c ≡ true → 0 < i / word_count image
  deep c w =
      let returning : Bool = some is_return (words_at image (i % word_count image) c.facts (shape_at image (i % word_count image))) in
      ltb-true 0 depth (and_first (ltb 0 depth) returning (and_second c.reached (ltb 0 depth && returning) w))

  -- the marks as the turn begins
  module _ {c : Cell} {m₁ : List ℕ} {changed : Bool} (e : c ≡ cell_at t i) (b : Begun image i c m m₁ changed) where
    begun_returns : is_returning m₁ i ≡ returns_at image i c
    begun_returns = b.returns ∙ go (is_changed m i) refl
      where
        go : (x : Bool) → is_changed m i ≡ x → pick x (returns_at image i c) (is_returning m i) ≡ returns_at image i c
        go true q = refl
        go false q = a.returning.exact i l q ∙ ap (returns_at image i) (sym e)

    begun_returning : Returning image t m₁
    begun_returning = record { exact = λ j k h. go j k h (ℕ_discrete j i) }
      where
        go : (j : ℕ) → j < depths * word_count image → is_changed m₁ j ≡ false → Dec (j ≡ i) → is_returning m₁ j ≡ returns_at image j (cell_at t j)
        go j k h (yes q) = subst⁻¹ (λ (x : ℕ). is_returning m₁ x ≡ returns_at image x (cell_at t x)) q (begun_returns ∙ ap (returns_at image i) e)
        go j k h (no ne) = b.returning j (omega (arith, k, g.words)) ne ∙ a.returning.exact j k (sym (b.taken.changed j k ne) ∙ h)

    begun_sited : Sited image t m₁
    begun_sited = record {
      long = b.long ∙ a.sited.long;
      sites = λ d x h k. b.sites (point_at (word_count image) d x) (omega (arith, digits_lt h k, g.words)) ∙ a.sited.sites d x h k;
    }

    pub begun_ready : Ready image [] t m₁
    begun_ready = record { words = g.words; layout = g.layout; sited = λ x. begun_sited }

    begun_hubs : Hubs image t m₁ hubs
    begun_hubs = record { layout = a.shown.layout; held = λ d h clear. a.shown.held d h (sym (b.born d h) ∙ clear) }

    -- its own part
    module _ {t₁ m₂ : List ℕ} {r : Bool} (p : Passed image [] (i / word_count image) t m₁ (pick changed (own_passes image i c) []) t₁ m₂ r) where
      own_fits : Each (Fits (table_space image) FineCell) (own_passes image i c)
      own_fits = subst⁻¹ (λ (x : Cell). Each (Fits (table_space image) FineCell) (own_passes image i x)) e
          (each_left (own_passes image i (cell_at t i)) ((cell_parts image).shared t i (cell_at t i))
          (subst (Each (Fits (table_space image) FineCell)) ((cell_split image).parts t i) ((table_laws image bytes).pass_fits t i g.layout l)))

      own_still : is_changed m i ≡ false → all_covered (table_space image) t (own_passes image i c) ≡ true
      own_still q = ap (λ (x : Cell). all_covered (table_space image) t (own_passes image i x)) e ∙ a.settled.own i l q

      some_fits : (x : Bool) → Each (Fits (table_space image) FineCell) (pick x (own_passes image i c) [])
      some_fits true = own_fits
      some_fits false = none

      wide : Below (table_space image) t t₁
      wide = subst⁻¹ (Below (table_space image) t) p.table (join_all-grows (table_laws image bytes) t (pick changed (own_passes image i c) []) (some_fits changed) g.layout)

      pub own_laid : Laid image t₁
      own_laid = record { words = g.words; layout = p.laid }

      pub own_sited : Sited image t₁ m₂
      own_sited = (p.noted refl).moves.sited

      pub own_hubs : Hubs image t₁ m₂ hubs
      own_hubs = hubs_noted image bytes g.layout p.laid wide begun_hubs (p.noted refl)

      returns_now : is_returning m₂ i ≡ returns_at image i c
      returns_now = (p.noted refl).moves.returning i l ∙ begun_returns

      pub one_down : is_returning m₂ i ≡ true → (0 < i / word_count image) × OneDown image i (i / word_count image - 1)
      one_down h =
          let some = deep c (sym returns_now ∙ h) in
          let row = row_of (word_count image) i (omega (arith, l)) some in
          (some, record { deep = omega (arith, depth_of i (word_count image) l); inside = l; low = row.0; high = row.1 })

      -- the call sites one depth up are as they were
      abbrev shared : List (Pass Cell)
      shared = pick (returns_at image i c) (return_passes image t (i / word_count image - 1) c.facts) []

      same_shared : pick (is_returning m₂ i) (return_passes image t₁ (i / word_count image - 1) c.facts) [] ≡ shared
      same_shared = ap (λ (x : Bool). pick x (return_passes image t₁ (i / word_count image - 1) c.facts) []) returns_now ∙ go (returns_at image i c) refl
        where
          go : (x : Bool) → returns_at image i c ≡ x
              → pick x (return_passes image t₁ (i / word_count image - 1) c.facts) [] ≡ pick x (return_passes image t (i / word_count image - 1) c.facts) []
          go false w = refl
          go true w =
              let lower : i / word_count image - 1 < i / word_count image = let some = deep c w in omega arith in
              returns_same image t t₁ (i / word_count image - 1) c.facts
              (λ y h. same_site image t₁ t (i / word_count image - 1) y (p.kept (point_at (word_count image) (i / word_count image - 1) y) (digits_lt lower h)))

      all : (table_space image).pass t i ≡ own_passes image i c ++ pick (returns_at image i c) (return_passes image t (i / word_count image - 1) c.facts) []
      all = (cell_split image).parts t i
          ∙ ap (λ (x : Cell). own_passes image i x ++ pick (returns_at image i x) (return_passes image t (i / word_count image - 1) x.facts) []) (sym e)

      -- one part after the other is all of it, and the own part may be left out where the record did not change
      both_tables : (x : Bool) → is_changed m i ≡ x → join_all (table_space image) (join_all (table_space image) t (pick x (own_passes image i c) [])) shared
          ≡ join_all (table_space image) t (own_passes image i c ++ shared)
      both_tables true h = sym (join_all-append (table_space image) t (own_passes image i c) shared)
      both_tables false h =
          ap (λ (v : List ℕ). join_all (table_space image) v shared) (join_all-nil (table_space image) t)
          ∙ sym (left_out_table (table_laws image bytes) t (own_passes image i c) shared g.layout own_fits (own_still h))

      both_flags : (x : Bool) → is_changed m i ≡ x
          → (changes_all (table_space image) t (pick x (own_passes image i c) []) || changes_all (table_space image) (join_all (table_space image) t (pick x (own_passes image i c) [])) shared)
          ≡ changes_all (table_space image) t (own_passes image i c ++ shared)
      both_flags true h = sym (changes_all-append (table_space image) t (own_passes image i c) shared)
      both_flags false h =
          ap₂ (λ (x : Bool) (v : List ℕ). x || changes_all (table_space image) v shared) (changes_all-nil (table_space image) t) (join_all-nil (table_space image) t)
          ∙ sym (left_out_flag (table_laws image bytes) t (own_passes image i c) shared g.layout own_fits (own_still h))

      -- the turn
      module _ {u n hubs₁ : List ℕ} {s : Bool}
          (q : Turned image t₁ m₂ (pick (is_returning m₂ i) (return_passes image t₁ (i / word_count image - 1) c.facts) []) u n hubs₁ s) where
        table : u ≡ turn (table_space image) t i
        table =
            q.table ∙ ap (join_all (table_space image) t₁) same_shared ∙ ap (λ (v : List ℕ). join_all (table_space image) v shared) p.table
            ∙ both_tables changed (sym b.told) ∙ ap (join_all (table_space image) t) (sym all)

        pub turn_done : TurnDone image t i u n hubs₁ (r || s)
        turn_done = record {
          table = table;
          flag =
              ap₂ (λ (x y : Bool). x || y) p.flag
              (q.flag ∙ ap (changes_all (table_space image) t₁) same_shared ∙ ap (λ (v : List ℕ). changes_all (table_space image) v shared) p.table)
              ∙ both_flags changed (sym b.told) ∙ ap (changes_all (table_space image) t) (sym all);
          laid = q.laid;
          agenda = agenda_turn image bytes i g.layout l a b.taken begun_returning (moves_then (p.noted refl).moves q.moves) table q.shown;
        }
