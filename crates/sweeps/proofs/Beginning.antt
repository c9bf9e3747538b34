-- A turn as it begins, and the hub that it leaves: a number told, a hub kept, whether a cell returns, the marks as its turn
-- begins, and what it passes on by its own record. Assumes nothing.
use mathlib.Core.Path.{◌≡◌, refl, sym, ◌∙◌, ap, ap₂}
use mathlib.Core.Bool.{Bool, true, false, not, ◌&&◌}
use mathlib.Core.List.{List, []}
use Prim.Native.Nat.{ℕ, ◌+◌, ◌*◌, ◌/◌, ◌%◌, ◌≤◌, ◌<◌}
use native.Mathlib.Omega.{arith}
use lib.Dec.{ltb}
use borrow.Author.Tests.{lt-ltb, not-true, not-false}
use Rattle.choice.specs.Choice.{pick}
use Rattle.bitset.specs.Bitset.{has, Taken}
use Rattle.machine.specs.Step.{word_count, shape_at}
use Rattle.machine.specs.Shape.{Shape}
use Rattle.forms.specs.declared.Form.{Form}
use Rattle.forms.specs.Forms.{shape_is}
use Rattle.facts.specs.declared.Cell.{Cell}
use Rattle.facts.specs.Record.{depths}
use Rattle.transfer.specs.Passes.{is_return, words_at, some, all_passes}
use Rattle.callers.proofs.Points.{point_small, point_depth, point_address}
use Rattle.marks.specs.Marks.{set_size, is_changed, returns_at, own_passes}
use Rattle.sweeps.specs.Turns.{Place, Read, Told, Begun}

-- ---- a cell at its depth and PC
module _ (image : List ℕ) (i depth pc : ℕ) (p : Place image i depth pc) where
  pub place_small : i < set_size
  place_small = let small = point_small (word_count image) depth pc p.inside p.deep p.words in omega arith

  pub place_depth : i / word_count image ≡ depth
  place_depth = ap (λ (k : ℕ). k / word_count image) p.at ∙ point_depth (word_count image) depth pc p.inside

  pub place_address : i % word_count image ≡ pc
  place_address = ap (λ (k : ℕ). k % word_count image) p.at ∙ point_address (word_count image) depth pc p.inside

  module _ (c : Cell) where
    -- ---- whether it returns
    returns_here : returns_at image i c ≡ (c.reached && (ltb 0 depth && some is_return (words_at image pc c.facts (shape_at image pc))))
    returns_here =
        ap₂ (λ (d a : ℕ). c.reached && (ltb 0 d && some is_return (words_at image a c.facts (shape_at image a)))) place_depth place_address

    pub returns_told : {form : Form} {r : Bool} → not c.reached ≡ false → (depth ≡ 0 → ⊥) → Read image pc form
        → r ≡ some is_return (words_at image pc c.facts (shape_is form)) → r ≡ returns_at image i c
    returns_told h low read told =
        let in_reach : c.reached ≡ true = not-false c.reached h in
        let deep : ltb 0 depth ≡ true = lt-ltb 0 depth (omega arith) in
        told ∙ ap (λ (s : Shape). some is_return (words_at image pc c.facts s)) read.shape
        ∙ sym (returns_here ∙ ap₂ (λ (b d : Bool). b && (d && some is_return (words_at image pc c.facts (shape_at image pc)))) in_reach deep)

    -- ---- what it passes on by its own record
    pub own_unreached : not c.reached ≡ true → (changed : Bool) → pick changed (own_passes image i c) [] ≡ []
    own_unreached h true = let out : c.reached ≡ false = not-true c.reached h in rw out refl
    own_unreached h false = refl

    pub own_told : {form : Form} (changed : Bool) → not changed ≡ false → not c.reached ≡ false → Read image pc form
        → pick changed (own_passes image i c) [] ≡ all_passes (word_count image) depth pc c.facts (words_at image pc c.facts (shape_is form))
    own_told changed y h read =
        ap (λ (b : Bool). pick b (own_passes image i c) []) (not-false changed y)
        ∙ ap₂ (λ (d a : ℕ). pick c.reached (all_passes (word_count image) d a c.facts (words_at image a c.facts (shape_at image a))) []) place_depth place_address
        ∙ ap (λ (b : Bool). pick b (all_passes (word_count image) depth pc c.facts (words_at image pc c.facts (shape_at image pc))) []) (not-false c.reached h)
        ∙ ap (λ (s : Shape). all_passes (word_count image) depth pc c.facts (words_at image pc c.facts s)) (sym read.shape)

    -- ---- the marks as its turn begins
    module _ (m : List ℕ) {m₁ : List ℕ} (t : Taken m i m₁) where
      changed_as : is_changed m₁ i ≡ is_changed m i
      changed_as = let small = place_small in t.others (set_size + i) (λ x. omega arith)

      -- its record did not change
      pub begun_still : {r : Bool} → r ≡ is_changed m₁ i → not r ≡ true → Begun image i c m m₁ false
      begun_still {r = r} e h =
          let small = place_small in
          let clear : is_changed m₁ i ≡ false = sym e ∙ not-true r h in
          let was : is_changed m i ≡ false = sym changed_as ∙ clear in
          record {
            long = t.long;
            told = sym was;
            taken =
                record {
                  due = λ j l ne. t.others j ne;
                  changed = λ j l ne. t.others (set_size + j) (λ x. omega arith);
                  clear = clear;
                };
            returns = rw was (t.others (2 * set_size + i) (λ x. omega arith));
            returning = λ j l ne. t.others (2 * set_size + j) (λ x. omega arith);
            sites = λ j l. t.others (3 * set_size + j) (λ x. omega arith);
            born = λ d l. t.others (4 * set_size + d) (λ x. omega arith);
          }

      -- its record changed
      pub begun_changed : {r on : Bool} {m₂ n : List ℕ} → r ≡ is_changed m₁ i → not r ≡ false → Taken m₁ (set_size + i) m₂ → on ≡ returns_at image i c
          → Told m₂ (2 * set_size + i) on n → Begun image i c m n true
      begun_changed {r = r} {n = n} e h s back told =
          let small = place_small in
          let was : is_changed m i ≡ true = sym changed_as ∙ sym e ∙ not-false r h in
          record {
            long = told.long ∙ s.long ∙ t.long;
            told = sym was;
            taken =
                record {
                  due = λ j l ne. others j ne (λ x. inside j l (omega arith)) (λ x. inside j l (omega arith));
                  changed = λ j l ne. others (set_size + j) (λ x. omega arith) (λ x. ne (omega arith)) (λ x. inside j l (omega arith));
                  clear = told.others (set_size + i) (λ x. omega arith) ∙ s.here;
                };
            returns = rw was (told.here ∙ back);
            returning = λ j l ne. others (2 * set_size + j) (λ x. omega arith) (λ x. omega arith) (λ x. ne (omega arith));
            sites = λ j l. others (3 * set_size + j) (λ x. omega arith) (λ x. omega arith) (λ x. omega arith);
            born = λ d l. others (4 * set_size + d) (λ x. omega arith) (λ x. omega arith) (λ x. omega arith);
          }
        where
          others : (j : ℕ) → (j ≡ i → ⊥) → (j ≡ set_size + i → ⊥) → (j ≡ 2 * set_size + i → ⊥) → has n j ≡ has m j
          others j a b d = told.others j d ∙ s.others j b ∙ t.others j a

          inside : (j : ℕ) → j < depths * word_count image → set_size ≤ j → ⊥
          inside j l b = let w = p.words in omega arith
