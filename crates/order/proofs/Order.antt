-- Laws of the order and the join of cells as the code works them out.
use native.Mathlib.Omega.{arith}
use native.Mathlib.Decide.{ℕ_discrete}
use mathlib.Core.Path.{subst, ◌≡◌, refl, sym, ◌∙◌, ap, ap₂}
use mathlib.Core.Bool.{Bool, true, false, not, ◌&&◌}
use mathlib.Core.List.{List, [], ◌∷◌}
use Prim.Native.Nat.{ℕ, zero, suc, ◌+◌, ◌≤◌, ◌<◌}
use lib.ListN.{length, get_or}
use borrow.Author.Tests.{not-true, not-false}
use denote.Param.Members.{Mut, Called}
use Rattle.std.specs.Array.{IsFromFnResultFrom}
use Rattle.std.specs.List.{list_all, zip}
use Rattle.choice.specs.Choice.{pick}
use Rattle.facts.specs.declared.Cell.{Cell}
use Rattle.facts.specs.Facts.{knows_no_more, all_know_no_more, join_fact, join_facts}
use Rattle.facts.specs.Record.{cell_of, holds_cell, join_cell}

-- ---- facts, one by one

-- each pair of facts in turn
pub all_pairs : (f g : List ℕ) → length f ≡ length g → list_all (λ p. knows_no_more p.0 p.1) (zip f g) ≡ all_know_no_more f g
unfolding all_know_no_more
all_pairs [] g e = refl
all_pairs (x ∷ f) [] e = absurd (omega arith)
all_pairs (x ∷ f) (y ∷ g) e = ap (λ b. knows_no_more x y && b) (all_pairs f g (omega arith))

-- a list made at each place
pub join_at : (f g r : List ℕ) → length f ≡ length g → length r ≡ length f
    → ((k : ℕ) → k < length f → get_or r k 0 ≡ join_fact (get_or f k 0) (get_or g k 0)) → r ≡ join_facts f g
unfolding join_facts
join_at [] g [] e l h = refl
join_at [] g (z ∷ r) e l h = absurd (omega arith)
join_at (x ∷ f) [] r e l h = absurd (omega arith)
join_at (x ∷ f) (y ∷ g) [] e l h = absurd (omega arith)
join_at (x ∷ f) (y ∷ g) (z ∷ r) e l h =
    ap₂ (λ (a : ℕ) (rest : List ℕ). a ∷ rest) (h 0 (omega arith))
    (join_at f g r (omega arith) (omega arith) (λ k m. h (suc k) (omega arith)))

-- what a call at each place gave
module _ {F : Type 0} (m : Mut F (ℕ × Unit {0}) ℕ) {f : F} (r : List ℕ) (made : ℕ → ℕ)
    (one : (j y : ℕ) (q : F) → Called m f (j, tt) y q → (q ≡ f) × (y ≡ made j)) where
  pub called_each : (i n k : ℕ) → IsFromFnResultFrom m f r i n → i ≤ k → k < i + n → get_or r k 0 ≡ made k
  called_each i zero k each low high = absurd (omega arith)
  called_each i (suc n) k (q, y, element, call, rest) low high =
      by (ℕ_discrete k i)
      (called_each (i + 1) n k (subst (λ s. IsFromFnResultFrom m s r (i + 1) n) (one i y q call).0 rest))
    where
      by : Dec (k ≡ i) → (i + 1 ≤ k → k < i + 1 + n → get_or r k 0 ≡ made k) → get_or r k 0 ≡ made k
      by (yes e) after =
          ap (λ (j : ℕ). get_or r j 0) e ∙ element.1 0 ∙ (one i y q call).1 ∙ ap made (sym e)
      by (no other) after = after (omega arith) (omega arith)

-- ---- cells

module _ (c d : Cell) where
  pub holds_nothing : not d.reached ≡ true → true ≡ holds_cell c d
  unfolding holds_cell
  holds_nothing h = rw h

  pub holds_first : not d.reached ≡ false → not c.reached ≡ true → false ≡ holds_cell c d
  unfolding holds_cell
  holds_first h k = rw (h, not-true c.reached k)

  pub holds_facts : {r : Bool} → not d.reached ≡ false → not c.reached ≡ false → r ≡ all_know_no_more c.facts d.facts → r ≡ holds_cell c d
  unfolding holds_cell
  holds_facts h k e = rw (h, not-false c.reached k) e

  pub join_nothing : not d.reached ≡ true → c ≡ join_cell c d
  unfolding join_cell
  join_nothing h = sym (ap (λ (b : Bool). pick b (pick c.reached (cell_of true (join_facts c.facts d.facts)) d) c) (not-true d.reached h))

  pub join_first : not d.reached ≡ false → not c.reached ≡ true → d ≡ join_cell c d
  unfolding join_cell
  join_first h k =
      sym (ap₂ (λ (a b : Bool). pick b (pick a (cell_of true (join_facts c.facts d.facts)) d) c) (not-true c.reached k) (not-false d.reached h))

  pub join_both : {r : List ℕ} → not d.reached ≡ false → not c.reached ≡ false → r ≡ join_facts c.facts d.facts → cell_of true r ≡ join_cell c d
  unfolding join_cell
  join_both h k e =
      ap (cell_of true) e
      ∙ sym (ap₂ (λ (a b : Bool). pick b (pick a (cell_of true (join_facts c.facts d.facts)) d) c) (not-false c.reached k) (not-false d.reached h))
