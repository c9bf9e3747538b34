-- The order and the join of cells.
use mathlib.Core.Path.{◌≡◌, refl, sym, ◌∙◌, ap}
use mathlib.Core.Bool.{Bool, true, false, false≢true}
use mathlib.Core.List.{List}
use Prim.Native.Nat.{ℕ, ◌+◌, ◌≤◌, ◌<◌}
use native.Mathlib.Omega.{arith}
use lib.ListN.{get_or}
use Rattle.choice.specs.Choice.{pick}
use Rattle.choice.proofs.Laws.{and_first, and_second}
use Rattle.facts.specs.declared.Cell.{Cell}
use Rattle.facts.specs.Facts.{unknown, all_know_no_more, join_facts, known_count}
use Rattle.facts.specs.Record.{cell_of, holds_cell, join_cell, cell_weight, FineCell}
use Rattle.facts.proofs.Order.{all_refl, all_trans, all_antisym, all_join_left, all_join_right, all_join_least, join_length, join_at_lem, join_bound, known_falls, known_bound}

-- a cell that holds a reached one is reached
pub reached_above : (c d : Cell) → d.reached ≡ true → holds_cell c d ≡ true → c.reached ≡ true
unfolding holds_cell
reached_above c d r h = and_first c.reached (all_know_no_more c.facts d.facts) (rw r at h)

-- and knows no more
pub known_above : (c d : Cell) → d.reached ≡ true → holds_cell c d ≡ true → all_know_no_more c.facts d.facts ≡ true
unfolding holds_cell
known_above c d r h = and_second c.reached (all_know_no_more c.facts d.facts) (rw r at h)

refl_of : (r : Bool) (f : List ℕ) → holds_cell (cell_of r f) (cell_of r f) ≡ true
unfolding holds_cell
refl_of true f = all_refl f
refl_of false f = refl

trans_of : (ra : Bool) (fa : List ℕ) (rb : Bool) (fb : List ℕ) (rc : Bool) (fc : List ℕ)
    → holds_cell (cell_of ra fa) (cell_of rb fb) ≡ true → holds_cell (cell_of rb fb) (cell_of rc fc) ≡ true → holds_cell (cell_of ra fa) (cell_of rc fc) ≡ true
unfolding holds_cell
trans_of ra fa rb fb false fc p q = refl
trans_of ra fa false fb true fc p q = absurd (false≢true q)
trans_of false fa true fb true fc p q = absurd (false≢true p)
trans_of true fa true fb true fc p q = all_trans fa fb fc p q

antisym_of : (ra : Bool) (fa : List ℕ) (rb : Bool) (fb : List ℕ) → FineCell (cell_of ra fa) → FineCell (cell_of rb fb)
    → holds_cell (cell_of ra fa) (cell_of rb fb) ≡ true → holds_cell (cell_of rb fb) (cell_of ra fa) ≡ true → cell_of ra fa ≡ cell_of rb fb
unfolding holds_cell
antisym_of false fa false fb a b p q = ap (cell_of false) (a.blank refl ∙ sym (b.blank refl))
antisym_of false fa true fb a b p q = absurd (false≢true p)
antisym_of true fa false fb a b p q = absurd (false≢true q)
antisym_of true fa true fb a b p q = ap (cell_of true) (all_antisym fa fb (a.facts ∙ sym b.facts) p q)

left_of : (ra : Bool) (fa : List ℕ) (rb : Bool) (fb : List ℕ) → holds_cell (join_cell (cell_of ra fa) (cell_of rb fb)) (cell_of ra fa) ≡ true
unfolding holds_cell join_cell
left_of ra fa false fb = refl_of ra fa
left_of false fa true fb = refl
left_of true fa true fb = all_join_left fa fb

right_of : (ra : Bool) (fa : List ℕ) (rb : Bool) (fb : List ℕ) → holds_cell (join_cell (cell_of ra fa) (cell_of rb fb)) (cell_of rb fb) ≡ true
unfolding holds_cell join_cell
right_of ra fa false fb = refl
right_of false fa true fb = all_refl fb
right_of true fa true fb = all_join_right fa fb

least_of : (ra : Bool) (fa : List ℕ) (rb : Bool) (fb : List ℕ) (c : Cell) → holds_cell c (cell_of ra fa) ≡ true → holds_cell c (cell_of rb fb) ≡ true
    → holds_cell c (join_cell (cell_of ra fa) (cell_of rb fb)) ≡ true
unfolding join_cell holds_cell
least_of ra fa false fb c p q = p
least_of false fa true fb c p q = q
least_of true fa true fb c p q = both c.reached c.facts p q
  where
    both : (r : Bool) (f : List ℕ) → holds_cell (cell_of r f) (cell_of true fa) ≡ true → holds_cell (cell_of r f) (cell_of true fb) ≡ true
        → holds_cell (cell_of r f) (cell_of true (join_facts fa fb)) ≡ true
    both true f p q = all_join_least f fa fb p q
    both false f p q = p

fine_of : (ra : Bool) (fa : List ℕ) (rb : Bool) (fb : List ℕ) → FineCell (cell_of ra fa) → FineCell (cell_of rb fb) → FineCell (join_cell (cell_of ra fa) (cell_of rb fb))
unfolding join_cell
fine_of ra fa false fb a b = a
fine_of false fa true fb a b = b
fine_of true fa true fb a b =
    record {
      facts = join_length fa fb ∙ a.facts;
      bounded = λ k. rw (join_at_lem fa fb k) (join_bound (get_or fa k unknown) (get_or fb k unknown) (a.bounded k));
      blank = λ e. absurd (false≢true (sym e));
    }

falls_of : (ra : Bool) (fa : List ℕ) (rb : Bool) (fb : List ℕ) → FineCell (cell_of rb fb) → holds_cell (cell_of ra fa) (cell_of rb fb) ≡ false
    → cell_weight (join_cell (cell_of ra fa) (cell_of rb fb)) < cell_weight (cell_of ra fa)
unfolding join_cell cell_weight holds_cell
falls_of ra fa false fb b e = absurd (false≢true (sym e))
falls_of false fa true fb b e = let h = known_bound fb in let l = b.facts in omega arith
falls_of true fa true fb b e = let h : 1 + known_count (join_facts fa fb) ≤ known_count fa = rw e at (known_falls fa fb) in omega arith

-- ---- the laws of cells

pub holds_refl : (c : Cell) → holds_cell c c ≡ true
holds_refl c = refl_of c.reached c.facts

pub holds_trans : (a b c : Cell) → holds_cell a b ≡ true → holds_cell b c ≡ true → holds_cell a c ≡ true
holds_trans a b c p q = trans_of a.reached a.facts b.reached b.facts c.reached c.facts p q

pub holds_antisym : (a b : Cell) → FineCell a → FineCell b → holds_cell a b ≡ true → holds_cell b a ≡ true → a ≡ b
holds_antisym a b fa fb p q = antisym_of a.reached a.facts b.reached b.facts fa fb p q

pub join_holds_left : (a b : Cell) → holds_cell (join_cell a b) a ≡ true
join_holds_left a b = left_of a.reached a.facts b.reached b.facts

pub join_holds_right : (a b : Cell) → holds_cell (join_cell a b) b ≡ true
join_holds_right a b = right_of a.reached a.facts b.reached b.facts

pub join_held : (a b c : Cell) → holds_cell c a ≡ true → holds_cell c b ≡ true → holds_cell c (join_cell a b) ≡ true
join_held a b c p q = least_of a.reached a.facts b.reached b.facts c p q

pub join_fine : (a b : Cell) → FineCell a → FineCell b → FineCell (join_cell a b)
join_fine a b fa fb = fine_of a.reached a.facts b.reached b.facts fa fb

pub join_falls : (a b : Cell) → FineCell b → holds_cell a b ≡ false → cell_weight (join_cell a b) < cell_weight a
join_falls a b fb e = falls_of a.reached a.facts b.reached b.facts fb e

pub weight_bound : (c : Cell) → FineCell c → cell_weight c ≤ 12
unfolding cell_weight
weight_bound c f = go c.reached
  where
    go : (r : Bool) → pick r (known_count c.facts) 12 ≤ 12
    go true = let h = known_bound c.facts in let l = f.facts in omega arith
    go false = omega arith
