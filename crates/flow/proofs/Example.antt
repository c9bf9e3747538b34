-- A small table: the definitions compute, and the laws can be met. Four cells hold 0 (not reached) or a height of 1 to 3.
-- Cell 0 leads to 1, cell 1 to 2, and cell 2 back to 1, one higher, and to 3.
use mathlib.Core.Path.{◌≡◌, refl, sym, ◌∙◌, subst}
use mathlib.Core.Bool.{true}
use mathlib.Core.List.{List, [], ◌∷◌}
use Prim.Native.Nat.{ℕ, zero, suc, ◌+◌, ◌-◌, ◌≤◌, ◌<◌, min, max}
use native.Mathlib.Decide.{ℕ_discrete}
use native.Mathlib.Omega.{arith}
use lib.Dec.{leb}
use lib.ListN.{length, get_or, set, replicate, length-set, get_or-replicate}
use lib.Seq.{get_or-set_same, get_or-set_other, ext_get_or}
use borrow.Author.Tests.{leb-true, leb-false, le-leb}
use Rattle.flow.specs.Flow.{Pass, Space, join_all, changes_all, sweep_from, sweep_changes_from, sweeps, sweep_changes, sweep_count, weights, sum_weights, Filled, Least}
use Rattle.flow.proofs.Each.{Each, none, also}
use Rattle.flow.proofs.Lawful.{Lawful, Fits}
use Rattle.flow.proofs.Grows.{Covered, each_covered, covered_each}
use Rattle.flow.proofs.Fixpoint.{Begins, begins_empty, filled_least}

abbrev to : ℕ → ℕ → Pass ℕ
to i h = record { target = i; cell = h }

abbrev edges : ℕ → ℕ → List (Pass ℕ)
edges zero h = to 1 h ∷ []
edges (suc zero) h = to 2 h ∷ []
edges (suc (suc zero)) h = to 1 (min (h + 1) 3) ∷ to 3 h ∷ []
edges (suc (suc (suc i))) h = []

-- what a cell of height h passes on
abbrev sends : ℕ → ℕ → List (Pass ℕ)
sends i zero = []
sends i (suc h) = edges i (suc h)

abbrev heights : Space (List ℕ) ℕ
heights = record {
  size = 4;
  at = λ t i. get_or t i 0;
  put = λ t i h. set t i h;
  covers = λ a b. leb b a;
  join = max;
  pass = λ t i. sends i (get_or t i 0);
  weight = λ h. 3 - h;
}

abbrev begin : List ℕ
begin = 1 ∷ 0 ∷ 0 ∷ 0 ∷ []

-- ---- the definitions compute
pub three_sweeps : sweeps heights 3 begin ≡ 1 ∷ 3 ∷ 3 ∷ 3 ∷ []
unfolding sweeps sweep_from join_all
three_sweeps = refl

pub three_counted : sweep_count heights (sum_weights heights begin) begin ≡ 3
unfolding sweep_count sweep_from join_all sweep_changes_from changes_all weights
three_counted = refl

pub filled : Filled heights begin 3 (1 ∷ 3 ∷ 3 ∷ 3 ∷ [])
unfolding sweeps sweep_from join_all sweep_changes_from changes_all
filled = record { filling = record { swept = refl; changed = go }; still = refl }
  where
    go : (j : ℕ) → j < 3 → sweep_changes heights (sweeps heights j begin) ≡ true
    go zero l = refl
    go (suc zero) l = refl
    go (suc (suc zero)) l = refl
    go (suc (suc (suc j))) l = absurd (omega arith)

-- ---- the laws hold
pub record Four (t : List ℕ) : Type 0 where
  pub long : length t ≡ 4
  pub low : (i : ℕ) → i < 4 → get_or t i 0 ≤ 3

abbrev Low : ℕ → Type 0
Low h = h ≤ 3

set_four : (t : List ℕ) (i h : ℕ) → Four t → i < 4 → h ≤ 3 → Four (set t i h)
set_four t i h g l f = record { long = length-set t i h ∙ g.long; low = λ j m. go j m (ℕ_discrete j i) }
  where
    go : (j : ℕ) → j < 4 → Dec (j ≡ i) → get_or (set t i h) j 0 ≤ 3
    go j m (yes e) =
        let n : i < length t = omega (arith, g.long) in
        subst (λ k. get_or (set t i h) k 0 ≤ 3) (sym e) (subst (λ x. x ≤ 3) (sym (get_or-set_same t i h 0 n)) f)
    go j m (no n) = subst (λ x. x ≤ 3) (sym (get_or-set_other t i j h 0 n)) (g.low j m)

-- a lower height is covered where a greater one is
lower : (u : List ℕ) (i a b : ℕ) → a ≤ b → Covered heights u (to i b) → Covered heights u (to i a)
lower u i a b l c = record { holds = le-leb a (get_or u i 0) (omega (arith, leb-true b (get_or u i 0) c.holds)) }

edges_monotone : (u : List ℕ) (i a b : ℕ) → a ≤ b → Each (Covered heights u) (edges i b) → Each (Covered heights u) (edges i a)
edges_monotone u zero a b l (also c none) = also (lower u 1 a b l c) none
edges_monotone u (suc zero) a b l (also c none) = also (lower u 2 a b l c) none
edges_monotone u (suc (suc zero)) a b l (also c (also d none)) =
    also (lower u 1 (min (a + 1) 3) (min (b + 1) 3) (omega arith) c) (also (lower u 3 a b l d) none)
edges_monotone u (suc (suc (suc i))) a b l none = none

sends_monotone : (u : List ℕ) (i a b : ℕ) → a ≤ b → Each (Covered heights u) (sends i b) → Each (Covered heights u) (sends i a)
sends_monotone u i zero b l c = none
sends_monotone u i (suc a) zero l c = absurd (omega arith)
sends_monotone u i (suc a) (suc b) l c = edges_monotone u i (suc a) (suc b) l c

fit : (i h : ℕ) → i < 4 → h ≤ 3 → Fits heights Low (to i h)
fit i h l m = record { inside = l; fine = m }

edges_fit : (i h : ℕ) → h ≤ 3 → Each (Fits heights Low) (edges i h)
edges_fit zero h l = also (fit 1 h (omega arith) l) none
edges_fit (suc zero) h l = also (fit 2 h (omega arith) l) none
edges_fit (suc (suc zero)) h l =
    also (fit 1 (min (h + 1) 3) (omega arith) (omega arith)) (also (fit 3 h (omega arith) l) none)
edges_fit (suc (suc (suc i))) h l = none

sends_fit : (i h : ℕ) → h ≤ 3 → Each (Fits heights Low) (sends i h)
sends_fit i zero l = none
sends_fit i (suc h) l = edges_fit i (suc h) l

heights_lawful : Lawful heights Four Low
heights_lawful = record {
  at_fine = λ t i g l. g.low i l;
  put_good = λ t i h g l f. set_four t i h g l f;
  at_put_same = λ t i h g l f. get_or-set_same t i h 0 (subst (λ n. i < n) (sym g.long) l);
  at_put_other = λ t i j h g l m f n. get_or-set_other t i j h 0 n;
  same_cells = λ t u g k h. ext_get_or 0 t u (g.long ∙ sym k.long) (λ i l. h i (subst (λ n. i < n) g.long l));
  covers_refl = λ a f. le-leb a a (omega arith);
  covers_trans = λ a b c fa fb fc h k. le-leb c a (omega (arith, leb-true b a h, leb-true c b k));
  covers_antisym = λ a b fa fb h k. omega (arith, leb-true b a h, leb-true a b k);
  join_fine = λ a b fa fb. omega arith;
  join_left = λ a b fa fb. le-leb a (max a b) (omega arith);
  join_right = λ a b fa fb. le-leb b (max a b) (omega arith);
  join_least = λ a b c fa fb fc h k. le-leb (max a b) c (omega (arith, leb-true a c h, leb-true b c k));
  weight_falls = λ a b fa fb h. omega (arith, leb-false b a h);
  pass_fits = λ t i g l. sends_fit i (get_or t i 0) (g.low i l);
  pass_monotone = λ t u i g k l b h. covered_each heights u (sends i (get_or t i 0))
      (sends_monotone u i (get_or t i 0) (get_or u i 0) (leb-true (get_or t i 0) (get_or u i 0) (b.covered i l))
      (each_covered heights u (sends i (get_or u i 0)) h));
}

-- ---- and so the filled table is the least
begins : Begins heights Four Low 1 begin
begins = begins_empty heights_lawful 1 (replicate 4 0) (omega arith) (omega arith)
    (record { long = refl; low = λ i l. omega (arith, get_or-replicate {A = ℕ} 4 i 0 0 l) })
    (λ i c l f. le-leb (get_or (replicate 4 0) i 0) c (omega (arith, get_or-replicate {A = ℕ} 4 i 0 0 l)))

pub least : Least heights Four 1 (1 ∷ 3 ∷ 3 ∷ 3 ∷ [])
least = filled_least heights_lawful begins filled
