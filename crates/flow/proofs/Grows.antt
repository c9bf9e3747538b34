-- Sweeps keep the layout, only grow, and stay below every closed table.
use mathlib.Core.Path.{◌≡◌, refl, sym, ◌∙◌, subst}
use mathlib.Core.Bool.{true, and-eq-true_iff}
use mathlib.Core.List.{List, [], ◌∷◌}
use mathlib.Core.Logic.{◌≢◌}
use Prim.Native.Nat.{ℕ, ◌+◌, ◌≤◌, ◌<◌}
use native.Mathlib.Decide.{ℕ_discrete}
use Rattle.flow.specs.Flow.{Pass, Space, join_at, join_all, turn, sweep_from, sweep, sweeps, all_covered, Below}
use Rattle.flow.proofs.Each.{Each, none, also}
use Rattle.flow.proofs.Lawful.{Lawful, Fits}
use Rattle.flow.proofs.Keeps.{join_all-keeps, turn_keeps, sweep_from-keeps, sweep_keeps, sweeps_keeps}

module _ {Tb C : Type 0} (S : Space Tb C) (t : Tb) where
  -- a pass is covered at its target
  pub record Covered (p : Pass C) : Type 0 where
    pub holds : S.covers (S.at t p.target) p.cell ≡ true

  -- the test of a whole list, and the fact for each of its passes
  pub each_covered : (ps : List (Pass C)) → all_covered S t ps ≡ true → Each Covered ps
  unfolding all_covered
  each_covered [] h = none
  each_covered (p ∷ ps) h =
      let both = (and-eq-true_iff (S.covers (S.at t p.target) p.cell) (all_covered S t ps)).0 h in
      also (record { holds = both.0 }) (each_covered ps both.1)

  pub covered_each : (ps : List (Pass C)) → Each Covered ps → all_covered S t ps ≡ true
  unfolding all_covered
  covered_each [] none = refl
  covered_each (p ∷ ps) (also c cs) =
      (and-eq-true_iff (S.covers (S.at t p.target) p.cell) (all_covered S t ps)).1 (c.holds, covered_each ps cs)

module _ {Tb C : Type 0} {S : Space Tb C} {Good : Tb → Type 0} {Fine : C → Type 0} (L : Lawful S Good Fine) where
  -- ---- the order of tables
  pub below_refl : (t : Tb) → Good t → Below S t t
  below_refl t g = record { covered = λ i l. L.covers_refl (S.at t i) (L.at_fine t i g l) }

  pub below_trans : {t u v : Tb} → Good t → Good u → Good v → Below S t u → Below S u v → Below S t v
  below_trans {t} {u} {v} gt gu gv a b = record {
    covered = λ i l. L.covers_trans (S.at v i) (S.at u i) (S.at t i) (L.at_fine v i gv l) (L.at_fine u i gu l)
        (L.at_fine t i gt l) (b.covered i l) (a.covered i l);
  }

  pub below_antisym : {t u : Tb} → Good t → Good u → Below S t u → Below S u t → t ≡ u
  below_antisym {t} {u} gt gu a b = L.same_cells t u gt gu (λ i l.
      L.covers_antisym (S.at t i) (S.at u i) (L.at_fine t i gt l) (L.at_fine u i gu l) (b.covered i l) (a.covered i l))

  -- ---- one join
  -- what is put at the target has the layout
  joined_fine : (t : Tb) (p : Pass C) → Good t → Fits S Fine p → Fine (S.join (S.at t p.target) p.cell)
  joined_fine t p g f = L.join_fine (S.at t p.target) p.cell (L.at_fine t p.target g f.inside) f.fine

  pub join_at-good : (t : Tb) (p : Pass C) → Fits S Fine p → Good t → Good (join_at S t p)
  join_at-good t p f g =
      L.put_good t p.target (S.join (S.at t p.target) p.cell) g f.inside (joined_fine t p g f)

  pub join_at-target : (t : Tb) (p : Pass C) → Good t → Fits S Fine p
      → S.at (join_at S t p) p.target ≡ S.join (S.at t p.target) p.cell
  join_at-target t p g f = L.at_put_same t p.target (S.join (S.at t p.target) p.cell) g f.inside (joined_fine t p g f)

  pub join_at-other : (t : Tb) (p : Pass C) (j : ℕ) → Good t → Fits S Fine p → j < S.size → p.target ≢ j
      → S.at (join_at S t p) j ≡ S.at t j
  join_at-other t p j g f l n = L.at_put_other t p.target j (S.join (S.at t p.target) p.cell) g f.inside l
      (joined_fine t p g f) (λ e. n (sym e))

  -- a property of every cell after a join: shown at the target, and elsewhere of the cell before
  pub join_at-cell : (t : Tb) (p : Pass C) → Good t → Fits S Fine p → (R : ℕ → C → Type 0)
      → R p.target (S.join (S.at t p.target) p.cell)
      → ((j : ℕ) → j < S.size → R j (S.at t j))
      → (j : ℕ) → j < S.size → R j (S.at (join_at S t p) j)
  join_at-cell t p g f R same other j l = go (ℕ_discrete j p.target)
    where
      go : Dec (j ≡ p.target) → R j (S.at (join_at S t p) j)
      go (yes e) = subst (λ k. R k (S.at (join_at S t p) k)) (sym e)
          (subst (R p.target) (sym (join_at-target t p g f)) same)
      go (no n) = subst (R j) (sym (join_at-other t p j g f l (λ e. n (sym e)))) (other j l)

  pub join_at-grows : (t : Tb) (p : Pass C) → Fits S Fine p → Good t → Below S t (join_at S t p)
  join_at-grows t p f g = record {
    covered =
        join_at-cell t p g f (λ j c. S.covers c (S.at t j) ≡ true)
        (L.join_left (S.at t p.target) p.cell (L.at_fine t p.target g f.inside) f.fine)
        (below_refl t g).covered;
  }

  pub join_at-below : (t u : Tb) (p : Pass C) → Fits S Fine p → Covered S u p → Good t → Good u → Below S t u
      → Below S (join_at S t p) u
  join_at-below t u p f h gt gu b = record {
    covered =
        join_at-cell t p gt f (λ j c. S.covers (S.at u j) c ≡ true)
        (L.join_least (S.at t p.target) p.cell (S.at u p.target) (L.at_fine t p.target gt f.inside)
        f.fine (L.at_fine u p.target gu f.inside) (b.covered p.target f.inside) h.holds)
        b.covered;
  }

  -- ---- the layout
  pub join_all-good : (t : Tb) (ps : List (Pass C)) → Each (Fits S Fine) ps → Good t → Good (join_all S t ps)
  join_all-good t ps fs g = join_all-keeps S Good (Fits S Fine) join_at-good t ps fs g

  fits : (t : Tb) (i : ℕ) → i < S.size → Good t → Each (Fits S Fine) (S.pass t i)
  fits t i l g = L.pass_fits t i g l

  pub turn_good : (t : Tb) (i : ℕ) → i < S.size → Good t → Good (turn S t i)
  turn_good = turn_keeps S Good (Fits S Fine) join_at-good fits

  pub sweep_from-good : (t : Tb) (i n : ℕ) → i + n ≤ S.size → Good t → Good (sweep_from S t i n)
  sweep_from-good = sweep_from-keeps S Good (Fits S Fine) join_at-good fits

  pub sweep_good : (t : Tb) → Good t → Good (sweep S t)
  sweep_good = sweep_keeps S Good (Fits S Fine) join_at-good fits

  pub sweeps_good : (k : ℕ) (t : Tb) → Good t → Good (sweeps S k t)
  sweeps_good = sweeps_keeps S Good (Fits S Fine) join_at-good fits

  -- ---- cells that are no target stay as they were
  pub join_all-other : (t : Tb) (ps : List (Pass C)) (j : ℕ) → Good t → Each (Fits S Fine) ps → j < S.size
      → Each (λ p. p.target ≢ j) ps → S.at (join_all S t ps) j ≡ S.at t j
  unfolding join_all
  join_all-other t [] j g none l none = refl
  join_all-other t (p ∷ ps) j g (also f fs) l (also n ns) =
      join_all-other (join_at S t p) ps j (join_at-good t p f g) fs l ns ∙ join_at-other t p j g f l n

  -- ---- growth: what is above a table stays above it
  record Above (t u : Tb) : Type 0 where
    good : Good u
    above : Below S t u

  above_keeps : (t : Tb) → Good t → (u : Tb) (p : Pass C) → Fits S Fine p → Above t u → Above t (join_at S u p)
  above_keeps t g u p f a = record {
    good = join_at-good u p f a.good;
    above = below_trans g a.good (join_at-good u p f a.good) a.above
        (join_at-grows u p f a.good);
  }

  above_fits : (t u : Tb) (i : ℕ) → i < S.size → Above t u → Each (Fits S Fine) (S.pass u i)
  above_fits t u i l a = L.pass_fits u i a.good l

  above_self : (t : Tb) → Good t → Above t t
  above_self t g = record { good = g; above = below_refl t g }

  pub join_all-grows : (t : Tb) (ps : List (Pass C)) → Each (Fits S Fine) ps → Good t → Below S t (join_all S t ps)
  join_all-grows t ps fs g = (join_all-keeps S (Above t) (Fits S Fine) (above_keeps t g) t ps fs (above_self t g)).above

  pub turn_grows : (t : Tb) (i : ℕ) → i < S.size → Good t → Below S t (turn S t i)
  turn_grows t i l g = (turn_keeps S (Above t) (Fits S Fine) (above_keeps t g) (above_fits t) t i l (above_self t g)).above

  pub sweep_grows : (t : Tb) → Good t → Below S t (sweep S t)
  sweep_grows t g = (sweep_keeps S (Above t) (Fits S Fine) (above_keeps t g) (above_fits t) t (above_self t g)).above

  pub sweeps_grows : (k : ℕ) (t : Tb) → Good t → Below S t (sweeps S k t)
  sweeps_grows k t g = (sweeps_keeps S (Above t) (Fits S Fine) (above_keeps t g) (above_fits t) k t (above_self t g)).above

  -- ---- what was joined in is covered from then on
  pub covered_above : {t u : Tb} {p : Pass C} → Good t → Good u → Fits S Fine p → Below S t u → Covered S t p → Covered S u p
  covered_above {t} {u} {p} gt gu f b c =
      let i : ℕ = p.target in
      record {
        holds = L.covers_trans (S.at u i) (S.at t i) p.cell (L.at_fine u i gu f.inside)
            (L.at_fine t i gt f.inside) f.fine (b.covered i f.inside) c.holds;
      }

  pub join_at-covers : (t : Tb) (p : Pass C) → Fits S Fine p → Good t → Covered S (join_at S t p) p
  join_at-covers t p f g = record {
    holds = subst (λ c. S.covers c p.cell ≡ true) (sym (join_at-target t p g f))
        (L.join_right (S.at t p.target) p.cell (L.at_fine t p.target g f.inside) f.fine);
  }

  each_joined : (t : Tb) (ps : List (Pass C)) → Each (Fits S Fine) ps → Good t → Each (Covered S (join_all S t ps)) ps
  unfolding join_all
  each_joined t [] none g = none
  each_joined t (p ∷ ps) (also f fs) g =
      let u : Tb = join_at S t p in
      let h : Good u = join_at-good t p f g in
      also (covered_above h (join_all-good u ps fs h) f (join_all-grows u ps fs h) (join_at-covers t p f g)) (each_joined u ps fs h)

  pub join_all-covers : (t : Tb) (ps : List (Pass C)) → Each (Fits S Fine) ps → Good t → all_covered S (join_all S t ps) ps ≡ true
  join_all-covers t ps fs g = covered_each S (join_all S t ps) ps (each_joined t ps fs g)

  -- ---- the bound from above: what is below a closed table stays below it
  record Under (u t : Tb) : Type 0 where
    good : Good t
    under : Below S t u

  -- a pass that fits and that the table u covers
  record Held (u : Tb) (p : Pass C) : Type 0 where
    fit : Fits S Fine p
    held : Covered S u p

  under_keeps : (u : Tb) → Good u → (t : Tb) (p : Pass C) → Held u p → Under u t → Under u (join_at S t p)
  under_keeps u g t p h b = record {
    good = join_at-good t p h.fit b.good;
    under = join_at-below t u p h.fit h.held b.good g b.under;
  }

  held_each : (u : Tb) {ps : List (Pass C)} → Each (Fits S Fine) ps → Each (Covered S u) ps → Each (Held u) ps
  held_each u none none = none
  held_each u (also f fs) (also c cs) = also (record { fit = f; held = c }) (held_each u fs cs)

  pub join_all-below : (t u : Tb) (ps : List (Pass C)) → Each (Fits S Fine) ps → all_covered S u ps ≡ true
      → Good t → Good u → Below S t u → Below S (join_all S t ps) u
  join_all-below t u ps fs cs gt gu b =
      (join_all-keeps S (Under u) (Held u) (under_keeps u gu) t ps (held_each u fs (each_covered S u ps cs))
      (record { good = gt; under = b })).under

  -- the passes of u are all covered in u, as in a closed table
  module _ (u : Tb) (gu : Good u) (closed : (i : ℕ) → i < S.size → all_covered S u (S.pass u i) ≡ true) where
    under_held : (t : Tb) (i : ℕ) → i < S.size → Under u t → Each (Held u) (S.pass t i)
    under_held t i l b = held_each u (L.pass_fits t i b.good l)
        (each_covered S u (S.pass t i) (L.pass_monotone t u i b.good gu l b.under (closed i l)))

    pub turn_below : (t : Tb) (i : ℕ) → i < S.size → Good t → Below S t u → Below S (turn S t i) u
    turn_below t i l g b =
        (turn_keeps S (Under u) (Held u) (under_keeps u gu) under_held t i l (record { good = g; under = b })).under

    pub sweep_below : (t : Tb) → Good t → Below S t u → Below S (sweep S t) u
    sweep_below t g b =
        (sweep_keeps S (Under u) (Held u) (under_keeps u gu) under_held t (record { good = g; under = b })).under

    pub sweeps_below : (k : ℕ) (t : Tb) → Good t → Below S t u → Below S (sweeps S k t) u
    sweeps_below k t g b =
        (sweeps_keeps S (Under u) (Held u) (under_keeps u gu) under_held k t (record { good = g; under = b })).under
