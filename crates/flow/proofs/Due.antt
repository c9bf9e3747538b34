-- A sweep may leave out the cells that are not due: the sets of such cells are kept up as the table widens.
use mathlib.Core.Path.{◌≡◌, sym, ◌∙◌, ap, subst, subst⁻¹}
use mathlib.Core.Bool.{Bool, true, false, not, ◌||◌, or-false, and-eq-true_iff}
use mathlib.Core.List.{List, ◌++◌}
use Prim.Native.Nat.{ℕ, zero, suc, ◌+◌, ◌-◌, ◌≤◌, ◌<◌}
use native.Mathlib.Decide.{ℕ_discrete}
use native.Mathlib.Omega.{arith}
use Rattle.flow.specs.Flow.{Pass, Space, join_all, changes_all, turn, all_covered, Below}
use Rattle.flow.specs.Due.{Parts, Taken, Split, Settled, Moved}
use Rattle.flow.proofs.Each.{Each, none, also, each_left, each_right}
use Rattle.flow.proofs.Lawful.{Lawful, Fits}
use Rattle.flow.proofs.Rest.{join_all-append, changes_all-append, all_covered-append}
use Rattle.flow.proofs.Loops.{Sweeping, sweeping_turn}
use Rattle.flow.proofs.Grows.{Covered, each_covered, covered_each, covered_above, join_all-covers, turn_good, turn_grows}
use Rattle.flow.proofs.Still.{join_all-still, changes_all-covered, turn_still, turn_changes-covered}

module _ {Tb C : Type 0} {S : Space Tb C} {Good : Tb → Type 0} {Fine : C → Type 0} (L : Lawful S Good Fine) where
  -- ---- passes that are covered
  -- stay so as the table widens
  pub covered_wider : {t u : Tb} → Good t → Good u → Below S t u → (ps : List (Pass C)) → Each (Fits S Fine) ps
      → all_covered S t ps ≡ true → all_covered S u ps ≡ true
  covered_wider {t} {u} gt gu b ps fs h = covered_each S u ps (go fs (each_covered S t ps h))
    where
      go : {qs : List (Pass C)} → Each (Fits S Fine) qs → Each (Covered S t) qs → Each (Covered S u) qs
      go none none = none
      go (also f fs) (also c cs) = also (covered_above L gt gu f b c) (go fs cs)

  -- and may be left out
  pub left_out_table : (t : Tb) (ps qs : List (Pass C)) → Good t → Each (Fits S Fine) ps → all_covered S t ps ≡ true
      → join_all S t (ps ++ qs) ≡ join_all S t qs
  left_out_table t ps qs g fs h =
      join_all-append S t ps qs ∙ ap (λ (u : Tb). join_all S u qs) (join_all-still L t ps g fs h)

  pub left_out_flag : (t : Tb) (ps qs : List (Pass C)) → Good t → Each (Fits S Fine) ps → all_covered S t ps ≡ true
      → changes_all S t (ps ++ qs) ≡ changes_all S t qs
  left_out_flag t ps qs g fs h =
      changes_all-append S t ps qs
      ∙ ap (λ (b : Bool). b || changes_all S (join_all S t ps) qs) (changes_all-covered L t ps g fs ∙ ap not h)
      ∙ ap (λ (u : Tb). changes_all S u qs) (join_all-still L t ps g fs h)

  -- ---- a sweep: turns that pass on what is covered may be left out
  pub sweeping_skip : {t₀ t : Tb} {f : Bool} (i k : ℕ) → Good t → i ≤ k → k ≤ S.size
      → ((j : ℕ) → i ≤ j → j < k → all_covered S t (S.pass t j) ≡ true) → Sweeping S t₀ i t f → Sweeping S t₀ k t f
  sweeping_skip {t₀} {t} {f} i k g l m quiet s =
      let all : i + (k - i) ≡ k = omega arith in
      subst (λ (n : ℕ). Sweeping S t₀ n t f) all (go (k - i) (omega arith))
    where
      go : (n : ℕ) → i + n ≤ k → Sweeping S t₀ (i + n) t f
      go zero h = let here : i ≡ i + 0 = omega arith in subst (λ (n : ℕ). Sweeping S t₀ n t f) here s
      go (suc n) h =
          let inside : i + n < S.size = omega arith in
          let q = quiet (i + n) (omega arith) (omega arith) in
          let next : i + n + 1 ≡ i + suc n = omega arith in
          subst (λ (j : ℕ). Sweeping S t₀ j t f) next
          (subst (λ (b : Bool). Sweeping S t₀ (i + n + 1) t b) (or-false f)
          (sweeping_turn inside (go n (omega arith)) (sym (turn_still L t (i + n) g inside q))
          (sym (turn_changes-covered L t (i + n) g inside ∙ ap not q))))

  -- ---- the cells that are due
  module _ {P : Parts Tb C} (split : Split S P) where
    own_fits : (t : Tb) (i : ℕ) → Good t → i < S.size → Each (Fits S Fine) (P.own i (S.at t i))
    own_fits t i g l = each_left (P.own i (S.at t i)) (P.shared t i (S.at t i))
        (subst (Each (Fits S Fine)) (split.parts t i) (L.pass_fits t i g l))

    shared_fits : (t : Tb) (i : ℕ) → Good t → i < S.size → Each (Fits S Fine) (P.shared t i (S.at t i))
    shared_fits t i g l = each_right (P.own i (S.at t i)) (P.shared t i (S.at t i))
        (subst (Each (Fits S Fine)) (split.parts t i) (L.pass_fits t i g l))

    -- what both parts pass on is covered exactly when what the cell passes on is
    both_covered : (t u : Tb) (i : ℕ) → all_covered S t (P.own i (S.at u i)) ≡ true
        → all_covered S t (P.shared u i (S.at u i)) ≡ true → all_covered S t (S.pass u i) ≡ true
    both_covered t u i h k =
        ap (all_covered S t) (split.parts u i) ∙ all_covered-append S t (P.own i (S.at u i)) (P.shared u i (S.at u i))
        ∙ (and-eq-true_iff (all_covered S t (P.own i (S.at u i))) (all_covered S t (P.shared u i (S.at u i)))).1 (h, k)

    each_part : (t u : Tb) (i : ℕ) → all_covered S t (S.pass u i) ≡ true
        → (all_covered S t (P.own i (S.at u i)) ≡ true) × (all_covered S t (P.shared u i (S.at u i)) ≡ true)
    each_part t u i h =
        (and-eq-true_iff (all_covered S t (P.own i (S.at u i))) (all_covered S t (P.shared u i (S.at u i)))).0
        (sym (ap (all_covered S t) (split.parts u i) ∙ all_covered-append S t (P.own i (S.at u i)) (P.shared u i (S.at u i))) ∙ h)

    -- a cell that is not due: its turn changes nothing
    pub settled_quiet : {t : Tb} {due changed : ℕ → Bool} → Settled S P t due changed → (i : ℕ) → i < S.size → due i ≡ false
        → all_covered S t (S.pass t i) ≡ true
    settled_quiet {t} s i l h = both_covered t t i (s.own i l (s.within i l h)) (s.shared i l h)

    -- a cell that was settled is so in a wider table, unless it is due there
    module _ {t u : Tb} {due changed due' changed' : ℕ → Bool} (gt : Good t) (gu : Good u) (b : Below S t u)
        (m : Moved S P t due changed u due' changed') (i : ℕ) (l : i < S.size) where
      own_stays : (changed i ≡ false → all_covered S t (P.own i (S.at t i)) ≡ true) → changed' i ≡ false
          → all_covered S u (P.own i (S.at u i)) ≡ true
      own_stays before h =
          let same = m.changed i l h in
          subst⁻¹ (λ (c : C). all_covered S u (P.own i c) ≡ true) same.1
          (covered_wider gt gu b (P.own i (S.at t i)) (own_fits t i gt l) (before same.0))

      shared_stays : (due i ≡ false → all_covered S t (P.shared t i (S.at t i)) ≡ true) → due' i ≡ false
          → all_covered S u (P.shared u i (S.at u i)) ≡ true
      shared_stays before h =
          ap (all_covered S u) (m.shared i l h)
          ∙ covered_wider gt gu b (P.shared t i (S.at t i)) (shared_fits t i gt l) (before (m.due i l h))

    pub moved_settled : {t u : Tb} {due changed due' changed' : ℕ → Bool} → Good t → Good u → Below S t u → Settled S P t due changed
        → Moved S P t due changed u due' changed' → Settled S P u due' changed'
    moved_settled gt gu b s m = record {
      within = λ i l h. m.within i l h ∙ s.within i l (m.due i l h);
      own = λ i l h. own_stays gt gu b m i l (s.own i l) h;
      shared = λ i l h. shared_stays gt gu b m i l (s.shared i l) h;
    }

    -- the turn of cell i, which is taken out as it begins
    pub turn_settled : {t u : Tb} {due changed due₁ changed₁ due' changed' : ℕ → Bool} (i : ℕ) → Good t → i < S.size → Settled S P t due changed
        → Taken S.size i due changed due₁ changed₁ → Moved S P t due₁ changed₁ u due' changed' → u ≡ turn S t i
        → Settled S P u due' changed'
    turn_settled {t} {u} {due} {changed} {due₁} {changed₁} {due'} {changed'} i g l s taken m e = record {
      within = λ j k h. m.within j k h ∙ inside j k (m.due j k h) (ℕ_discrete j i);
      own = λ j k h. owned j k h (ℕ_discrete j i);
      shared = λ j k h. shares j k h (ℕ_discrete j i);
    }
      where
        gu : Good u
        gu = subst⁻¹ Good e (turn_good L t i l g)

        wide : Below S t u
        wide = subst⁻¹ (Below S t) e (turn_grows L t i l g)

        -- what the cell passed on
        passed : all_covered S u (S.pass t i) ≡ true
        passed = subst⁻¹ (λ (v : Tb). all_covered S v (S.pass t i) ≡ true) e (join_all-covers L t (S.pass t i) (L.pass_fits t i g l) g)

        inside : (j : ℕ) → j < S.size → due₁ j ≡ false → Dec (j ≡ i) → changed₁ j ≡ false
        inside j k h (yes q) = ap changed₁ q ∙ taken.clear
        inside j k h (no n) = taken.changed j k n ∙ s.within j k (sym (taken.due j k n) ∙ h)

        owned : (j : ℕ) → j < S.size → changed' j ≡ false → Dec (j ≡ i) → all_covered S u (P.own j (S.at u j)) ≡ true
        owned j k h (yes q) =
            ap (λ (c : C). all_covered S u (P.own j c)) (m.changed j k h).1
            ∙ subst⁻¹ (λ (n : ℕ). all_covered S u (P.own n (S.at t n)) ≡ true) q (each_part u t i passed).0
        owned j k h (no n) = own_stays g gu wide m j k (λ c. s.own j k (sym (taken.changed j k n) ∙ c)) h

        shares : (j : ℕ) → j < S.size → due' j ≡ false → Dec (j ≡ i) → all_covered S u (P.shared u j (S.at u j)) ≡ true
        shares j k h (yes q) =
            ap (all_covered S u) (m.shared j k h)
            ∙ subst⁻¹ (λ (n : ℕ). all_covered S u (P.shared t n (S.at t n)) ≡ true) q (each_part u t i passed).1
        shares j k h (no n) = shared_stays g gu wide m j k (λ c. s.shared j k (sym (taken.due j k n) ∙ c)) h
