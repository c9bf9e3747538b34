-- What changes nothing leaves the table as it is, and then every pass is covered; and the other way round.
use mathlib.Core.Path.{◌≡◌, refl, sym, ◌∙◌, ap, subst}
use mathlib.Core.Bool.{Bool, true, false, not, ◌&&◌, ◌||◌, and-eq-true_iff}
use mathlib.Core.List.{List, [], ◌∷◌}
use Prim.Native.Nat.{ℕ, zero, suc, ◌+◌, ◌≤◌, ◌<◌}
use native.Mathlib.Decide.{ℕ_discrete}
use native.Mathlib.Omega.{arith}
use Rattle.flow.specs.Flow.{Pass, Space, join_at, join_all, changes_all, turn, turn_changes, sweep_from, sweep_changes_from, sweep, sweep_changes, sweeps, all_covered, Closed}
use borrow.Author.Tests.{not-false}
use mathlib.Mathlib.Data.Bool.Basic.{or-eq-false-eq-eq-false-and-eq-false as or-false-iff}
use Rattle.flow.proofs.Each.{Each, none, also}
use Rattle.flow.proofs.Lawful.{Lawful, Fits}

module _ {Tb C : Type 0} {S : Space Tb C} {Good : Tb → Type 0} {Fine : C → Type 0} (L : Lawful S Good Fine) where
  -- ---- one join
  pub join_covered : (a b : C) → Fine a → Fine b → S.covers a b ≡ true → S.join a b ≡ a
  join_covered a b fa fb h = L.covers_antisym (S.join a b) a (L.join_fine a b fa fb) fa (L.join_left a b fa fb)
      (L.join_least a b a fa fb fa (L.covers_refl a fa) h)

  pub put_at : (t : Tb) (i : ℕ) → Good t → i < S.size → S.put t i (S.at t i) ≡ t
  put_at t i g l = L.same_cells (S.put t i (S.at t i)) t (L.put_good t i (S.at t i) g l (L.at_fine t i g l)) g
      (λ j k. go j k (ℕ_discrete j i))
    where
      go : (j : ℕ) → j < S.size → Dec (j ≡ i) → S.at (S.put t i (S.at t i)) j ≡ S.at t j
      go j k (yes e) = subst (λ n. S.at (S.put t i (S.at t i)) n ≡ S.at t n) (sym e)
          (L.at_put_same t i (S.at t i) g l (L.at_fine t i g l))
      go j k (no n) = L.at_put_other t i j (S.at t i) g l k (L.at_fine t i g l) n

  pub join_at-still : (t : Tb) (p : Pass C) → Good t → Fits S Fine p → S.covers (S.at t p.target) p.cell ≡ true
      → join_at S t p ≡ t
  join_at-still t p g f h =
      ap (S.put t p.target) (join_covered (S.at t p.target) p.cell (L.at_fine t p.target g f.inside) f.fine h)
      ∙ put_at t p.target g f.inside

  -- ---- passes: they change nothing exactly when all of them are covered
  pub join_all-still : (t : Tb) (ps : List (Pass C)) → Good t → Each (Fits S Fine) ps → all_covered S t ps ≡ true
      → join_all S t ps ≡ t
  unfolding join_all all_covered
  join_all-still t [] g none h = refl
  join_all-still t (p ∷ ps) g (also f fs) h =
      let both = (and-eq-true_iff (S.covers (S.at t p.target) p.cell) (all_covered S t ps)).0 h in
      ap (λ u. join_all S u ps) (join_at-still t p g f both.0) ∙ join_all-still t ps g fs both.1

  pub changes_all-covered : (t : Tb) (ps : List (Pass C)) → Good t → Each (Fits S Fine) ps
      → changes_all S t ps ≡ not (all_covered S t ps)
  unfolding changes_all all_covered
  changes_all-covered t [] g none = refl
  changes_all-covered t (p ∷ ps) g (also f fs) =
      go (S.covers (S.at t p.target) p.cell) refl (changes_all-covered t ps g fs)
    where
      here : Bool
      here = S.covers (S.at t p.target) p.cell

      go : (b : Bool) → here ≡ b → changes_all S t ps ≡ not (all_covered S t ps)
          → (not here || changes_all S (join_at S t p) ps) ≡ not (here && all_covered S t ps)
      go true e later = ap (λ b. not b || changes_all S (join_at S t p) ps) e
          ∙ ap (λ u. changes_all S u ps) (join_at-still t p g f e) ∙ later ∙ sym (ap (λ b. not (b && all_covered S t ps)) e)
      go false e later =
          ap (λ b. not b || changes_all S (join_at S t p) ps) e ∙ sym (ap (λ b. not (b && all_covered S t ps)) e)

  -- ---- a turn
  pub turn_still : (t : Tb) (i : ℕ) → Good t → i < S.size → all_covered S t (S.pass t i) ≡ true → turn S t i ≡ t
  turn_still t i g l h = join_all-still t (S.pass t i) g (L.pass_fits t i g l) h

  pub turn_changes-covered : (t : Tb) (i : ℕ) → Good t → i < S.size
      → turn_changes S t i ≡ not (all_covered S t (S.pass t i))
  turn_changes-covered t i g l = changes_all-covered t (S.pass t i) g (L.pass_fits t i g l)

  pub turn_covers : (t : Tb) (i : ℕ) → Good t → i < S.size → turn_changes S t i ≡ false
      → all_covered S t (S.pass t i) ≡ true
  turn_covers t i g l h = not-false (all_covered S t (S.pass t i)) (sym (turn_changes-covered t i g l) ∙ h)

  -- ---- a sweep
  -- nothing changes in the first turn, nor in the rest, which begins with the same table
  first_still : (t : Tb) (i n : ℕ) → sweep_changes_from S t i (suc n) ≡ false → turn_changes S t i ≡ false
  unfolding sweep_changes_from
  first_still t i n h = ((or-false-iff (turn_changes S t i) (sweep_changes_from S (turn S t i) (suc i) n)).0 h).0

  rest_still : (t : Tb) (i n : ℕ) → Good t → i < S.size → sweep_changes_from S t i (suc n) ≡ false
      → sweep_changes_from S t (suc i) n ≡ false
  unfolding sweep_changes_from
  rest_still t i n g l h =
      subst (λ u. sweep_changes_from S u (suc i) n ≡ false) (turn_still t i g l (turn_covers t i g l (first_still t i n h)))
      ((or-false-iff (turn_changes S t i) (sweep_changes_from S (turn S t i) (suc i) n)).0 h).1

  pub sweep_from-still : (t : Tb) (i n : ℕ) → i + n ≤ S.size → Good t → sweep_changes_from S t i n ≡ false
      → sweep_from S t i n ≡ t
  unfolding sweep_from
  sweep_from-still t i zero l g h = refl
  sweep_from-still t i (suc n) l g h =
      let m : i < S.size = omega arith in
      ap (λ u. sweep_from S u (suc i) n) (turn_still t i g m (turn_covers t i g m (first_still t i n h)))
      ∙ sweep_from-still t (suc i) n (omega arith) g (rest_still t i n g m h)

  pub sweep_from-covers : (t : Tb) (i n : ℕ) → i + n ≤ S.size → Good t → sweep_changes_from S t i n ≡ false
      → (j : ℕ) → i ≤ j → j < i + n → all_covered S t (S.pass t j) ≡ true
  sweep_from-covers t i zero l g h j a b = absurd (omega arith)
  sweep_from-covers t i (suc n) l g h j a b = go (ℕ_discrete j i) (λ c. sweep_from-covers t (suc i) n (omega arith) g
      (rest_still t i n g (omega arith) h) j c (omega arith))
    where
      go : Dec (j ≡ i) → (suc i ≤ j → all_covered S t (S.pass t j) ≡ true) → all_covered S t (S.pass t j) ≡ true
      go (yes e) later = subst (λ k. all_covered S t (S.pass t k) ≡ true) (sym e)
          (turn_covers t i g (omega arith) (first_still t i n h))
      go (no ne) later = later (omega arith)

  pub sweep_still : (t : Tb) → Good t → sweep_changes S t ≡ false → sweep S t ≡ t
  sweep_still t g h = sweep_from-still t 0 S.size (omega arith) g h

  pub sweep_covers : (t : Tb) → Good t → sweep_changes S t ≡ false
      → (i : ℕ) → i < S.size → all_covered S t (S.pass t i) ≡ true
  sweep_covers t g h i l = sweep_from-covers t 0 S.size (omega arith) g h i (omega arith) (omega arith)

  pub still_closed : (start : C) (t : Tb) → Good t → S.covers (S.at t 0) start ≡ true → sweep_changes S t ≡ false
      → Closed S start t
  still_closed start t g c h = record { starts = c; passed = sweep_covers t g h }

  -- where all passes are covered, a sweep changes nothing
  pub covered_still : (t : Tb) (i n : ℕ) → i + n ≤ S.size → Good t
      → ((j : ℕ) → j < S.size → all_covered S t (S.pass t j) ≡ true) → sweep_changes_from S t i n ≡ false
  unfolding sweep_changes_from
  covered_still t i zero l g h = refl
  covered_still t i (suc n) l g h =
      let m : i < S.size = omega arith in
      (or-false-iff (turn_changes S t i) (sweep_changes_from S (turn S t i) (suc i) n)).1 (
        turn_changes-covered t i g m ∙ ap not (h i m),
        subst (λ u. sweep_changes_from S u (suc i) n ≡ false) (sym (turn_still t i g m (h i m)))
            (covered_still t (suc i) n (omega arith) g h),
      )

  pub closed_still : (start : C) (t : Tb) → Good t → Closed S start t → sweep_changes S t ≡ false
  closed_still start t g c = covered_still t 0 S.size (omega arith) g c.passed

  -- after a sweep that changes nothing, more sweeps leave the table
  pub sweeps_still : (k : ℕ) (t : Tb) → Good t → sweep_changes S t ≡ false → sweeps S k t ≡ t
  unfolding sweeps
  sweeps_still zero t g h = refl
  sweeps_still (suc k) t g h = ap (sweep S) (sweeps_still k t g h) ∙ sweep_still t g h
