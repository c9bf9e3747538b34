-- The loop that sweeps a table until nothing changes: its invariant, how many sweeps it takes at most, and what it computes.
use mathlib.Core.Path.{◌≡◌, refl, sym, ◌∙◌, ap, subst}
use mathlib.Core.Bool.{Bool, true, false, true≢false}
use mathlib.Core.Logic.{◌≢◌}
use Prim.Native.Nat.{ℕ, zero, suc, ◌+◌, ◌-◌, ◌≤◌, ◌<◌}
use native.Mathlib.Decide.{ℕ_discrete}
use native.Mathlib.Nat.{le_trans}
use native.Mathlib.Omega.{arith}
use Rattle.choice.specs.Choice.{pick}
use Rattle.flow.specs.Flow.{Space, sweep, sweep_changes, sweeps, sweep_count, Filling, Filled, sum_weights}
use Rattle.flow.proofs.Lawful.{Lawful}
use Rattle.flow.proofs.Rest.{sweeps_zero, sweeps_suc, sweeps_first, sweeps_add}
use Rattle.flow.proofs.Grows.{sweep_good, sweeps_good}
use Rattle.flow.proofs.Still.{sweep_still, sweeps_still}
use Rattle.flow.proofs.Weights.{sweep_falls}

module _ {Tb C : Type 0} {S : Space Tb C} where
  -- ---- the loop: the beginning, and one sweep that changes something
  pub filling_begins : (t : Tb) → Filling S t 0 t
  filling_begins t = record { swept = sym (sweeps_zero S t); changed = λ j l. absurd (omega arith) }

  pub filling_sweep : {t₀ t u : Tb} {k : ℕ} → Filling S t₀ k t → u ≡ sweep S t → sweep_changes S t ≡ true
      → Filling S t₀ (k + 1) u
  filling_sweep {t₀} {k} f e h = record {
    swept = e ∙ ap (sweep S) f.swept ∙ sym (sweeps_suc S k t₀) ∙ ap (λ n. sweeps S n t₀) next;
    changed = λ j l. go j l (ℕ_discrete j k);
  }
    where
      next : suc k ≡ k + 1
      next = omega arith

      go : (j : ℕ) → j < k + 1 → Dec (j ≡ k) → sweep_changes S (sweeps S j t₀) ≡ true
      go j l (yes q) = subst (λ n. sweep_changes S (sweeps S n t₀) ≡ true) (sym q)
          (subst (λ v. sweep_changes S v ≡ true) f.swept h)
      go j l (no n) = f.changed j (omega arith)

  -- a first sweep that changes something, before the others
  pub filling_sooner : {t₀ t : Tb} {k : ℕ} → sweep_changes S t₀ ≡ true → Filling S (sweep S t₀) k t → Filling S t₀ (suc k) t
  filling_sooner {t₀} {k} h f = record { swept = f.swept ∙ sym (sweeps_first S k t₀); changed = go }
    where
      go : (j : ℕ) → j < suc k → sweep_changes S (sweeps S j t₀) ≡ true
      go zero l = subst (λ u. sweep_changes S u ≡ true) (sym (sweeps_zero S t₀)) h
      go (suc j) l = subst (λ u. sweep_changes S u ≡ true) (sym (sweeps_first S j t₀)) (f.changed j (omega arith))

  pub filled_sooner : {t₀ t : Tb} {k : ℕ} → sweep_changes S t₀ ≡ true → Filled S (sweep S t₀) k t → Filled S t₀ (suc k) t
  filled_sooner h f = record { filling = filling_sooner h f.filling; still = f.still }

  filled_at_once : (t : Tb) → sweep_changes S t ≡ false → Filled S t 0 (sweeps S 0 t)
  unfolding sweeps
  filled_at_once t h = record { filling = filling_begins t; still = h }

  -- ---- the count of sweeps and the table are determined
  not_before : {t₀ t u : Tb} {j k : ℕ} → Filled S t₀ j t → Filled S t₀ k u → ¬ (j < k)
  not_before {j} f g l = true≢false (sym (g.filling.changed j l)
      ∙ subst (λ v. sweep_changes S v ≡ false) f.filling.swept f.still)

  pub filled_count_unique : {t₀ t u : Tb} {j k : ℕ} → Filled S t₀ j t → Filled S t₀ k u → j ≡ k
  filled_count_unique {j} {k} f g =
      let up : ¬ (j < k) = not_before f g in
      let down : ¬ (k < j) = not_before g f in
      omega arith

  pub filled_table_unique : {t₀ t u : Tb} {j k : ℕ} → Filled S t₀ j t → Filled S t₀ k u → t ≡ u
  filled_table_unique {t₀} f g =
      f.filling.swept ∙ ap (λ n. sweeps S n t₀) (filled_count_unique f g) ∙ sym g.filling.swept

module _ {Tb C : Type 0} {S : Space Tb C} {Good : Tb → Type 0} {Fine : C → Type 0} (L : Lawful S Good Fine) where
  pub filling_good : {t₀ t : Tb} {k : ℕ} → Good t₀ → Filling S t₀ k t → Good t
  filling_good {t₀} {k} g f = subst Good (sym f.swept) (sweeps_good L k t₀ g)

  -- ---- the loop's end: a sweep that changes nothing
  pub filling_ends : {t₀ t u : Tb} {k : ℕ} → Good t₀ → Filling S t₀ k t → u ≡ sweep S t → sweep_changes S t ≡ false
      → Filled S t₀ k u
  filling_ends {t₀} {t} {k} g f e h = subst (Filled S t₀ k) (sym (e ∙ sweep_still L t (filling_good g f) h))
      (record { filling = f; still = h })

  -- ---- the loop's measure, and the bound of its count: each sweep that changes the table takes from the sum of the weights
  pub filling_falls : {t₀ t u : Tb} {k : ℕ} → Good t₀ → Filling S t₀ k t → u ≡ sweep S t → sweep_changes S t ≡ true
      → sum_weights S u < sum_weights S t
  filling_falls {t} g f e h =
      subst (λ v. sum_weights S v < sum_weights S t) (sym e) (sweep_falls L t (filling_good g f) h)

  sweeps_weights : (t₀ : Tb) (k : ℕ) → Good t₀ → ((j : ℕ) → j < k → sweep_changes S (sweeps S j t₀) ≡ true)
      → k + sum_weights S (sweeps S k t₀) ≤ sum_weights S t₀
  unfolding sweeps
  sweeps_weights t₀ zero g h = omega arith
  sweeps_weights t₀ (suc k) g h =
      let before : k + sum_weights S (sweeps S k t₀) ≤ sum_weights S t₀ = sweeps_weights t₀ k g (λ j l. h j (omega arith)) in
      let last : sum_weights S (sweep S (sweeps S k t₀)) < sum_weights S (sweeps S k t₀) =
      sweep_falls L (sweeps S k t₀) (sweeps_good L k t₀ g) (h k (omega arith)) in
      omega arith

  pub filling_bound : {t₀ t : Tb} {k : ℕ} → Good t₀ → Filling S t₀ k t → k + sum_weights S t ≤ sum_weights S t₀
  filling_bound {t₀} {k} g f =
      subst (λ u. k + sum_weights S u ≤ sum_weights S t₀) (sym f.swept) (sweeps_weights t₀ k g f.changed)

  pub filled_bound : {t₀ t : Tb} {k : ℕ} → Good t₀ → Filled S t₀ k t → k ≤ sum_weights S t₀
  filled_bound g f = omega (arith, filling_bound g f.filling)

  -- ---- told of the tables: each of the sweeps left another table than it found, and one more leaves it as it is
  pub filled_changed : {t₀ t : Tb} {k : ℕ} → Good t₀ → Filled S t₀ k t → (j : ℕ) → j < k → sweep S (sweeps S j t₀) ≢ sweeps S j t₀
  filled_changed {t₀} g f j l same =
      omega (arith, ap (sum_weights S) same, sweep_falls L (sweeps S j t₀) (sweeps_good L j t₀ g) (f.filling.changed j l))

  pub filled_still : {t₀ t : Tb} {k : ℕ} → Good t₀ → Filled S t₀ k t → sweep S t ≡ t
  filled_still {t} g f = sweep_still L t (filling_good g f.filling) f.still

  -- ---- the count and the table can be computed: as many sweeps as the sum of the weights are enough
  weightless_still : (t : Tb) → Good t → sum_weights S t ≤ 0 → sweep_changes S t ≡ false
  weightless_still t g l = go (sweep_changes S t) refl
    where
      go : (b : Bool) → sweep_changes S t ≡ b → sweep_changes S t ≡ false
      go false e = e
      go true e = absurd (omega (arith, sweep_falls L t g e))

  pub count_filled : (n : ℕ) (t : Tb) → Good t → sum_weights S t ≤ n
      → Filled S t (sweep_count S n t) (sweeps S (sweep_count S n t) t)
  unfolding sweep_count
  count_filled zero t g l = filled_at_once t (weightless_still t g l)
  count_filled (suc n) t g l = go (sweep_changes S t) refl (λ m. count_filled n (sweep S t) (sweep_good L t g) m)
    where
      c : ℕ
      c = sweep_count S n (sweep S t)

      go : (b : Bool) → sweep_changes S t ≡ b
          → (sum_weights S (sweep S t) ≤ n → Filled S (sweep S t) c (sweeps S c (sweep S t)))
          → Filled S t (pick b (suc c) 0) (sweeps S (pick b (suc c) 0) t)
      go true e later = subst (Filled S t (suc c)) (sym (sweeps_first S c t))
          (filled_sooner e (later (omega (arith, sweep_falls L t g e))))
      go false e later = filled_at_once t e

  -- once a sweep has changed nothing, more sweeps change nothing
  pub sweeps_rest : (t₀ : Tb) (k n : ℕ) → Good t₀ → sweep_changes S (sweeps S k t₀) ≡ false → k ≤ n
      → sweeps S n t₀ ≡ sweeps S k t₀
  sweeps_rest t₀ k n g h l =
      let more : n ≡ (n - k) + k = omega arith in
      ap (λ m. sweeps S m t₀) more ∙ sweeps_add S (n - k) k t₀
      ∙ sweeps_still L (n - k) (sweeps S k t₀) (sweeps_good L k t₀ g) h

  pub filled_sweeps : (t₀ : Tb) (n : ℕ) → Good t₀ → sum_weights S t₀ ≤ n → Filled S t₀ (sweep_count S n t₀) (sweeps S n t₀)
  filled_sweeps t₀ n g l =
      let k : ℕ = sweep_count S n t₀ in
      let f : Filled S t₀ k (sweeps S k t₀) = count_filled n t₀ g l in
      subst (Filled S t₀ k) (sym (sweeps_rest t₀ k n g f.still (le_trans (filled_bound g f) l))) f
