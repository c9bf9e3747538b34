-- The least fixed point is unique, and sweeps from a table that lies below every closed one come to rest there.
use mathlib.Core.Path.{◌≡◌, refl, sym, subst}
use mathlib.Core.Bool.{true, false}
use Prim.Native.Nat.{ℕ, zero, suc, ◌≤◌, ◌<◌}
use native.Mathlib.Decide.{ℕ_discrete}
use native.Mathlib.Omega.{arith}
use Rattle.flow.specs.Flow.{Space, sweep_from, sweep, sweep_changes, sweeps, Filled, Closed, Below, Least, sum_weights}
use Rattle.flow.proofs.Lawful.{Lawful}
use Rattle.flow.proofs.Rest.{sweep_from-zero}
use Rattle.flow.proofs.Grows.{below_antisym, sweep_good, sweeps_good, sweep_grows, sweeps_below}
use Rattle.flow.proofs.Still.{still_closed}
use Rattle.flow.proofs.Filling.{filled_sweeps}

-- where sweeps begin: a table that covers the start and lies below every closed table
pub record Begins {Tb C : Type 0} (S : Space Tb C) (Good : Tb → Type 0) (Fine : C → Type 0) (start : C) (t₀ : Tb) : Type 0 where
  pub good : Good t₀
  pub fine : Fine start
  pub starts : S.covers (S.at t₀ 0) start ≡ true
  pub lowest : (u : Tb) → Good u → Closed S start u → Below S t₀ u

module _ {Tb C : Type 0} {S : Space Tb C} {Good : Tb → Type 0} {Fine : C → Type 0} (L : Lawful S Good Fine) where
  -- ---- two least tables are equal
  pub least_unique : {start : C} {t u : Tb} → Least S Good start t → Least S Good start u → t ≡ u
  least_unique {t} {u} a b =
      below_antisym L a.good b.good (a.lowest u b.good b.closed) (b.lowest t a.good a.closed)

  -- ---- sweeps may begin with the start, put into a table whose every cell is covered by whatever has the layout
  pub begins_empty : (start : C) (t : Tb) → 0 < S.size → Fine start → Good t
      → ((i : ℕ) (c : C) → i < S.size → Fine c → S.covers c (S.at t i) ≡ true)
      → Begins S Good Fine start (S.put t 0 start)
  begins_empty start t some f g empty = record {
    good = L.put_good t 0 start g some f;
    fine = f;
    starts = subst (λ c. S.covers c start ≡ true) (sym (L.at_put_same t 0 start g some f)) (L.covers_refl start f);
    lowest = λ u gu c. record { covered = λ i l. go u gu c i l (ℕ_discrete i 0) };
  }
    where
      go : (u : Tb) → Good u → Closed S start u → (i : ℕ) → i < S.size → Dec (i ≡ 0)
          → S.covers (S.at u i) (S.at (S.put t 0 start) i) ≡ true
      go u gu c i l (yes e) = subst (λ j. S.covers (S.at u j) (S.at (S.put t 0 start) j) ≡ true) (sym e)
          (subst (λ x. S.covers (S.at u 0) x ≡ true) (sym (L.at_put_same t 0 start g some f)) c.starts)
      go u gu c i l (no n) = subst (λ x. S.covers (S.at u i) x ≡ true) (sym (L.at_put_other t 0 i start g some l f n))
          (empty i (S.at u i) l (L.at_fine u i gu l))

  -- ---- cell 0 goes on covering the start
  pub sweep_starts : (start : C) (t : Tb) → Fine start → Good t → S.covers (S.at t 0) start ≡ true
      → S.covers (S.at (sweep S t) 0) start ≡ true
  sweep_starts start t f g h = go S.size refl
    where
      u : Tb
      u = sweep S t

      go : (n : ℕ) → S.size ≡ n → S.covers (S.at (sweep S t) 0) start ≡ true
      go zero e = subst (λ n. S.covers (S.at (sweep_from S t 0 n) 0) start ≡ true) (sym e)
          (subst (λ v. S.covers (S.at v 0) start ≡ true) (sym (sweep_from-zero S t 0)) h)
      go (suc n) e =
          let l : 0 < S.size = omega arith in
          L.covers_trans (S.at u 0) (S.at t 0) start (L.at_fine u 0 (sweep_good L t g) l) (L.at_fine t 0 g l) f
          ((sweep_grows L t g).covered 0 l) h

  pub sweeps_starts : (start : C) (k : ℕ) (t : Tb) → Fine start → Good t → S.covers (S.at t 0) start ≡ true
      → S.covers (S.at (sweeps S k t) 0) start ≡ true
  unfolding sweeps
  sweeps_starts start zero t f g h = h
  sweeps_starts start (suc k) t f g h =
      sweep_starts start (sweeps S k t) f (sweeps_good L k t g) (sweeps_starts start k t f g h)

  -- ---- where a sweep changes nothing, there is the least table
  pub still_least : {start : C} {t₀ : Tb} (k : ℕ) → Begins S Good Fine start t₀ → sweep_changes S (sweeps S k t₀) ≡ false
      → Least S Good start (sweeps S k t₀)
  still_least {start} {t₀} k b h = record {
    good = sweeps_good L k t₀ b.good;
    closed = still_closed L start (sweeps S k t₀) (sweeps_good L k t₀ b.good)
        (sweeps_starts start k t₀ b.fine b.good b.starts) h;
    lowest = λ u gu c. sweeps_below L u gu c.passed k t₀ b.good (b.lowest u gu c);
  }

  pub filled_least : {start : C} {t₀ t : Tb} {k : ℕ} → Begins S Good Fine start t₀ → Filled S t₀ k t → Least S Good start t
  filled_least {start} {k} b f = subst (Least S Good start) (sym f.filling.swept)
      (still_least k b (subst (λ u. sweep_changes S u ≡ false) f.filling.swept f.still))

  -- as many sweeps as the sum of the weights, or more, make the least table
  pub sweeps_least : {start : C} {t₀ : Tb} (n : ℕ) → Begins S Good Fine start t₀ → sum_weights S t₀ ≤ n
      → Least S Good start (sweeps S n t₀)
  sweeps_least {t₀} n b l = filled_least b (filled_sweeps L t₀ n b.good l)
