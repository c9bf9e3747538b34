-- Invariants of the loops that join passes in, one after another, and that give the cells their turns: what is left to do,
-- done to the table as it is now, gives what all of it gives from the table at first; and so with the flag that tells
-- whether something changed.
use mathlib.Core.Path.{◌≡◌, refl, sym, ◌∙◌, ap, ap₂}
use mathlib.Core.Bool.{Bool, false, ◌||◌, or-false}
use mathlib.Core.List.{List, [], ◌∷◌, ◌++◌}
use Prim.Native.Nat.{ℕ, ◌+◌, ◌-◌, ◌≤◌, ◌<◌}
use native.Mathlib.Omega.{arith}
use Rattle.flow.specs.Flow.{Pass, Space, join_at, changes_at, join_all, changes_all, turn, turn_changes, sweep_from, sweep_changes_from, sweep, sweep_changes}
use Rattle.flow.proofs.Rest.{join_all-nil, join_all-cons, join_all-append, changes_all-nil, changes_all-rest, changes_all-append-rest, sweep_from-end, sweep_from-rest, sweep_changes_from-end, sweep_changes_from-rest}

-- the table now, the passes left, and the flag, for passes ps₀ joined into t₀
pub record Joining {Tb C : Type 0} (S : Space Tb C) (t₀ : Tb) (ps₀ : List (Pass C)) (t : Tb) (ps : List (Pass C)) (f : Bool) : Type 0 where
  pub table : join_all S t ps ≡ join_all S t₀ ps₀
  pub flag : f || changes_all S t ps ≡ changes_all S t₀ ps₀

-- the next cell, the table now and the flag, for a sweep of t₀
pub record Sweeping {Tb C : Type 0} (S : Space Tb C) (t₀ : Tb) (i : ℕ) (t : Tb) (f : Bool) : Type 0 where
  pub table : sweep_from S t i (S.size - i) ≡ sweep S t₀
  pub flag : f || sweep_changes_from S t i (S.size - i) ≡ sweep_changes S t₀

module _ {Tb C : Type 0} {S : Space Tb C} where
  -- ---- passes: the beginning, one pass, several, the end
  pub joining_begins : (t : Tb) (ps : List (Pass C)) → Joining S t ps t ps false
  joining_begins t ps = record { table = refl; flag = refl }

  pub joining_one : {t₀ t u : Tb} {ps₀ ps : List (Pass C)} {p : Pass C} {f r : Bool} → Joining S t₀ ps₀ t (p ∷ ps) f
      → u ≡ join_at S t p → r ≡ changes_at S t p → Joining S t₀ ps₀ u ps (f || r)
  joining_one {t} {ps} {p} {f} j e c = record {
    table = ap (λ v. join_all S v ps) e ∙ sym (join_all-cons S t p ps) ∙ j.table;
    flag = ap₂ (λ b v. (f || b) || changes_all S v ps) c e ∙ sym (changes_all-rest S f t p ps) ∙ j.flag;
  }

  pub joining_some : {t₀ t u : Tb} {ps₀ ps : List (Pass C)} (qs : List (Pass C)) {f r : Bool}
      → Joining S t₀ ps₀ t (qs ++ ps) f → u ≡ join_all S t qs → r ≡ changes_all S t qs → Joining S t₀ ps₀ u ps (f || r)
  joining_some {t} {ps} qs {f} j e c = record {
    table = ap (λ v. join_all S v ps) e ∙ sym (join_all-append S t qs ps) ∙ j.table;
    flag = ap₂ (λ b v. (f || b) || changes_all S v ps) c e ∙ sym (changes_all-append-rest S f t qs ps) ∙ j.flag;
  }

  pub joining_table : {t₀ t : Tb} {ps₀ : List (Pass C)} {f : Bool} → Joining S t₀ ps₀ t [] f → t ≡ join_all S t₀ ps₀
  joining_table {t} j = sym (join_all-nil S t) ∙ j.table

  pub joining_flag : {t₀ t : Tb} {ps₀ : List (Pass C)} {f : Bool} → Joining S t₀ ps₀ t [] f → f ≡ changes_all S t₀ ps₀
  joining_flag {t} {f} j = sym (ap (λ b. f || b) (changes_all-nil S t) ∙ or-false f) ∙ j.flag

  -- ---- turns: the beginning, one turn, the end
  pub sweeping_begins : (t : Tb) → Sweeping S t 0 t false
  sweeping_begins t =
      let all : S.size - 0 ≡ S.size = omega arith in
      record { table = ap (sweep_from S t 0) all; flag = ap (sweep_changes_from S t 0) all }

  pub sweeping_turn : {t₀ t u : Tb} {i : ℕ} {f r : Bool} → i < S.size → Sweeping S t₀ i t f
      → u ≡ turn S t i → r ≡ turn_changes S t i → Sweeping S t₀ (i + 1) u (f || r)
  sweeping_turn {t} {i} {f} l s e c = record {
    table = ap (λ v. sweep_from S v (i + 1) (S.size - (i + 1))) e ∙ sym (sweep_from-rest S t i S.size l) ∙ s.table;
    flag = ap₂ (λ b v. (f || b) || sweep_changes_from S v (i + 1) (S.size - (i + 1))) c e
        ∙ sym (sweep_changes_from-rest S f t i S.size l) ∙ s.flag;
  }

  pub sweeping_table : {t₀ t : Tb} {i : ℕ} {f : Bool} → S.size ≤ i → Sweeping S t₀ i t f → t ≡ sweep S t₀
  sweeping_table {t} {i} l s = sym (sweep_from-end S t i S.size l) ∙ s.table

  pub sweeping_flag : {t₀ t : Tb} {i : ℕ} {f : Bool} → S.size ≤ i → Sweeping S t₀ i t f → f ≡ sweep_changes S t₀
  sweeping_flag {t} {i} {f} l s = sym (sweep_changes_from-end S f t i S.size l) ∙ s.flag
