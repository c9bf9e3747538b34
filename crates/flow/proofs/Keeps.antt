-- Induction over joins: a property of tables that each join keeps is kept by passes joined in, by turns and by sweeps.
use mathlib.Core.List.{List, [], ◌∷◌}
use Prim.Native.Nat.{ℕ, zero, suc, ◌+◌, ◌≤◌, ◌<◌}
use native.Mathlib.Omega.{arith}
use Rattle.flow.specs.Flow.{Pass, Space, join_at, join_all, turn, sweep_from, sweep, sweeps}
use Rattle.flow.proofs.Each.{Each, none, also, each_all}

module _ {Tb C : Type 0} (S : Space Tb C) (P : Tb → Type 0) (Q : Pass C → Type 0)
    (keeps : (t : Tb) (p : Pass C) → Q p → P t → P (join_at S t p)) where
  pub join_all-keeps : (t : Tb) (ps : List (Pass C)) → Each Q ps → P t → P (join_all S t ps)
  unfolding join_all
  join_all-keeps t [] none h = h
  join_all-keeps t (p ∷ ps) (also q qs) h = join_all-keeps (join_at S t p) ps qs (keeps t p q h)

  module _ (passes : (t : Tb) (i : ℕ) → i < S.size → P t → Each Q (S.pass t i)) where
    pub turn_keeps : (t : Tb) (i : ℕ) → i < S.size → P t → P (turn S t i)
    turn_keeps t i l h = join_all-keeps t (S.pass t i) (passes t i l h) h

    pub sweep_from-keeps : (t : Tb) (i n : ℕ) → i + n ≤ S.size → P t → P (sweep_from S t i n)
    unfolding sweep_from
    sweep_from-keeps t i zero l h = h
    sweep_from-keeps t i (suc n) l h =
        sweep_from-keeps (turn S t i) (suc i) n (omega arith) (turn_keeps t i (omega arith) h)

    pub sweep_keeps : (t : Tb) → P t → P (sweep S t)
    sweep_keeps t h = sweep_from-keeps t 0 S.size (omega arith) h

    pub sweeps_keeps : (k : ℕ) (t : Tb) → P t → P (sweeps S k t)
    unfolding sweeps
    sweeps_keeps zero t h = h
    sweeps_keeps (suc k) t h = sweep_keeps (sweeps S k t) (sweeps_keeps k t h)

-- the same for a property that a join keeps whatever is passed, as the length of a list
module _ {Tb C : Type 0} (S : Space Tb C) (P : Tb → Type 0)
    (keeps : (t : Tb) (p : Pass C) → P t → P (join_at S t p)) where
  Any : Pass C → Type 0
  Any p = Unit {0}

  any : (ps : List (Pass C)) → Each Any ps
  unfolding Any
  any ps = each_all (λ p. tt) ps

  pub join_all-keeps-all : (t : Tb) (ps : List (Pass C)) → P t → P (join_all S t ps)
  join_all-keeps-all t ps h = join_all-keeps S P Any (λ u p q. keeps u p) t ps (any ps) h

  pub sweep_from-keeps-all : (t : Tb) (i n : ℕ) → P t → P (sweep_from S t i n)
  unfolding sweep_from
  sweep_from-keeps-all t i zero h = h
  sweep_from-keeps-all t i (suc n) h =
      sweep_from-keeps-all (turn S t i) (suc i) n (join_all-keeps-all t (S.pass t i) h)

  pub sweep_keeps_all : (t : Tb) → P t → P (sweep S t)
  sweep_keeps_all t h = sweep_from-keeps-all t 0 S.size h

  pub sweeps_keeps_all : (k : ℕ) (t : Tb) → P t → P (sweeps S k t)
  unfolding sweeps
  sweeps_keeps_all zero t h = h
  sweeps_keeps_all (suc k) t h = sweep_keeps_all (sweeps S k t) (sweeps_keeps_all k t h)
