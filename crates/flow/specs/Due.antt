-- Sweeps that leave out turns which change nothing: which cells are due, and what makes a cell due again.
use Rattle.std.specs.Prelude.{◌≡◌, Bool, true, false, List, ◌++◌, ℕ, ◌<◌}
use Rattle.flow.specs.Flow.{Pass, Space, all_covered}

-- What a cell passes on, in two parts: what its own record tells, and what the rest of the table has a say in.
pub record Parts (Tb C : Type 0) : Type 0 where
  pub own : ℕ → C → List (Pass C)
  pub shared : Tb → ℕ → C → List (Pass C)

-- cell i of so many taken out of both sets
pub record Taken (size i : ℕ) (due₀ changed₀ due₁ changed₁ : ℕ → Bool) : Type 0 where
  pub due : (j : ℕ) → j < size → (j ≡ i → ⊥) → due₁ j ≡ due₀ j
  pub changed : (j : ℕ) → j < size → (j ≡ i → ⊥) → changed₁ j ≡ changed₀ j
  pub clear : changed₁ i ≡ false

module _ {Tb C : Type 0} (S : Space Tb C) (P : Parts Tb C) where
  -- they are all that it passes on
  pub record Split : Type 0 where
    pub parts : (t : Tb) (i : ℕ) → S.pass t i ≡ P.own i (S.at t i) ++ P.shared t i (S.at t i)

  -- The cells that are due, and among them those whose record changed since their last turn. What a cell that is not due
  -- passes on is covered, and so is the own part of one whose record did not change.
  pub record Settled (t : Tb) (due changed : ℕ → Bool) : Type 0 where
    pub within : (i : ℕ) → i < S.size → due i ≡ false → changed i ≡ false
    pub own : (i : ℕ) → i < S.size → changed i ≡ false → all_covered S t (P.own i (S.at t i)) ≡ true
    pub shared : (i : ℕ) → i < S.size → due i ≡ false → all_covered S t (P.shared t i (S.at t i)) ≡ true

  -- A table made another. A cell is due afterwards if it was, if its record changed, or if the rest of the table would now
  -- have it pass on something else.
  pub record Moved (t : Tb) (due₀ changed₀ : ℕ → Bool) (u : Tb) (due₁ changed₁ : ℕ → Bool) : Type 0 where
    pub due : (i : ℕ) → i < S.size → due₁ i ≡ false → due₀ i ≡ false
    pub changed : (i : ℕ) → i < S.size → changed₁ i ≡ false → (changed₀ i ≡ false) × (S.at u i ≡ S.at t i)
    pub within : (i : ℕ) → i < S.size → due₁ i ≡ false → changed₁ i ≡ changed₀ i
    pub shared : (i : ℕ) → i < S.size → due₁ i ≡ false → P.shared u i (S.at u i) ≡ P.shared t i (S.at t i)
