-- What the operations of a space must obey, on tables with the layout `Good` and cells with the layout `Fine`.
use mathlib.Core.Path.{◌≡◌}
use mathlib.Core.Logic.{◌≢◌}
use mathlib.Core.Bool.{true, false}
use Prim.Native.Nat.{ℕ, ◌<◌}
use Rattle.flow.specs.Flow.{Pass, Space, Below, all_covered}
use Rattle.flow.proofs.Each.{Each}

-- a pass whose target is a cell of the table, and whose cell has the layout
pub record Fits {Tb C : Type 0} (S : Space Tb C) (Fine : C → Type 0) (p : Pass C) : Type 0 where
  pub inside : p.target < S.size
  pub fine : Fine p.cell

pub record Lawful {Tb C : Type 0} (S : Space Tb C) (Good : Tb → Type 0) (Fine : C → Type 0) : Type 0 where
  -- cells and tables
  pub at_fine : (t : Tb) (i : ℕ) → Good t → i < S.size → Fine (S.at t i)
  pub put_good : (t : Tb) (i : ℕ) (c : C) → Good t → i < S.size → Fine c → Good (S.put t i c)
  pub at_put_same : (t : Tb) (i : ℕ) (c : C) → Good t → i < S.size → Fine c → S.at (S.put t i c) i ≡ c
  pub at_put_other : (t : Tb) (i j : ℕ) (c : C) → Good t → i < S.size → j < S.size → Fine c → j ≢ i
      → S.at (S.put t i c) j ≡ S.at t j
  pub same_cells : (t u : Tb) → Good t → Good u → ((i : ℕ) → i < S.size → S.at t i ≡ S.at u i) → t ≡ u
  -- the order of cells
  pub covers_refl : (a : C) → Fine a → S.covers a a ≡ true
  pub covers_trans : (a b c : C) → Fine a → Fine b → Fine c → S.covers a b ≡ true → S.covers b c ≡ true
      → S.covers a c ≡ true
  pub covers_antisym : (a b : C) → Fine a → Fine b → S.covers a b ≡ true → S.covers b a ≡ true → a ≡ b
  -- the join is the least upper bound
  pub join_fine : (a b : C) → Fine a → Fine b → Fine (S.join a b)
  pub join_left : (a b : C) → Fine a → Fine b → S.covers (S.join a b) a ≡ true
  pub join_right : (a b : C) → Fine a → Fine b → S.covers (S.join a b) b ≡ true
  pub join_least : (a b c : C) → Fine a → Fine b → Fine c → S.covers c a ≡ true → S.covers c b ≡ true
      → S.covers c (S.join a b) ≡ true
  -- a join that changes the cell lowers its weight
  pub weight_falls : (a b : C) → Fine a → Fine b → S.covers a b ≡ false → S.weight (S.join a b) < S.weight a
  -- passes go to cells of the table, and a table that holds what its own cell passes on holds what that cell of a lower
  -- table passes on
  pub pass_fits : (t : Tb) (i : ℕ) → Good t → i < S.size → Each (Fits S Fine) (S.pass t i)
  pub pass_monotone : (t u : Tb) (i : ℕ) → Good t → Good u → i < S.size → Below S t u
      → all_covered S u (S.pass u i) ≡ true → all_covered S u (S.pass t i) ≡ true
