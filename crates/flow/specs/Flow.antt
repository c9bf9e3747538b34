-- A table of cells that is filled by sweeps up to its least fixed point (round-robin iteration, Gauss-Seidel). Each cell,
-- when its turn comes, passes something on to other cells, and there it is joined in.
use Rattle.std.specs.Prelude.{◌≡◌, Bool, true, false, not, ◌&&◌, ◌||◌, List, [], ◌∷◌, ℕ, zero, suc, ◌+◌, ◌<◌}
use Rattle.choice.specs.Choice.{pick}

-- What is passed on: to which cell, and what.
pub record Pass (C : Type 0) : Type 0 where
  pub target : ℕ
  pub cell : C

-- The operations on tables `Tb` of cells `C`.
pub record Space (Tb C : Type 0) : Type 0 where
  -- the number of cells
  pub size : ℕ
  -- the cell at an index, and the table with another cell there
  pub at : Tb → ℕ → C
  pub put : Tb → ℕ → C → Tb
  -- `covers a b`: a holds all that b says
  pub covers : C → C → Bool
  -- what holds all that either of two cells says
  pub join : C → C → C
  -- what the cell at an index of the whole table passes on; nothing for a cell that is not reached
  pub pass : Tb → ℕ → List (Pass C)
  -- how often, at most, joins can still change the cell
  pub weight : C → ℕ

module _ {Tb C : Type 0} (S : Space Tb C) where
  -- one pass joined in at its target; and whether that changes the table
  abbrev pub join_at : Tb → Pass C → Tb
  join_at t p = S.put t p.target (S.join (S.at t p.target) p.cell)

  abbrev pub changes_at : Tb → Pass C → Bool
  changes_at t p = not (S.covers (S.at t p.target) p.cell)

  -- passes joined in one after another
  unfoldable pub join_all : Tb → List (Pass C) → Tb
  join_all t [] = t
  join_all t (p ∷ ps) = join_all (join_at t p) ps

  unfoldable pub changes_all : Tb → List (Pass C) → Bool
  changes_all t [] = false
  changes_all t (p ∷ ps) = changes_at t p || changes_all (join_at t p) ps

  -- the turn of a cell: what it passes on is worked out from the table as its turn begins, and then joined in
  abbrev pub turn : Tb → ℕ → Tb
  turn t i = join_all t (S.pass t i)

  abbrev pub turn_changes : Tb → ℕ → Bool
  turn_changes t i = changes_all t (S.pass t i)

  -- the turns of n cells, from cell i on
  unfoldable pub sweep_from : Tb → ℕ → ℕ → Tb
  sweep_from t i zero = t
  sweep_from t i (suc n) = sweep_from (turn t i) (suc i) n

  unfoldable pub sweep_changes_from : Tb → ℕ → ℕ → Bool
  sweep_changes_from t i zero = false
  sweep_changes_from t i (suc n) = turn_changes t i || sweep_changes_from (turn t i) (suc i) n

  -- a sweep (request 2026-07 of document 02): the turn of every cell, once, in order; one that is not reached passes nothing on
  abbrev pub sweep : Tb → Tb
  sweep t = sweep_from t 0 S.size

  abbrev pub sweep_changes : Tb → Bool
  sweep_changes t = sweep_changes_from t 0 S.size

  -- k sweeps
  unfoldable pub sweeps : ℕ → Tb → Tb
  sweeps zero t = t
  sweeps (suc k) t = sweep (sweeps k t)

  -- how many sweeps change the table before the first that does not; at most n are counted
  unfoldable pub sweep_count : ℕ → Tb → ℕ
  sweep_count zero t = 0
  sweep_count (suc n) t =
      let later = sweep_count n (sweep t) in
      pick (sweep_changes t) (suc later) 0

  -- k sweeps, each of which changed the table, have made t of t₀
  pub record Filling (t₀ : Tb) (k : ℕ) (t : Tb) : Type 0 where
    pub swept : t ≡ sweeps k t₀
    pub changed : (j : ℕ) → j < k → sweep_changes (sweeps j t₀) ≡ true

  -- and one more changes nothing
  pub record Filled (t₀ : Tb) (k : ℕ) (t : Tb) : Type 0 where
    pub filling : Filling t₀ k t
    pub still : sweep_changes t ≡ false

  -- is each of the passes covered at its target?
  unfoldable pub all_covered : Tb → List (Pass C) → Bool
  all_covered t [] = true
  all_covered t (p ∷ ps) = S.covers (S.at t p.target) p.cell && all_covered t ps

  -- A post-fixed point: cell 0 covers the start, and all that a cell passes on is covered where it goes.
  pub record Closed (start : C) (t : Tb) : Type 0 where
    pub starts : S.covers (S.at t 0) start ≡ true
    pub passed : (i : ℕ) → i < S.size → all_covered t (S.pass t i) ≡ true

  -- each cell of u covers that of t
  pub record Below (t u : Tb) : Type 0 where
    pub covered : (i : ℕ) → i < S.size → S.covers (S.at u i) (S.at t i) ≡ true

  -- The least fixed point, among the tables that have the layout `Good`: closed, and below every closed table.
  pub record Least (Good : Tb → Type 0) (start : C) (t : Tb) : Type 0 where
    pub good : Good t
    pub closed : Closed start t
    pub lowest : (u : Tb) → Good u → Closed start u → Below t u

  -- the weights of the first n cells, and of all, added up
  unfoldable pub weights : Tb → ℕ → ℕ
  weights t zero = 0
  weights t (suc n) = weights t n + S.weight (S.at t n)

  abbrev pub sum_weights : Tb → ℕ
  sum_weights t = weights t S.size
