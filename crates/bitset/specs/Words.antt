-- What is found in one word.
use Rattle.std.specs.Prelude.{◌≡◌, Bool, true, false, List, ℕ, ◌/◌, ◌%◌, ◌^◌, ◌≤◌, ◌<◌, eqb}
use Rattle.bitset.specs.Bitset.{has}

-- is bit j of the word a one?
abbrev pub bit : ℕ → ℕ → Bool
bit w j = eqb (w / 2 ^ j % 2) 1

-- the place of the lowest one of the word from place k on
pub record Lowest (w k r : ℕ) : Type 0 where
  pub low : k ≤ r
  pub high : r < 64
  pub none : (j : ℕ) → k ≤ j → j < r → bit w j ≡ false
  pub found : bit w r ≡ true

-- the place of the highest one of the word up to place k
pub record Highest (w k r : ℕ) : Type 0 where
  pub high : r ≤ k
  pub none : (j : ℕ) → r < j → j ≤ k → bit w j ≡ false
  pub found : bit w r ≡ true

-- no number of the set is from `from` on and below `end`
pub record Clear (set : List ℕ) (from end : ℕ) : Type 0 where
  pub none : (j : ℕ) → from ≤ j → j < end → has set j ≡ false
