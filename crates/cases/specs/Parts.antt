-- What the expansion of a form does to the lent bytes.
use Rattle.std.specs.Prelude.{◌≡◌, List, ◌++◌, ℕ, length, drop}
use Rattle.io.specs.Counts.{IsPrefixLen}

-- The bytes put at the start of `before`, which is left as `after`; their count. What stands behind them stays.
pub record Expanded (bytes before after : List ℕ) (count : ℕ) : Type 0 where
  pub all : count ≡ length bytes
  pub placed : after ≡ bytes ++ drop count before
  pub fits : IsPrefixLen count after
