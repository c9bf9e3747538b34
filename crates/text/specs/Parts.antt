-- What the code does to the lent bytes that a text is put into.
use Rattle.std.specs.Prelude.{◌≡◌, List, ◌++◌, ℕ, ◌+◌, length, take, drop}

-- A text written at a place of `before`, which is left as `after`; the place behind it. What stands before and beyond stays.
pub record Written (before : List ℕ) (at : ℕ) (text : List ℕ) (after : List ℕ) (behind : ℕ) : Type 0 where
  pub line : take behind after ≡ take at before ++ text
  pub place : behind ≡ at + length text
  pub beyond : drop behind after ≡ drop behind before
  pub long : length after ≡ length before
