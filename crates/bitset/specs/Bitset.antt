-- Sets of numbers as bits of words of 64 bits.
use Rattle.std.specs.Prelude.{◌≡◌, Bool, true, false, ◌||◌, List, ℕ, ◌+◌, ◌-◌, ◌*◌, ◌/◌, ◌%◌, ◌^◌, ◌≤◌, ◌<◌, eqb, length, get_or}

-- number i is in the set when the bit of weight 2^(i mod 64) in its word i/64 is one
unfoldable pub has : List ℕ → ℕ → Bool
has set i = eqb (get_or set (i / 64) 0 / 2 ^ (i % 64) % 2) 1

-- number i is put in, and no other number changes
pub record Put (before : List ℕ) (i : ℕ) (after : List ℕ) : Type 0 where
  pub long : length after ≡ length before
  pub here : has after i ≡ true
  pub others : (j : ℕ) → (j ≡ i → ⊥) → has after j ≡ has before j

-- number i is taken out, and no other number changes
pub record Taken (before : List ℕ) (i : ℕ) (after : List ℕ) : Type 0 where
  pub long : length after ≡ length before
  pub here : has after i ≡ false
  pub others : (j : ℕ) → (j ≡ i → ⊥) → has after j ≡ has before j

-- the least number of the set from `from` on, below `end`; `end` where there is none
pub record Next (set : List ℕ) (from end r : ℕ) : Type 0 where
  pub low : from ≤ r
  pub high : r ≤ end
  pub none : (j : ℕ) → from ≤ j → j < r → has set j ≡ false
  pub found : r < end → has set r ≡ true

-- one more than the greatest number of the set from `from` on, below `end`; `from` where there is none
pub record Last (set : List ℕ) (from end r : ℕ) : Type 0 where
  pub low : from ≤ r
  pub high : r ≤ end
  pub none : (j : ℕ) → r ≤ j → j < end → has set j ≡ false
  pub found : from < r → has set (r - 1) ≡ true

-- the numbers of the `count` words from word `at` on are joined by those of the words `off` words further on; no other
-- number changes
pub record United (before : List ℕ) (at off count : ℕ) (after : List ℕ) : Type 0 where
  pub long : length after ≡ length before
  pub inside : (j : ℕ) → at * 64 ≤ j → j < (at + count) * 64 → has after j ≡ (has before j || has before (j + off * 64))
  pub below : (j : ℕ) → j < at * 64 → has after j ≡ has before j
  pub above : (j : ℕ) → (at + count) * 64 ≤ j → has after j ≡ has before j
