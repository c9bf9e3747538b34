-- The lowest one of a word from a place on, by its zeros at the low end. Assumes nothing.
use mathlib.Core.Path.{◌≡◌, sym, ap, ◌∙◌}
use mathlib.Core.Bool.{false}
use Prim.Native.Nat.{ℕ, ◌+◌, ◌-◌, ◌/◌, ◌%◌, ◌^◌, ◌≤◌, ◌<◌}
use native.Mathlib.Decide.{dec_lt}
use native.Mathlib.Nat.{lt_of_le_of_lt, div-le_self, zero-div}
use native.Mathlib.Omega.{arith}
use lib.Dec.{eqb}
use lib.Pow.{shr-shr}
use Rattle.std.specs.Int.{w64, trailing_zeros}
use Rattle.std.proofs.lemmas.Nat.Bits.{bit_at-trailing_zeros, bit_at_above}
use Rattle.bitset.specs.Words.{bit, Lowest}

module _ (w k : ℕ) where
  -- bit j of the word is bit j - k of what is from place k on
  above : (j : ℕ) → k ≤ j → w / 2 ^ j ≡ w / 2 ^ k / 2 ^ (j - k)
  above j l = ap (λ (x : ℕ). w / 2 ^ x) {x = j} {y = k + (j - k)} (omega arith) ∙ sym (shr-shr w k (j - k))

  -- nothing from place k on
  pub none_above : w / 2 ^ k ≡ 0 → (j : ℕ) → k ≤ j → bit w j ≡ false
  none_above e j l =
      ap (λ (x : ℕ). eqb (x % 2) 1) (above j l ∙ ap (λ (x : ℕ). x / 2 ^ (j - k)) e ∙ zero-div (2 ^ (j - k)))

  -- the zeros from place k on, and then a one
  pub lowest_some : w < 2 ^ 64 → (w / 2 ^ k ≡ 0 → ⊥) → Lowest w k (k + trailing_zeros w64 (w / 2 ^ k))
  lowest_some small some =
      let t = trailing_zeros w64 (w / 2 ^ k) in
      let low = bit_at-trailing_zeros w64 (w / 2 ^ k) (omega arith) (lt_of_le_of_lt (div-le_self w (2 ^ k)) small) in
      let one : w / 2 ^ (k + t) % 2 ≡ 1 = ap (λ (x : ℕ). x % 2) (sym (shr-shr w k t)) ∙ low.1 in
      record {
        low = omega arith;
        high = inside (k + t) one (dec_lt (k + t) 64);
        none =
            λ j g m.
            ap (λ (x : ℕ). eqb (x % 2) 1) (above j g) ∙ ap (λ (x : ℕ). eqb x 1) (low.2 (j - k) (omega arith));
        found = ap (λ (x : ℕ). eqb x 1) one;
      }
    where
      inside : (j : ℕ) → w / 2 ^ j % 2 ≡ 1 → Dec (j < 64) → j < 64
      inside j e (yes l) = l
      inside j e (no l) = let none : w / 2 ^ j % 2 ≡ 0 = bit_at_above w 64 j small (omega arith) in absurd (omega (arith, none, e))
