-- The highest one of a word up to a place, by its zeros at the high end. Assumes nothing.
use mathlib.Core.Path.{◌≡◌, sym, ap, ◌∙◌, subst}
use mathlib.Core.Bool.{false}
use Prim.Native.Nat.{ℕ, ◌+◌, ◌-◌, ◌*◌, ◌/◌, ◌%◌, ◌^◌, ◌≤◌, ◌<◌}
use native.Mathlib.Decide.{dec_lt}
use native.Mathlib.Nat.{div-eq_of_lt-le, lt_of_lt_of_le, mod-lt}
use native.Mathlib.Numerals.{add-one}
use native.Mathlib.Omega.{arith}
use lib.Count.{count_leading_zeros, leading_top}
use lib.Dec.{eqb}
use lib.Pow.{pow_mono, pow_pos, pow-add, field, mod-mod-pow, shl-shr}
use Rattle.std.proofs.lemmas.Nat.Bits.{bit_at_above}
use Rattle.bitset.specs.Words.{bit, Highest}
use Rattle.bitset.proofs.Bits.{zero_bit}

module _ (w k : ℕ) where
  -- the bits of a word up to place k
  abbrev lows : ℕ
  lows = w % 2 ^ (k + 1)

  bit_lows : (j : ℕ) → j ≤ k → bit w j ≡ bit lows j
  bit_lows j h =
      let i = k - j in
      let e : lows / 2 ^ j ≡ w / 2 ^ j % 2 ^ (i + 1) =
      ap (λ (x : ℕ). w % 2 ^ x / 2 ^ j) {x = k + 1} {y = i + 1 + j} (omega arith) ∙ field w (i + 1) j in
      ap (λ (x : ℕ). eqb x 1) (sym (ap (λ (x : ℕ). x % 2) e ∙ mod-mod-pow (w / 2 ^ j) i 1))

  -- nothing up to place k
  pub none_below : lows ≡ 0 → (j : ℕ) → j ≤ k → bit w j ≡ false
  none_below e j h = bit_lows j h ∙ ap (λ (x : ℕ). bit x j) e ∙ zero_bit j

  -- they have m + 1 digits
  highest_is : (m : ℕ) → lows < 2 ^ (m + 1) → 2 ^ m ≤ lows → Highest w k m
  highest_is m small large =
      let short = high (dec_lt m (k + 1)) in
      let one : lows / 2 ^ m ≡ 1 = div-eq_of_lt-le (2 ^ m) (omega (arith, large)) (omega (arith, pow-add 2 m 1, small)) in
      record {
        high = short;
        none = λ j l h. bit_lows j h ∙ ap (λ (x : ℕ). eqb x 1) (bit_at_above lows (m + 1) j small (omega arith));
        found = bit_lows m short ∙ ap (λ (x : ℕ). eqb (x % 2) 1) one;
      }
    where
      high : Dec (m < k + 1) → m ≤ k
      high (yes h) = omega arith
      high (no h) =
          let more : k + 1 ≤ m = omega arith in
          absurd (omega (arith, pow_mono more, mod-lt w (pow_pos (k + 1)), large))

  module _ (inside : k < 64) where
    -- shifted up and down again
    abbrev cut : ℕ
    cut = w * 2 ^ (63 - k) % 2 ^ 64 / 2 ^ (63 - k)

    pub cut_is : cut ≡ lows
    cut_is =
        ap (λ (x : ℕ). w * 2 ^ (63 - k) % 2 ^ x / 2 ^ (63 - k)) {x = 64} {y = k + 1 + (63 - k)} (omega arith)
        ∙ field (w * 2 ^ (63 - k)) (k + 1) (63 - k) ∙ ap (λ (x : ℕ). x % 2 ^ (k + 1)) (shl-shr w (63 - k))

    pub highest_some : (cut ≡ 0 → ⊥) → Highest w k (63 - count_leading_zeros 64 cut)
    highest_some some =
        let less : cut < 2 ^ 64 =
        subst (λ (x : ℕ). x < 2 ^ 64) (sym cut_is) (lt_of_lt_of_le (mod-lt w (pow_pos (k + 1))) (pow_mono {i = k + 1} {j = 64} (omega arith))) in
        let d = leading_top 64 cut (omega arith) less in
        let same : d.0 ≡ 63 - count_leading_zeros 64 cut = omega (arith, d.1) in
        let small : cut < 2 ^ (d.0 + 1) = rw (add-one d.0) d.3 in
        subst (Highest w k) same
        (highest_is d.0 (subst (λ (x : ℕ). x < 2 ^ (d.0 + 1)) cut_is small) (subst (λ (x : ℕ). 2 ^ d.0 ≤ x) cut_is d.2))
