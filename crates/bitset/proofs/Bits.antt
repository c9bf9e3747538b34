-- Bits of one word. Assumes nothing.
use mathlib.Core.Path.{◌≡◌, refl, ap, ◌∙◌}
use mathlib.Core.Bool.{false, ◌||◌}
use Prim.Native.Nat.{ℕ, zero, suc, ◌%◌, ◌^◌, ◌<◌, max}
use native.Mathlib.Nat.{zero-div}
use native.Mathlib.Omega.{arith}
use lib.Bits.{bit_or}
use lib.Dec.{eqb}
use Rattle.std.specs.Int.{bit_at}
use Rattle.std.proofs.lemmas.Nat.Bits.{bit_at_or, bit_at-lt}
use Rattle.bitset.specs.Words.{bit}

-- a word of zeros has no number
pub zero_bit : (j : ℕ) → bit 0 j ≡ false
zero_bit j = ap (λ (n : ℕ). eqb (n % 2) 1) (zero-div (2 ^ j))

or_digit : (x y : ℕ) → x < 2 → y < 2 → eqb (max x y) 1 ≡ (eqb x 1 || eqb y 1)
or_digit zero zero hx hy = refl
or_digit zero (suc zero) hx hy = refl
or_digit zero (suc (suc y)) hx hy = absurd (omega arith)
or_digit (suc zero) zero hx hy = refl
or_digit (suc zero) (suc zero) hx hy = refl
or_digit (suc zero) (suc (suc y)) hx hy = absurd (omega arith)
or_digit (suc (suc x)) y hx hy = absurd (omega arith)

pub bit_or_lem : (a b j : ℕ) → bit (bit_or a b) j ≡ (bit a j || bit b j)
bit_or_lem a b j =
    ap (λ (n : ℕ). eqb n 1) (bit_at_or a b j) ∙ or_digit (bit_at a j) (bit_at b j) (bit_at-lt a j) (bit_at-lt b j)
