-- What operations make of facts, of any number as an opcode: `machine::act::Operation::of` tells it, from 3 on as XOR.
use mathlib.Core.List.{List}
use mathlib.Core.Path.{◌≡◌, refl}
use Prim.Native.Nat.{ℕ, zero, suc, min}
use native.Mathlib.Omega.{arith}
use borrow.Author.Tests.{ne_eqb}
use Rattle.machine.specs.Step.{result_of}
use Rattle.facts.specs.Facts.{result_fact, with_carry_fact}

-- from 3 on no number is 0, 1 or 2
module _ (n : ℕ) where
  abbrev high : ℕ
  high = suc (suc (suc n))

  least : min high 3 ≡ 3
  least = omega arith

pub result_told : (n aux x : ℕ) → result_fact (min n 3) aux x ≡ result_fact n aux x
unfolding result_fact result_of
result_told zero aux x = refl
result_told (suc zero) aux x = refl
result_told (suc (suc zero)) aux x = refl
result_told (suc (suc (suc n))) aux x =
    rw (least n, ne_eqb (high n) 0 (λ e. omega arith), ne_eqb (high n) 1 (λ e. omega arith), ne_eqb (high n) 2 (λ e. omega arith)) refl

pub carry_told : (n aux x : ℕ) (facts : List ℕ) → with_carry_fact (min n 3) aux x facts ≡ with_carry_fact n aux x facts
unfolding with_carry_fact
carry_told zero aux x facts = refl
carry_told (suc zero) aux x facts = refl
carry_told (suc (suc zero)) aux x facts = refl
carry_told (suc (suc (suc n))) aux x facts = rw (least n, ne_eqb (high n) 1 (λ e. omega arith)) refl
