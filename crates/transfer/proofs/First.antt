-- Where a scan for a number ends: at the first place that has one, or past the last. Assumes nothing.
use mathlib.Core.Path.{◌≡◌, refl, ap, ◌∙◌}
use mathlib.Core.Logic.{◌≢◌}
use mathlib.Core.Bool.{Bool, true, false}
use Prim.Native.Nat.{ℕ, zero, suc, ◌+◌, ◌≤◌, ◌<◌}
use native.Mathlib.Omega.{arith}
use lib.Dec.{ltb, eqb}
use borrow.Author.Tests.{eqb-true, eqb-false, ltb-true, ltb-false}
use Rattle.choice.proofs.Laws.{pick_cases}
use Rattle.transfer.specs.Findings.{first_of}
use Rattle.transfer.proofs.Membership.{same_or}

pub record First (number : ℕ → ℕ) (i n j : ℕ) : Type 0 where
  pub least : i ≤ j
  pub most : j ≤ i + n
  pub found : j < i + n → number j ≢ 0
  pub lower : (k : ℕ) → i ≤ k → k < j → number k ≡ 0

module _ (number : ℕ → ℕ) where
  pub first : (i n : ℕ) → First number i n (first_of number i n)
  unfolding first_of
  first i zero =
      record { least = omega arith; most = omega arith; found = λ l. absurd (omega arith); lower = λ k low high. absurd (omega arith) }
  first i (suc n) =
      pick_cases (First number i (suc n)) (eqb (number i) 0)
      (λ e.
      let rest = first (suc i) n in
      record {
        least = omega (arith, rest.least);
        most = omega (arith, rest.most);
        found = λ l. rest.found (omega arith);
        lower = λ k low high. same_or k i (λ q. ap number q ∙ eqb-true (number i) 0 e) (λ q. rest.lower k (omega arith) high);
      })
      (λ e.
      record {
        least = omega arith;
        most = omega arith;
        found = λ l. eqb-false (number i) 0 e;
        lower = λ k low high. absurd (omega arith);
      })

  -- there is no other such place
  pub first_at : (i n : ℕ) {j : ℕ} → First number i n j → first_of number i n ≡ j
  first_at i n {j = j} a = told (ltb j k) refl (ltb k j) refl
    where
      k : ℕ
      k = first_of number i n

      told : (b : Bool) → ltb j k ≡ b → (c : Bool) → ltb k j ≡ c → k ≡ j
      told true w c v = let l = ltb-true j k w in let b = first i n in absurd (a.found (omega (arith, b.most)) (b.lower j a.least l))
      told false w true v = let l = ltb-true k j v in let b = first i n in absurd (b.found (omega (arith, a.most)) (a.lower k b.least l))
      told false w false v = let l = ltb-false j k w in let m = ltb-false k j v in omega arith

  -- a scan from the first place on: no place before i has a number
  abbrev pub NoneBefore : ℕ → Type 0
  NoneBefore i = (k : ℕ) → k < i → number k ≡ 0

  pub none_before : NoneBefore 0
  none_before k l = absurd (omega arith)

  pub none_yet : (i : ℕ) → NoneBefore i → number i ≡ 0 → NoneBefore (i + 1)
  none_yet i none z k l = same_or k i (λ q. ap number q ∙ z) (λ q. none k (omega arith))

  pub first_here : (i n : ℕ) → i < n → NoneBefore i → number i ≢ 0 → first_of number 0 n ≡ i
  first_here i n l none some = first_at 0 n (record { least = omega arith; most = omega arith; found = λ _. some; lower = λ k _ h. none k h })

  pub first_none : (n : ℕ) → NoneBefore n → first_of number 0 n ≡ n
  first_none n none = first_at 0 n (record { least = omega arith; most = omega arith; found = λ l. absurd (omega arith); lower = λ k _ h. none k h })
