-- Laws of a record's tests as the code works them out, byte by byte.
use mathlib.Core.Path.{◌≡◌, refl, ap, ap₂, ◌∙◌}
use mathlib.Core.Bool.{Bool, ◌&&◌, ◌||◌}
use mathlib.Core.List.{List, [], ◌∷◌}
use Prim.Native.Nat.{ℕ, zero, suc, ◌+◌, ◌/◌, ◌%◌, ◌^◌}
use native.Mathlib.Omega.{arith}
use lib.Dec.{eqb}
use lib.ListN.{get_or}
use borrow.Author.Tests.{eq-eqb, ne_eqb}
use Rattle.std.specs.List.{list_all, range_with_len}
use Rattle.records.specs.Records.{mask_in, values_fit, reached_fits, all_zero, record_fits}

-- ---- bytes and facts one by one

pub zero_each : (b : List ℕ) → list_all (λ x. eqb x 0) b ≡ all_zero b
unfolding all_zero
zero_each [] = refl
zero_each (x ∷ b) = ap (λ r. eqb x 0 && r) (zero_each b)

pub values_each : (b : List ℕ) (k n : ℕ) {m : ℕ} → m ≡ mask_in b
    → list_all (λ j. eqb (m / 2 ^ j % 2) 1 || eqb (get_or b (4 + j) 0) 0) (range_with_len k n) ≡ values_fit b k n
unfolding values_fit
values_each b k zero e = refl
values_each b k (suc n) {m} e =
    ap₂ (λ p q. p && q) (ap (λ (x : ℕ). eqb (x / 2 ^ k % 2) 1 || eqb (get_or b (4 + k) 0) 0) e)
    (ap (λ (j : ℕ). list_all (λ j. eqb (m / 2 ^ j % 2) 1 || eqb (get_or b (4 + j) 0) 0) (range_with_len j n)) {x = k + 1} {y = suc k} (omega arith)
    ∙ values_each b (suc k) n e)

-- ---- a record

pub fits_reached : (b : List ℕ) {r : Bool} → r ≡ reached_fits b → get_or b 0 0 ≡ 1 → r ≡ record_fits b
fits_reached b e h = rw (eq-eqb (get_or b 0 0) 1 h) e

pub fits_zero : (b : List ℕ) {r : Bool} → r ≡ all_zero b → (get_or b 0 0 ≡ 1 → ⊥) → r ≡ record_fits b
fits_zero b e h = rw (ne_eqb (get_or b 0 0) 1 h) e
