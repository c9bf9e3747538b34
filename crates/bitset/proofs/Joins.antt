-- Words joined one after the other, first to last. Assumes nothing.
use mathlib.Core.Path.{◌≡◌, refl, sym, ap, ap₂, ◌∙◌}
use mathlib.Core.Bool.{◌||◌}
use mathlib.Core.List.{List}
use Prim.Native.Nat.{ℕ, ◌+◌, ◌*◌, ◌/◌, ◌%◌, ◌≤◌, ◌<◌}
use native.Mathlib.Decide.{ℕ_discrete}
use native.Mathlib.Omega.{arith}
use lib.Bits.{bit_or}
use lib.ListN.{length, get_or, set, length-set}
use lib.Seq.{get_or-set_same, get_or-set_other}
use Rattle.bitset.specs.Bitset.{has, United}
use Rattle.bitset.specs.Words.{bit}
use Rattle.bitset.proofs.Bits.{bit_or_lem}

-- the words from `at` on and before i are joined, the others are as they were
pub record Joined (before : List ℕ) (at off i : ℕ) (after : List ℕ) : Type 0 where
  pub long : length after ≡ length before
  pub inside : (k : ℕ) → at ≤ k → k < i → get_or after k 0 ≡ bit_or (get_or before k 0) (get_or before (k + off) 0)
  pub below : (k : ℕ) → k < at → get_or after k 0 ≡ get_or before k 0
  pub above : (k : ℕ) → i ≤ k → get_or after k 0 ≡ get_or before k 0

module _ (b : List ℕ) (at off : ℕ) where
  pub joined_none : Joined b at off at b
  joined_none = record { long = refl; inside = λ k l h. absurd (omega arith); below = λ k h. refl; above = λ k h. refl }

  pub joined_more : {i : ℕ} {a : List ℕ} → Joined b at off i a → at ≤ i → i < length b
      → Joined b at off (i + 1) (set a i (bit_or (get_or a i 0) (get_or a (i + off) 0)))
  joined_more {i} {a} j low high =
      record {
        long = length-set a i v ∙ j.long;
        inside = λ k l h. inside k l h (ℕ_discrete k i);
        below = λ k h. get_or-set_other a i k v 0 (λ e. omega arith) ∙ j.below k h;
        above = λ k h. get_or-set_other a i k v 0 (λ e. omega arith) ∙ j.above k (omega arith);
      }
    where
      v : ℕ
      v = bit_or (get_or a i 0) (get_or a (i + off) 0)

      inside : (k : ℕ) → at ≤ k → k < i + 1 → Dec (k ≡ i)
          → get_or (set a i v) k 0 ≡ bit_or (get_or b k 0) (get_or b (k + off) 0)
      inside k l h (yes e) =
          ap (λ (n : ℕ). get_or (set a i v) n 0) e ∙ get_or-set_same a i v 0 (omega (arith, j.long))
          ∙ ap₂ bit_or (j.above i (omega arith)) (j.above (i + off) (omega arith))
          ∙ ap (λ (n : ℕ). bit_or (get_or b n 0) (get_or b (n + off) 0)) (sym e)
      inside k l h (no n) = get_or-set_other a i k v 0 n ∙ j.inside k l (omega arith)

  pub joined_all : (count : ℕ) {i : ℕ} {a : List ℕ} → Joined b at off i a → i ≡ at + count → United b at off count a
  unfolding has
  joined_all count {i} {a} j e =
      record {
        long = j.long;
        inside =
            λ n l h.
            ap (λ (w : ℕ). bit w (n % 64)) (j.inside (n / 64) (omega arith) (omega arith))
            ∙ bit_or_lem (get_or b (n / 64) 0) (get_or b (n / 64 + off) 0) (n % 64)
            ∙ ap₂ (λ (x y : ℕ). bit (get_or b (n / 64) 0) (n % 64) || bit (get_or b x 0) y) {x = n / 64 + off} {y = (n + off * 64) / 64}
            {u = n % 64} {v = (n + off * 64) % 64} (omega arith) (omega arith);
        below = λ n h. ap (λ (w : ℕ). bit w (n % 64)) (j.below (n / 64) (omega arith));
        above = λ n h. ap (λ (w : ℕ). bit w (n % 64)) (j.above (n / 64) (omega arith));
      }
