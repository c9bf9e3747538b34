-- Sets by their words: one word replaced, and a set of zeros. Assumes nothing.
use mathlib.Core.Path.{◌≡◌, refl, sym, ap, ◌∙◌}
use mathlib.Core.Bool.{false}
use mathlib.Core.List.{List}
use Prim.Native.Nat.{ℕ, zero, suc, ◌*◌, ◌/◌, ◌%◌, ◌^◌, ◌<◌}
use native.Mathlib.Decide.{ℕ_discrete}
use native.Mathlib.Omega.{arith}
use lib.Bits.{bit_or, bit_and}
use lib.Dec.{eqb}
use lib.ListN.{length, get_or, set, replicate, length-set}
use lib.Seq.{get_or-set_same, get_or-set_other}
use Rattle.std.specs.Int.{w64, bit_not}
use Rattle.std.proofs.lemmas.Nat.Bits.{bit_at_set_same, bit_at_set_other, bit_at_clear_same, bit_at_clear_other}
use Rattle.bitset.specs.Bitset.{has, Put, Taken}
use Rattle.bitset.specs.Words.{bit}
use Rattle.bitset.proofs.Bits.{zero_bit}

zero_word : (n k : ℕ) → ◌≡◌ {A = ℕ} (get_or (replicate n 0) k 0) 0
zero_word zero k = refl
zero_word (suc n) zero = refl
zero_word (suc n) (suc k) = zero_word n k

-- nothing is in a set of zeros
pub has_zeros : (n i : ℕ) → has (replicate n 0) i ≡ false
unfolding has
has_zeros n i = ap (λ (w : ℕ). bit w (i % 64)) (zero_word n (i / 64)) ∙ zero_bit (i % 64)

-- ---- the word of one number replaced

module _ (l : List ℕ) (i : ℕ) (h : i < 64 * length l) (v : ℕ) where
  stored_here : has (set l (i / 64) v) i ≡ bit v (i % 64)
  unfolding has
  stored_here = ap (λ (w : ℕ). bit w (i % 64)) (get_or-set_same l (i / 64) v 0 (omega arith))

  -- where no other bit of the word changes, no other number does
  stored_others : ((k : ℕ) → k < 64 → (k ≡ i % 64 → ⊥) → bit v k ≡ bit (get_or l (i / 64) 0) k)
      → (j : ℕ) → (j ≡ i → ⊥) → has (set l (i / 64) v) j ≡ has l j
  unfolding has
  stored_others same j other = by (ℕ_discrete (j / 64) (i / 64))
    where
      by : Dec (j / 64 ≡ i / 64) → bit (get_or (set l (i / 64) v) (j / 64) 0) (j % 64) ≡ bit (get_or l (j / 64) 0) (j % 64)
      by (yes e) =
          ap (λ (k : ℕ). bit (get_or (set l (i / 64) v) k 0) (j % 64)) e
          ∙ ap (λ (w : ℕ). bit w (j % 64)) (get_or-set_same l (i / 64) v 0 (omega arith))
          ∙ same (j % 64) (omega arith) (λ q. other (omega arith))
          ∙ ap (λ (k : ℕ). bit (get_or l k 0) (j % 64)) (sym e)
      by (no n) = ap (λ (w : ℕ). bit w (j % 64)) (get_or-set_other l (i / 64) (j / 64) v 0 n)

module _ (l : List ℕ) (i : ℕ) (h : i < 64 * length l) where
  abbrev word : ℕ
  word = get_or l (i / 64) 0

  abbrev one : ℕ
  one = 1 * 2 ^ (i % 64) % 2 ^ 64

  -- the number's bit joined to its word
  pub put_in : Put l i (set l (i / 64) (bit_or word one))
  put_in =
      let v = bit_or word one in
      let inside : i % 64 < 64 = omega arith in
      record {
        long = length-set l (i / 64) v;
        here = stored_here l i h v ∙ ap (λ (n : ℕ). eqb n 1) (bit_at_set_same w64 word (i % 64) inside);
        others = stored_others l i h v (λ k m n. ap (λ (x : ℕ). eqb x 1) (bit_at_set_other w64 word (i % 64) inside k n));
      }

  -- all the others of its word kept
  pub taken_out : Taken l i (set l (i / 64) (bit_and word (bit_not w64 one)))
  taken_out =
      let v = bit_and word (bit_not w64 one) in
      let inside : i % 64 < 64 = omega arith in
      record {
        long = length-set l (i / 64) v;
        here = stored_here l i h v ∙ ap (λ (n : ℕ). eqb n 1) (bit_at_clear_same w64 word (i % 64) inside);
        others = stored_others l i h v (λ k m n. ap (λ (x : ℕ). eqb x 1) (bit_at_clear_other w64 word (i % 64) inside k m n));
      }
