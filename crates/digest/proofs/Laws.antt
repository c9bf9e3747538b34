-- A digest on its way, and a slice that is being filled: what is there and what is left make the whole. Assumes nothing.
use mathlib.Core.Path.{◌≡◌, refl, sym, ap, ◌∙◌}
use mathlib.Core.List.{List, [], ◌∷◌, ◌++◌, append-nil, append_assoc}
use Prim.Native.Nat.{ℕ, zero, suc, ◌+◌, ◌-◌, ◌%◌, ◌≤◌, ◌<◌}
use native.Mathlib.Numerals.{add-one}
use native.Mathlib.Omega.{arith}
use lib.ListN.{length, get_or, take, drop, set, length-set, drop_of_length-le}
use lib.Seq.{drop-cons, take_all, take-suc-set}
use Rattle.std.proofs.Math.Dec.{eqb-suc-zero}
use Rattle.std.specs.Prelude.{◌==◌, cond}
use Rattle.digest.specs.Digest.{digest_byte, digest_of, next_number, number_byte, generated, in_turn}

-- ---- a digest

module _ (bytes : List ℕ) (i sum whole : ℕ) where
  pub digest_turn : {t : ℕ} → i < length bytes → digest_of sum (drop i bytes) ≡ whole → t ≡ digest_byte sum (get_or bytes i 0)
      → digest_of t (drop (i + 1) bytes) ≡ whole
  unfolding digest_of
  digest_turn below e f = rw (add-one i, f) (sym (ap (digest_of sum) (drop-cons bytes i 0 below)) ∙ e)

  pub digest_end : length bytes ≤ i → digest_of sum (drop i bytes) ≡ whole → sum ≡ whole
  unfolding digest_of
  digest_end over e = sym (ap (digest_of sum) (drop_of_length-le bytes over)) ∙ e

-- ---- a slice of which i bytes are there

module _ (out : List ℕ) (i : ℕ) where
  -- what is left is one byte more than after the next
  left_more : (byte : ℕ) → i < length out → length out - i ≡ suc (length (set out i byte) - (i + 1))
  left_more byte below = rw (length-set out i byte) (omega arith)

  left_none : length out ≤ i → length out - i ≡ 0
  left_none over = omega arith

module _ (out : List ℕ) (i : ℕ) {whole : List ℕ} where
  -- one more byte
  filled_turn : (byte : ℕ) (rest : List ℕ) → i < length out → take i out ++ (byte ∷ rest) ≡ whole
      → take (i + 1) (set out i byte) ++ rest ≡ whole
  filled_turn byte rest below e = rw (add-one i, take-suc-set out i byte, append_assoc) e

  -- nothing left
  filled_end : length out ≤ i → take i out ++ [] ≡ whole → out ≡ whole
  filled_end over e = sym (append-nil _ ∙ take_all i out over) ∙ e

  module _ (x : ℕ) where
    pub generated_turn : {y byte : ℕ} → i < length out → y ≡ next_number x → byte ≡ number_byte y
        → take i out ++ generated x (length out - i) ≡ whole
        → take (i + 1) (set out i byte) ++ generated y (length (set out i byte) - (i + 1)) ≡ whole
    unfolding generated
    generated_turn {byte = byte} below e f h =
        filled_turn byte _ below (rw (f, e) (rw (left_more out i (number_byte (next_number x)) below) at h))

    pub generated_end : length out ≤ i → take i out ++ generated x (length out - i) ≡ whole → out ≡ whole
    unfolding generated
    generated_end over h = filled_end over (rw (left_none out i over) at h)

-- ---- how many bytes there are

pub length_generated : (x n : ℕ) → length (generated x n) ≡ n
unfolding generated
length_generated x zero = refl
length_generated x (suc n) = ap suc (length_generated (next_number x) n)

pub length_in_turn : (a b n : ℕ) → length (in_turn a b n) ≡ n
unfolding in_turn
length_in_turn a b zero = refl
length_in_turn a b (suc n) = ap suc (length_in_turn b a n)

-- ---- bytes in turn, by their places

abbrev pub byte_in_turn : ℕ → ℕ → ℕ → ℕ
byte_in_turn a b k = cond (k % 2 == 0) a b

by_parity : (a b m n : ℕ) → m < 2 → n < 2 → m + n ≡ 1 → cond (m == 0) b a ≡ cond (n == 0) a b
by_parity a b zero zero f g h = absurd (omega arith)
by_parity a b zero (suc n) f g h = rw (eqb-suc-zero n)
by_parity a b (suc m) zero f g h = rw (eqb-suc-zero m)
by_parity a b (suc m) (suc n) f g h = absurd (omega arith)

pub in_turn_at : (a b n k : ℕ) → k < n → get_or (in_turn a b n) k 0 ≡ byte_in_turn a b k
unfolding in_turn
in_turn_at a b zero k h = absurd (omega arith)
in_turn_at a b (suc n) zero h = refl
in_turn_at a b (suc n) (suc k) h = in_turn_at b a n k (omega arith) ∙ by_parity a b (k % 2) (suc k % 2) (omega arith) (omega arith) (omega arith)
