-- The code's shifts and masks, as the digits that the definitions speak of: a above the field, w its width,
-- k below it. Assumes nothing.
use Rattle.std.proofs.Common.{◌≡◌, ℕ, ◌+◌, ◌-◌, ◌*◌, ◌/◌, ◌%◌, ◌^◌, ◌<◌, ◌≤◌, min, sym, ap, ◌∙◌, subst, ap₂, lt_of_lt_of_le, add-zero, mod-lt, mod-eq_of_lt, mul_assoc, add_comm, one-mul, arith, pow_pos, pow_mono, pow-add, shr_lt}
use mathlib.Core.Path.{subst⁻¹}
use native.Mathlib.Nat.{mul-mod_left}
use native.Mathlib.Nat.{min-eq_left, min-eq_right}
use native.Mathlib.Decide.{dec_le, ℕ_discrete}
use lib.Bits.{bit_and, bit_or, and_block, and_mask, or_block, or_self, or_shifted, or_zero_r}
use lib.Pow.{pow-lt, low, split, mod-pow-add, mod-mod-pow, ones_lt, ones_split}
use lib.Pow.{shl-shr, shr_mod}
use Rattle.field.specs.Field.{rotate_right, width_of, block, merge_into}
use Rattle.field.proofs.Laws.{turn, split_block, merge_drop}

-- a number shifted up k places in j + k digits keeps its low j
shl_low : (n j k : ℕ) → n * 2 ^ k % 2 ^ (j + k) ≡ n % 2 ^ j * 2 ^ k
shl_low n j k =
    mod-pow-add (n * 2 ^ k) j k
    ∙ ap₂ (λ (a b : ℕ). a % 2 ^ j * 2 ^ k + b) (shl-shr n k) (mul-mod_left n (2 ^ k)) ∙ add-zero (n % 2 ^ j * 2 ^ k)

-- x << s | x >> k, in s + k digits
shifts_turn : (s k : ℕ) {x : ℕ} → x < 2 ^ (s + k) → bit_or (x * 2 ^ s % 2 ^ (s + k)) (x / 2 ^ k) ≡ turn s k x
shifts_turn s k {x} h =
    ap (λ (n : ℕ). bit_or n (x / 2 ^ k)) (ap (λ (n : ℕ). x * 2 ^ s % 2 ^ n) (add_comm s k) ∙ shl_low x k s)
    ∙ or_shifted (x % 2 ^ k) s (x / 2 ^ k) (shr_lt s k h)

-- of n ones the low j
ones_low : (n j : ℕ) → (2 ^ n - 1) % 2 ^ j ≡ 2 ^ min n j - 1
ones_low n j = either (dec_le n j)
  where
    either : Dec (n ≤ j) → (2 ^ n - 1) % 2 ^ j ≡ 2 ^ min n j - 1
    either (yes h) =
        mod-eq_of_lt (lt_of_lt_of_le (ones_lt n) (pow_mono h)) ∙ ap (λ (m : ℕ). 2 ^ m - 1) (sym (min-eq_left h))
    either (no h) =
        ap (λ (m : ℕ). (2 ^ m - 1) % 2 ^ j) parts
        ∙ ap (λ (m : ℕ). m % 2 ^ j) (ones_split (n - j) j) ∙ low (2 ^ (n - j) - 1) j (ones_lt j)
        ∙ ap (λ (m : ℕ). 2 ^ m - 1) (sym (min-eq_right (omega arith)))
      where
        parts : n ≡ n - j + j
        parts = omega arith

-- w ones with k zeros below
abbrev mask : ℕ → ℕ → ℕ
mask w k = (2 ^ w - 1) * 2 ^ k

-- What the mask cuts out of v << k, and its complement out of x, together.
module _ (a w k v x : ℕ) (h : x < 2 ^ (a + (w + k))) where
  complement : 2 ^ (a + (w + k)) - 1 - mask w k ≡ (2 ^ a - 1) * 2 ^ (w + k) + (2 ^ k - 1)
  complement = less _ _ _ (ones_split a (w + k)) (ones_split w k)
    where
      less : (t m r : ℕ) {n u : ℕ} → n ≡ t + u → u ≡ m + r → n - m ≡ t + r
      less t m r e f = omega arith

  kept : bit_and x (2 ^ (a + (w + k)) - 1 - mask w k) ≡ x / 2 ^ (w + k) * 2 ^ (w + k) + x % 2 ^ k
  kept =
      ap₂ bit_and (sym (split x (w + k))) complement
      ∙ and_block (w + k) _ _ _ _ (mod-lt x (pow_pos (w + k))) (lt_of_lt_of_le (ones_lt k) (pow_mono (omega arith)))
      ∙ ap₂ (λ (m n : ℕ). m * 2 ^ (w + k) + n)
      (and_mask (x / 2 ^ (w + k)) a ∙ shr_mod a (w + k) h)
      (and_mask (x % 2 ^ (w + k)) k ∙ mod-mod-pow x w k)

  placed : bit_and (v * 2 ^ k) (mask w k) ≡ v % 2 ^ w * 2 ^ k
  placed =
      ap₂ bit_and (sym (add-zero (v * 2 ^ k))) (sym (add-zero (mask w k)))
      ∙ and_block k v (2 ^ w - 1) 0 0 (pow_pos k) (pow_pos k) ∙ add-zero _
      ∙ ap (λ (n : ℕ). n * 2 ^ k) (and_mask v w)

  joined : (t u r : ℕ) → u < 2 ^ w → r < 2 ^ k → bit_or (t * 2 ^ (w + k) + r) (u * 2 ^ k) ≡ (t * 2 ^ w + u) * 2 ^ k + r
  joined t u r hu hr =
      ap₂ (λ (m n : ℕ). bit_or (m + r) n)
      (ap (λ (n : ℕ). t * n) (pow-add 2 w k) ∙ sym (mul_assoc t (2 ^ w) (2 ^ k)))
      (sym (add-zero (u * 2 ^ k)))
      ∙ or_block k (t * 2 ^ w) u r 0 hr (pow_pos k)
      ∙ ap₂ (λ (m n : ℕ). m * 2 ^ k + n) (or_shifted t w u hu) (or_zero_r r)

  masks_block : bit_or (bit_and x (2 ^ (a + (w + k)) - 1 - mask w k)) (bit_and (v * 2 ^ k) (mask w k)) ≡ block w k v x
  masks_block =
      ap₂ bit_or kept placed
      ∙ joined (x / 2 ^ (w + k)) (v % 2 ^ w) (x % 2 ^ k) (mod-lt v (pow_pos w)) (mod-lt x (pow_pos k))
      ∙ sym (split_block w k v x)

-- ---- in a byte, by position and length

-- 1 << l
pub one_byte : {l : ℕ} → l < 8 → 1 * 2 ^ l % 256 ≡ 2 ^ l
one_byte {l} h = ap (λ (n : ℕ). n % 256) (one-mul (2 ^ l)) ∙ mod-eq_of_lt (pow-lt h)

-- n << (7 - p)
shl_byte : (n : ℕ) {p : ℕ} → p < 8 → n * 2 ^ (7 - p) % 256 ≡ n % 2 ^ (p + 1) * 2 ^ (7 - p)
shl_byte n {p} hp = ap (λ (m : ℕ). n * 2 ^ (7 - p) % 2 ^ m) all ∙ shl_low n (p + 1) (7 - p)
  where
    all : 8 ≡ p + 1 + (7 - p)
    all = omega arith

pub shifts_rotate : (p : ℕ) {x : ℕ} → p < 8 → x < 256 → bit_or (x * 2 ^ ((8 - p) % 8) % 256) (x / 2 ^ p) ≡ rotate_right p x
unfolding rotate_right
shifts_rotate p {x} hp hx = either (ℕ_discrete p 0)
  where
    Turned : ℕ → ℕ → Type 0
    Turned s k = bit_or (x * 2 ^ s % 256) (x / 2 ^ k) ≡ x % 2 ^ k * 2 ^ (8 - k) + x / 2 ^ k

    none : Turned 0 0
    none =
        let shifted : x * 1 % 256 ≡ x = omega arith in
        let kept : x / 1 ≡ x = omega arith in
        let back : x ≡ x % 1 * 256 + x / 1 = omega arith in
        ap₂ bit_or shifted kept ∙ or_self x ∙ back

    all : 8 - p + p ≡ 8
    all = omega arith

    either : Dec (p ≡ 0) → Turned ((8 - p) % 8) p
    either (yes e) = subst⁻¹ (λ (k : ℕ). Turned ((8 - k) % 8) k) e none
    either (no n) =
        subst⁻¹ (λ (s : ℕ). Turned s p) (mod-eq_of_lt (omega arith))
        (subst (λ (n : ℕ). x < 2 ^ n → bit_or (x * 2 ^ (8 - p) % 2 ^ n) (x / 2 ^ p) ≡ turn (8 - p) p x) all (shifts_turn (8 - p) p) hx)

-- the code of merge, for the field mask n
abbrev pub merged : ℕ → ℕ → ℕ → ℕ → ℕ
merged n p v x = bit_or (bit_and x (255 - n)) (bit_and (v * 2 ^ (7 - p) % 256) n)

pub masks_merge : (p l v : ℕ) {x : ℕ} → p < 8 → x < 256
    → merged ((2 ^ width_of l - 1) * 2 ^ (7 - p) % 256) p v x ≡ merge_into p l v x
unfolding merge_into
masks_merge p l v {x} hp h =
    ap₂ (λ (m n : ℕ). bit_or (bit_and x (255 - m)) (bit_and n m)) field_mask (shl_byte v hp)
    ∙ subst
    (λ (n : ℕ). x < 2 ^ n → bit_or (bit_and x (2 ^ n - 1 - mask w k)) (bit_and (u * 2 ^ k) (mask w k)) ≡ block w k u x)
    all
    (masks_block (8 - (w + k)) w k u x)
    h
    ∙ merge_drop p l v x
  where
    k : ℕ
    k = 7 - p

    w : ℕ
    w = min (width_of l) (p + 1)

    u : ℕ
    u = v % 2 ^ (p + 1)

    field_mask : (2 ^ width_of l - 1) * 2 ^ k % 256 ≡ mask w k
    field_mask = shl_byte (2 ^ width_of l - 1) hp ∙ ap (λ (n : ℕ). n * 2 ^ k) (ones_low (width_of l) (p + 1))

    all : 8 - (w + k) + (w + k) ≡ 8
    all = omega arith
