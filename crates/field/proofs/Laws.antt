-- Laws of rotation, field and merge. Each is stated once, over plain numbers of binary digits: a above the
-- field, w its width, k below it. Position and length come in at the last step. Assumes nothing.
use Rattle.std.proofs.Common.{◌≡◌, ℕ, ◌+◌, ◌-◌, ◌*◌, ◌/◌, ◌%◌, ◌^◌, ◌<◌, ◌≤◌, min, eqb, sym, refl, ap, ◌∙◌, subst, ap₂, lt_of_le_of_lt, add_assoc, mod-lt, mod-eq_of_lt, mul_assoc, mul_comm, add_comm, arith, pow_pos, pow-add, shr-shr, shr_lt}
use native.Mathlib.Nat.{mod-le}
use native.Mathlib.Nat.{min-eq_left, mul-add-mod_self_right, add-mod-mod}
use native.Mathlib.Decide.{dec_le}
use lib.Arith.{digits_lt}
use lib.Bits.{and_lt, xor_lt}
use lib.Pow.{high, low, mod-pow-add, mod-mod-pow, split}
use Rattle.choice.proofs.Laws.{pick_both}
use Rattle.field.specs.Field.{rotate_right, width_of, low_bits, field_of, block, merge_into}
use Rattle.field.specs.Field.{sum_of, carry_of, and_of, xor_of}

regroup : (a b c t u : ℕ) → a * (t * u) + (b * u + c) ≡ (a * t + b) * u + c
regroup a b c t u = omega arith

-- ---- a number with its low k digits put above s others

abbrev pub turn : ℕ → ℕ → ℕ → ℕ
turn s k x = x % 2 ^ k * 2 ^ s + x / 2 ^ k

pub turn_lt : (s k : ℕ) {x : ℕ} → x < 2 ^ (s + k) → turn s k x < 2 ^ (s + k)
turn_lt s k {x} h =
    rw (pow-add 2 s k, mul_comm (2 ^ s) (2 ^ k)) (digits_lt (mod-lt x (pow_pos k)) (shr_lt s k h))

-- what a turn brings to the low end
pub turn_low : (a w k x : ℕ) → turn (a + w) k x % 2 ^ w ≡ x / 2 ^ k % 2 ^ w
turn_low a w k x =
    ap (λ (n : ℕ). (x % 2 ^ k * n + x / 2 ^ k) % 2 ^ w) (pow-add 2 a w)
    ∙ ap (λ (n : ℕ). (n + x / 2 ^ k) % 2 ^ w) (sym (mul_assoc (x % 2 ^ k) (2 ^ a) (2 ^ w)))
    ∙ mul-add-mod_self_right (x % 2 ^ k * 2 ^ a) (2 ^ w) (x / 2 ^ k)

-- A turn by k and then by j is a turn by both.
module _ (s j k x : ℕ) where
  -- after the first turn the j digits above the low k are the low ones
  turned : turn (s + j) k x ≡ (x % 2 ^ k * 2 ^ s + x / 2 ^ (j + k)) * 2 ^ j + x / 2 ^ k % 2 ^ j
  turned =
      ap₂ (λ (m n : ℕ). x % 2 ^ k * m + n) (pow-add 2 s j) (sym (split (x / 2 ^ k) j))
      ∙ ap (λ (n : ℕ). x % 2 ^ k * (2 ^ s * 2 ^ j) + (n * 2 ^ j + x / 2 ^ k % 2 ^ j))
      (shr-shr x k j ∙ ap (λ (n : ℕ). x / 2 ^ n) (add_comm k j))
      ∙ regroup (x % 2 ^ k) (x / 2 ^ (j + k)) (x / 2 ^ k % 2 ^ j) (2 ^ s) (2 ^ j)

  pub turn_turn : turn (s + k) j (turn (s + j) k x) ≡ turn s (j + k) x
  turn_turn =
      ap (turn (s + k) j) turned
      ∙ ap₂ (λ (m n : ℕ). m * 2 ^ (s + k) + n) (low _ j (mod-lt _ (pow_pos j))) (high _ j (mod-lt _ (pow_pos j)))
      ∙ ap (λ (n : ℕ). x / 2 ^ k % 2 ^ j * n + (x % 2 ^ k * 2 ^ s + x / 2 ^ (j + k))) (pow-add 2 s k ∙ mul_comm (2 ^ s) (2 ^ k))
      ∙ regroup (x / 2 ^ k % 2 ^ j) (x % 2 ^ k) (x / 2 ^ (j + k)) (2 ^ k) (2 ^ s)
      ∙ ap (λ (n : ℕ). n * 2 ^ s + x / 2 ^ (j + k)) (sym (mod-pow-add x j k))

-- ---- a byte x whose w digits above the low k are those of v

module _ (w k v x : ℕ) where
  pub split_block : block w k v x ≡ (x / 2 ^ (w + k) * 2 ^ w + v % 2 ^ w) * 2 ^ k + x % 2 ^ k
  split_block =
      ap (λ (n : ℕ). x / 2 ^ (w + k) * n + v % 2 ^ w * 2 ^ k + x % 2 ^ k) (pow-add 2 w k) ∙ add_assoc _ _ _
      ∙ regroup (x / 2 ^ (w + k)) (v % 2 ^ w) (x % 2 ^ k) (2 ^ w) (2 ^ k)

  block_high : block w k v x / 2 ^ k ≡ x / 2 ^ (w + k) * 2 ^ w + v % 2 ^ w
  block_high = ap (λ (n : ℕ). n / 2 ^ k) split_block ∙ high _ k (mod-lt x (pow_pos k))

  pub block_below : block w k v x % 2 ^ k ≡ x % 2 ^ k
  block_below = ap (λ (n : ℕ). n % 2 ^ k) split_block ∙ low _ k (mod-lt x (pow_pos k))

  pub block_within : block w k v x / 2 ^ k % 2 ^ w ≡ v % 2 ^ w
  block_within = ap (λ (n : ℕ). n % 2 ^ w) block_high ∙ low _ w (mod-lt v (pow_pos w))

  pub block_above : block w k v x / 2 ^ (w + k) ≡ x / 2 ^ (w + k)
  block_above =
      ap (λ (n : ℕ). block w k v x / 2 ^ n) (add_comm w k) ∙ sym (shr-shr (block w k v x) k w)
      ∙ ap (λ (n : ℕ). n / 2 ^ w) block_high ∙ high _ w (mod-lt v (pow_pos w))

  -- no more digits than x has
  pub block_lt : (a : ℕ) → x < 2 ^ (a + (w + k)) → block w k v x < 2 ^ (a + (w + k))
  block_lt a h =
      rw (add_assoc (x / 2 ^ (w + k) * 2 ^ (w + k)), pow-add 2 a (w + k)) (digits_lt (shr_lt a (w + k) h) rest)
    where
      rest : v % 2 ^ w * 2 ^ k + x % 2 ^ k < 2 ^ (w + k)
      rest = rw (pow-add 2 w k) (digits_lt (mod-lt v (pow_pos w)) (mod-lt x (pow_pos k)))

  -- the digits of v above its low w do not count
  pub block_drop : (a : ℕ) → block w k (v % 2 ^ (a + w)) x ≡ block w k v x
  block_drop a =
      ap (λ (n : ℕ). x / 2 ^ (w + k) * 2 ^ (w + k) + n * 2 ^ k + x % 2 ^ k) (mod-mod-pow v a w)

  -- turned to the low end, the block is the low w digits of v
  pub block_turned : (a : ℕ) → turn (a + w) k (block w k v x) % 2 ^ w ≡ v % 2 ^ w
  block_turned a = turn_low a w k (block w k v x) ∙ block_within

-- ---- rotation

rotate_none : (x : ℕ) → rotate_right 0 x ≡ x
unfolding rotate_right
rotate_none x = omega arith

rotate_round : {x : ℕ} → x < 256 → rotate_right 8 x ≡ x
unfolding rotate_right
rotate_round h = omega arith

rotate_more : (p q x : ℕ) → p + q ≤ 8 → rotate_right q (rotate_right p x) ≡ rotate_right (p + q) x
unfolding rotate_right
rotate_more p q x h =
    ap₂ (λ (m n : ℕ). turn m q (turn n p x)) past_q past_p
    ∙ turn_turn (8 - (p + q)) q p x ∙ ap (λ (n : ℕ). turn (8 - (p + q)) n x) (add_comm q p)
  where
    past_q : 8 - q ≡ 8 - (p + q) + p
    past_q = omega arith

    past_p : 8 - p ≡ 8 - (p + q) + q
    past_p = omega arith

-- rotations compose
pub rotate_rotate : (p q : ℕ) {x : ℕ} → p < 8 → q < 8 → x < 256
    → rotate_right q (rotate_right p x) ≡ rotate_right ((p + q) % 8) x
rotate_rotate p q {x} hp hq hx = either (dec_le 8 (p + q))
  where
    either : Dec (8 ≤ p + q) → rotate_right q (rotate_right p x) ≡ rotate_right ((p + q) % 8) x
    either (no h) = rotate_more p q x (omega arith) ∙ ap (λ (n : ℕ). rotate_right n x) (sym (mod-eq_of_lt (omega arith)))
    either (yes h) =
        ap (λ (n : ℕ). rotate_right n (rotate_right p x)) parts
        ∙ sym (rotate_more (8 - p) (p + q - 8) (rotate_right p x) (omega arith))
        ∙ ap (rotate_right (p + q - 8)) (rotate_more p (8 - p) x (omega arith) ∙ ap (λ (n : ℕ). rotate_right n x) all)
        ∙ ap₂ rotate_right left (rotate_round hx)
      where
        parts : q ≡ 8 - p + (p + q - 8)
        parts = omega arith

        all : p + (8 - p) ≡ 8
        all = omega arith

        left : p + q - 8 ≡ (p + q) % 8
        left = omega arith

-- ---- field and merge

-- all eight bits are a byte, and all of a byte
pub low_byte : (x : ℕ) → low_bits 0 x < 256
unfolding low_bits
low_byte x = mod-lt x (omega arith)

pub low_all : {x : ℕ} → x < 256 → low_bits 0 x ≡ x
unfolding low_bits
low_all h = mod-eq_of_lt h

pub whole_byte : {x : ℕ} → x < 256 → low_bits 0 (rotate_right 0 x) ≡ x
whole_byte {x} h = ap (low_bits 0) (rotate_none x) ∙ low_all h

-- the low digits of a number that keeps at least as many
fewer : (m n x : ℕ) → n ≤ m → x % 2 ^ m % 2 ^ n ≡ x % 2 ^ n
fewer m n x h = ap (λ (k : ℕ). x % 2 ^ k % 2 ^ n) past ∙ mod-mod-pow x (m - n) n
  where
    past : m ≡ m - n + n
    past = omega arith

-- low bits kept twice; low bits of all eight
pub low_low : (l x : ℕ) → low_bits l (low_bits l x) ≡ low_bits l x
unfolding low_bits
low_low l x = fewer (width_of l) (width_of l) x (omega arith)

pub low_of_all : (l x : ℕ) → l < 8 → low_bits l (low_bits 0 x) ≡ low_bits l x
unfolding low_bits
low_of_all l x h = fewer 8 (width_of l) x (pick_both (λ (n : ℕ). n ≤ 8) (eqb l 0) (omega arith) (omega arith))

-- a field that fits the byte is read back
pub merge_then_field : (p l v latch : ℕ) → p < 8 → width_of l ≤ p + 1
    → field_of p l (merge_into p l v latch) ≡ low_bits l v
unfolding field_of merge_into low_bits rotate_right
merge_then_field p l v latch hp fits =
    ap₂ (λ (m n : ℕ). turn m (7 - p) (block n (7 - p) v latch) % 2 ^ width_of l) past (min-eq_left fits)
    ∙ block_turned (width_of l) (7 - p) v latch (p + 1 - width_of l)
  where
    past : 8 - (7 - p) ≡ p + 1 - width_of l + width_of l
    past = omega arith

-- the bits outside the field are the latch's, below it and above it
pub merge_below : (p l v latch : ℕ) → merge_into p l v latch % 2 ^ (7 - p) ≡ latch % 2 ^ (7 - p)
unfolding merge_into
merge_below p l v latch = block_below (min (width_of l) (p + 1)) (7 - p) v latch

pub merge_above : (p l v latch : ℕ)
    → merge_into p l v latch / 2 ^ (min (width_of l) (p + 1) + (7 - p)) ≡ latch / 2 ^ (min (width_of l) (p + 1) + (7 - p))
unfolding merge_into
merge_above p l v latch = block_above (min (width_of l) (p + 1)) (7 - p) v latch

-- what is pushed past bit 0 is dropped
pub merge_drop : (p l v latch : ℕ) → merge_into p l (v % 2 ^ (p + 1)) latch ≡ merge_into p l v latch
unfolding merge_into
merge_drop p l v latch =
    ap (λ (n : ℕ). block (min (width_of l) (p + 1)) (7 - p) (v % 2 ^ n) latch) past
    ∙ block_drop (min (width_of l) (p + 1)) (7 - p) v latch (p + 1 - min (width_of l) (p + 1))
  where
    past : p + 1 ≡ p + 1 - min (width_of l) (p + 1) + min (width_of l) (p + 1)
    past = omega arith

-- ---- a sum whose source keeps its low bits

-- the low w digits of a sum, of which 8 are kept, are those of the low digits of its source
sum_low : (w v aux x : ℕ) → v ≤ w → sum_of aux (x % 2 ^ w) % 2 ^ v ≡ sum_of aux x % 2 ^ v
sum_low w v aux x h = either (dec_le w 8)
  where
    same : (aux + x % 2 ^ w) % 2 ^ w ≡ (aux + x) % 2 ^ w
    same = add-mod-mod aux x (2 ^ w)

    either : Dec (w ≤ 8) → sum_of aux (x % 2 ^ w) % 2 ^ v ≡ sum_of aux x % 2 ^ v
    either (yes l) =
        fewer 8 v (aux + x % 2 ^ w) (omega arith) ∙ sym (fewer w v (aux + x % 2 ^ w) h)
        ∙ ap (λ (n : ℕ). n % 2 ^ v) same ∙ fewer w v (aux + x) h ∙ sym (fewer 8 v (aux + x) (omega arith))
    either (no l) =
        ap (λ (n : ℕ). n % 2 ^ v)
        (sym (fewer w 8 (aux + x % 2 ^ w) (omega arith)) ∙ ap (λ (n : ℕ). n % 256) same ∙ fewer w 8 (aux + x) (omega arith))

-- the merged byte is the same with and without the mask, for every position, length, AUX, source and latch
pub merge_sum : (p l aux x latch : ℕ) → merge_into p l (sum_of aux (low_bits l x)) latch ≡ merge_into p l (sum_of aux x) latch
unfolding merge_into low_bits
merge_sum p l aux x latch =
    ap (λ (n : ℕ). latch / 2 ^ (width + (7 - p)) * 2 ^ (width + (7 - p)) + n * 2 ^ (7 - p) + latch % 2 ^ (7 - p))
    (sum_low (width_of l) width aux x (omega arith))
  where
    width : ℕ
    width = min (width_of l) (p + 1)

-- ---- results are bytes

-- a law of n digits, at 8
bytes : {n x y : ℕ} → n ≡ 8 → (x < 2 ^ n → y < 2 ^ n) → x < 256 → y < 256
bytes {n} {x} {y} e f = subst (λ (k : ℕ). x < 2 ^ k → y < 2 ^ k) e f

pub rotate_lt : (p : ℕ) {x : ℕ} → p < 8 → x < 256 → rotate_right p x < 256
unfolding rotate_right
rotate_lt p hp = bytes (omega arith) (turn_lt (8 - p) p)

pub low_lt : (l : ℕ) {x : ℕ} → x < 256 → low_bits l x < 256
unfolding low_bits
low_lt l {x} h = lt_of_le_of_lt (mod-le x (2 ^ width_of l)) h

pub field_lt : (p l : ℕ) {x : ℕ} → x < 256 → field_of p l x < 256
unfolding field_of
field_lt p l h = low_lt l (rotate_lt (7 - p) (omega arith) h)

-- no wider than its length
pub field_width : (p l x : ℕ) → field_of p l x < 2 ^ width_of l
unfolding field_of low_bits
field_width p l x = mod-lt (rotate_right (7 - p) x) (pow_pos (width_of l))

pub merge_lt : (p l v : ℕ) {latch : ℕ} → p < 8 → latch < 256 → merge_into p l v latch < 256
unfolding merge_into
merge_lt p l v {latch} hp = bytes (omega arith) (block_lt width (7 - p) v latch (8 - (width + (7 - p))))
  where
    width : ℕ
    width = min (width_of l) (p + 1)

pub sum_lt : (aux x : ℕ) → sum_of aux x < 256
sum_lt aux x = omega arith

pub carry_lt : {aux x : ℕ} → aux < 256 → x < 256 → carry_of aux x < 2
carry_lt h l = omega arith

pub and_byte : (aux x : ℕ) → aux < 256 → x < 256 → and_of aux x < 256
and_byte = and_lt 8

pub xor_byte : (aux x : ℕ) → aux < 256 → x < 256 → xor_of aux x < 256
xor_byte = xor_lt 8

-- ---- examples of document 01

rotated : rotate_right 2 0x96 ≡ 0xA5
unfolding rotate_right
rotated = refl

merged : merge_into 5 3 0xD8 0xEF ≡ 0xE3
unfolding merge_into
merged = refl

-- 8 bits at position 3: the low 4 fit
merged_cut : merge_into 3 0 0xAB 0xCD ≡ 0xBD
unfolding merge_into
merged_cut = refl
