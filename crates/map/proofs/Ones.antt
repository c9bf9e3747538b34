-- A set counted word by word: the ones of a word are those of its bytes, and the ones of a byte its addresses. Assumes nothing.
use mathlib.Core.Path.{◌≡◌, refl, sym, ap, ap₂, ◌∙◌}
use mathlib.Core.List.{List}
use Prim.Native.Nat.{ℕ, zero, suc, ◌+◌, ◌*◌, ◌/◌, ◌%◌, ◌^◌, ◌≤◌, ◌<◌}
use native.Mathlib.Nat.{add_comm, add_assoc, add-suc, add-zero, mod-lt, mod-eq_of_lt, mod-one, lt_of_lt_of_le}
use native.Mathlib.Numerals.{add-one}
use native.Mathlib.Omega.{arith}
use lib.Arith.{digits_div, digits_mod, digits_lt}
use lib.Count.{ones, ones_cat, ones-le}
use lib.Dec.{eqb, lit<}
use lib.ListN.{get_or}
use lib.Pow.{pow_pos, pow_mono, pow-add, mod-pow-add}
use Rattle.choice.specs.Choice.{pick}
use Rattle.state.specs.State.{EachBelow}
use Rattle.map.specs.Map.{in_set, count_below, count_of}
use Rattle.map.specs.Ones.{number_from, ones_from, OnesTogether, OnesAreAddresses}

-- ---- words

-- n bytes are a number of 8n bits
number_lt : (bytes : List ℕ) → EachBelow 256 bytes → (at n : ℕ) → number_from bytes at n < 2 ^ (8 * n)
unfolding number_from
number_lt bytes small at zero = omega arith
number_lt bytes small at (suc n) =
    let e : 2 ^ (8 * suc n) ≡ 256 * 2 ^ (8 * n) = ap (λ (x : ℕ). 2 ^ x) {x = 8 * suc n} {y = 8 + 8 * n} (omega arith) ∙ pow-add 2 8 (8 * n) in
    omega (arith, e, digits_lt (small (at + n)) (number_lt bytes small at n))

-- one byte more, up to eight: nothing is shifted out of a word of 64 bits, and the sum fits
pub byte_more : (bytes : List ℕ) → EachBelow 256 bytes → (at n : ℕ) {word : ℕ} → n < 8 → word ≡ number_from bytes at n
    → (word + get_or bytes (at + n) 0 * 2 ^ (8 * n) % 2 ^ 64 ≡ number_from bytes at (n + 1))
    × (word + get_or bytes (at + n) 0 * 2 ^ (8 * n) % 2 ^ 64 < 2 ^ 64)
unfolding number_from
byte_more bytes small at n {word} h e =
    let all : number_from bytes at (suc n) < 2 ^ 64 =
    lt_of_lt_of_le (number_lt bytes small at (suc n)) (pow_mono {i = 8 * suc n} {j = 64} (omega arith)) in
    let kept : get_or bytes (at + n) 0 * 2 ^ (8 * n) % 2 ^ 64 ≡ get_or bytes (at + n) 0 * 2 ^ (8 * n) = mod-eq_of_lt (omega arith) in
    (ap₂ ◌+◌ e kept ∙ ap (number_from bytes at) (sym (add-one n)), omega arith)

pub ones_together : OnesTogether
unfolding number_from ones_from ones
ones_together bytes small at zero = refl
ones_together bytes small at (suc n) =
    ap ones (add_comm (number_from bytes at n) (get_or bytes (at + n) 0 * 2 ^ (8 * n)))
    ∙ ones_cat (8 * n) (get_or bytes (at + n) 0) (number_from bytes at n) (number_lt bytes small at n)
    ∙ omega (arith, ones_together bytes small at n)

-- n bytes have at most 8n ones
pub ones_from_le : (bytes : List ℕ) → EachBelow 256 bytes → (at n : ℕ) → ones_from bytes at n ≤ 8 * n
ones_from_le bytes small at n =
    omega (arith, ones_together bytes small at n, ones-le (8 * n) (number_from bytes at n) (number_lt bytes small at n))

-- m bytes and the n behind them are counted apart
ones_apart : (bytes : List ℕ) (at m n : ℕ) → ones_from bytes at (m + n) ≡ ones_from bytes at m + ones_from bytes (at + m) n
unfolding ones_from
ones_apart bytes at m zero = ap (ones_from bytes at) (add-zero m) ∙ omega arith
ones_apart bytes at m (suc n) =
    ap (ones_from bytes at) (add-suc m n)
    ∙ ap₂ (λ (x y : ℕ). x + ones (get_or bytes y 0)) (ones_apart bytes at m n) (sym (add_assoc at m n))
    ∙ omega arith

-- ---- bytes

bit_ones : (r : ℕ) → r < 2 → ones r ≡ r
unfolding ones
bit_ones zero h = refl
bit_ones (suc zero) h = refl
bit_ones (suc (suc r)) h = absurd (omega arith)

bit_pick : (r : ℕ) → r < 2 → pick (eqb r 1) 1 0 ≡ r
bit_pick zero h = refl
bit_pick (suc zero) h = refl
bit_pick (suc (suc r)) h = absurd (omega arith)

-- one more of a number's low bits
one_more : (b i : ℕ) → ones (b % 2 ^ suc i) ≡ ones (b % 2 ^ i) + b / 2 ^ i % 2
one_more b i =
    ap ones (ap (λ (x : ℕ). b % 2 ^ x) {x = suc i} {y = 1 + i} (omega arith) ∙ mod-pow-add b 1 i)
    ∙ ones_cat i (b / 2 ^ i % 2) (b % 2 ^ i) (mod-lt b (pow_pos i))
    ∙ add_comm (ones (b / 2 ^ i % 2)) (ones (b % 2 ^ i))
    ∙ ap (λ (x : ℕ). ones (b % 2 ^ i) + x) (bit_ones (b / 2 ^ i % 2) (mod-lt (b / 2 ^ i) (lit< tt)))

-- address 8j + i is in the set by bit i of byte j
bit_of : (map : List ℕ) (k j i : ℕ) → i < 8 → pick (in_set map k (j * 8 + i)) 1 0 ≡ get_or map (k * 32 + j) 0 / 2 ^ i % 2
unfolding in_set
bit_of map k j i h =
    ap₂ (λ (x y : ℕ). pick (eqb (get_or map (k * 32 + x) 0 / 2 ^ y % 2) 1) 1 0) (digits_div j h) (digits_mod j h)
    ∙ bit_pick (get_or map (k * 32 + j) 0 / 2 ^ i % 2) (mod-lt (get_or map (k * 32 + j) 0 / 2 ^ i) (lit< tt))

-- the first i addresses of byte j are its low i bits
low_addresses : (map : List ℕ) (k j i : ℕ) → i ≤ 8
    → count_below map k (j * 8 + i) ≡ count_below map k (j * 8) + ones (get_or map (k * 32 + j) 0 % 2 ^ i)
unfolding count_below ones
low_addresses map k j zero h =
    ap (count_below map k) (add-zero (j * 8)) ∙ sym (ap (λ (x : ℕ). count_below map k (j * 8) + ones x) (mod-one (get_or map (k * 32 + j) 0)) ∙ add-zero (count_below map k (j * 8)))
low_addresses map k j (suc i) h =
    ap (count_below map k) {x = j * 8 + suc i} {y = suc (j * 8 + i)} (omega arith)
    ∙ ap₂ ◌+◌ (low_addresses map k j i (omega arith)) (bit_of map k j i h)
    ∙ omega (arith, one_more (get_or map (k * 32 + j) 0) i)

pub ones_are_addresses : OnesAreAddresses
ones_are_addresses map small k j =
    low_addresses map k j 8 (omega arith)
    ∙ ap (λ (x : ℕ). count_below map k (j * 8) + ones x) (mod-eq_of_lt (small (k * 32 + j)))

-- the first n bytes of a set have its first 8n addresses
addresses : (map : List ℕ) → EachBelow 256 map → (k n : ℕ) → count_below map k (n * 8) ≡ ones_from map (k * 32) n
unfolding count_below ones_from
addresses map small k zero = refl
addresses map small k (suc n) =
    ap (count_below map k) {x = suc n * 8} {y = n * 8 + 8} (omega arith)
    ∙ ones_are_addresses map small k n
    ∙ ap (λ (x : ℕ). x + ones (get_or map (k * 32 + n) 0)) (addresses map small k n)

-- a set of 32 bytes is four words, each at its place
pub set_words : (map : List ℕ) → EachBelow 256 map → (k : ℕ) {a b c d p q r s : ℕ}
    → a ≡ ones_from map p 8 → b ≡ ones_from map q 8 → c ≡ ones_from map r 8 → d ≡ ones_from map s 8
    → p ≡ k * 32 → q ≡ k * 32 + 8 → r ≡ k * 32 + 16 → s ≡ k * 32 + 24 → a + b + c + d ≡ count_of map k
set_words map small k ea eb ec ed ep eq er es =
    omega (
      arith,
      at ea ep,
      at eb eq,
      at ec er,
      at ed es,
      addresses map small k 32,
      ones_apart map (k * 32) 24 8,
      ones_apart map (k * 32) 16 8,
      ones_apart map (k * 32) 8 8,
    )
  where
    at : {x i j : ℕ} → x ≡ ones_from map i 8 → i ≡ j → x ≡ ones_from map j 8
    at e f = e ∙ ap (λ (i : ℕ). ones_from map i 8) f
