-- Laws of a record's bytes as the code reads and makes them, over plain numbers and lists.
use mathlib.Core.Path.{◌≡◌, refl, sym, ◌∙◌, ap, ap₂}
use mathlib.Core.List.{List, [], ◌∷◌, map}
use Prim.Native.Nat.{ℕ, zero, suc, ◌+◌, ◌-◌, ◌*◌, ◌/◌, ◌%◌, ◌^◌, ◌≤◌, ◌<◌}
use native.Mathlib.Omega.{arith}
use native.Mathlib.Nat.{zero-mul, lt_of_lt_of_le, pow-suc, mul-suc, not-suc-le-zero, le_of_suc-le-suc}
use lib.Dec.{eqb}
use lib.ListN.{length, get_or, take, drop}
use borrow.Rule.Slice.PartMut.{put_mid, Post-is}
use lib.Pow.{pow_mono, pow-lt}
use lib.Seq.{drop-drop}
use Rattle.std.proofs.lemmas.List.{length-take}
use Rattle.std.specs.Int.{w16, to_le_bytes}
use mathlib.Core.Bool.{Bool, true, false}
use Rattle.std.specs.Int.{from_bool}
use Rattle.choice.proofs.Laws.{pick_cases}
use Rattle.std.specs.Simd.{first_chunks}
use Rattle.choice.specs.Choice.{pick}
use Rattle.facts.specs.Facts.{fact_count, unknown, is_known}
use Rattle.facts.specs.Record.{record_size, mask_of, value_byte, fact_at, facts_from, read_cell, cell_at, put_record}
use Rattle.facts.proofs.Mask.{known_bit, mask_lt}
use Rattle.facts.proofs.Records.{part_at}
use Rattle.cells.specs.Cells.{Bounded}

-- ---- a record read

-- a fact by the mask of bytes 2-3
pub fact_eq : (b : List ℕ) (k : ℕ) {m r : ℕ} → m ≡ get_or b 2 0 + 256 * get_or b 3 0
    → r ≡ pick (eqb (m / 2 ^ k % 2) 1) (get_or b (4 + k) 0) unknown → r ≡ fact_at b k
fact_eq b k e h = h ∙ ap (λ (m : ℕ). pick (eqb (m / 2 ^ k % 2) 1) (get_or b (4 + k) 0) unknown) e

pub facts_at : (b r : List ℕ) (k n : ℕ) → length r ≡ n → ((j : ℕ) → j < n → get_or r j 0 ≡ fact_at b (k + j)) → r ≡ facts_from b k n
facts_at b [] k zero l h = refl
facts_at b (x ∷ r) k zero l h = absurd (omega (arith, l))
facts_at b [] k (suc n) l h = absurd (omega (arith, l))
facts_at b (x ∷ r) k (suc n) l h =
    ap₂ (λ (f : ℕ) (rest : List ℕ). f ∷ rest) (h 0 (omega arith) ∙ ap (fact_at b) {x = k + 0} {y = k} (omega arith))
    (facts_at b r (suc k) n (omega (arith, l)) (λ j m. h (suc j) (omega arith) ∙ ap (fact_at b) {x = k + suc j} {y = suc k + j} (omega arith)))

-- its first byte tells whether the cell is reached
pub first_byte : (t : List ℕ) (i : ℕ) → eqb (get_or t (record_size * i) 0) 1 ≡ (cell_at t i).reached
unfolding cell_at read_cell
first_byte t i =
    let here : record_size * i + 0 ≡ record_size * i = omega arith in
    ap (λ (b : ℕ). eqb b 1) (sym (part_at t i 0 (omega arith) ∙ ap (λ (x : ℕ). get_or t x 0) here))

-- ---- a record made

-- inside a list the value past its end does not matter
pub get_d-inside : (fs : List ℕ) (k d e : ℕ) → k < length fs → get_or fs k d ≡ get_or fs k e
get_d-inside [] k d e h = absurd (not-suc-le-zero h)
get_d-inside (f ∷ fs) zero d e h = refl
get_d-inside (f ∷ fs) (suc k) d e h = get_d-inside fs k d e (le_of_suc-le-suc h)

pub fact_bound : (fs : List ℕ) → length fs ≡ fact_count → Bounded fs → (k : ℕ) → k < fact_count → get_or fs k 0 ≤ unknown
fact_bound fs l bounded k h = rw (get_d-inside fs k 0 unknown (rw l h)) (bounded k)

-- a fact's bit at its place
doubled : (f k : ℕ) → known_bit f * 2 ^ suc k ≡ 2 * (known_bit f * 2 ^ k)
doubled f k =
    pick_cases (λ (x : ℕ). x * 2 ^ suc k ≡ 2 * (x * 2 ^ k)) (is_known f) (λ e. omega (arith, pow-suc 2 k))
    (λ e. omega (arith, zero-mul (2 ^ suc k), zero-mul (2 ^ k)))

-- the mask of the first facts, and of one more
mask_more : (fs : List ℕ) (k : ℕ) → k < length fs → mask_of (take k fs) + known_bit (get_or fs k 0) * 2 ^ k ≡ mask_of (take (suc k) fs)
unfolding mask_of
mask_more [] k h = absurd (omega arith)
mask_more (f ∷ fs) zero h = omega arith
mask_more (f ∷ fs) (suc k) h = omega (arith, mask_more fs k (omega arith), doubled (get_or fs k 0) k)

pub mask_fits : (fs : List ℕ) (k : ℕ) → length fs ≡ fact_count → mask_of (take k fs) < 2 ^ 16
mask_fits fs k l = lt_of_lt_of_le (mask_lt (take k fs)) (pow_mono {j = 16} (omega (arith, length-take k fs, l)))

pub bit_is : (b : Bool) → from_bool b ≡ pick b 1 0
bit_is true = refl
bit_is false = refl

placed : (f k : ℕ) → k < fact_count → known_bit f * 2 ^ k % 65536 ≡ known_bit f * 2 ^ k
placed f k h =
    pick_cases (λ (x : ℕ). x * 2 ^ k % 65536 ≡ x * 2 ^ k) (is_known f)
    (λ e. let less : 2 ^ k < 2 ^ 16 = pow-lt {i = k} {j = 16} (omega arith) in omega (arith, less)) (λ e. omega (arith, zero-mul (2 ^ k)))

pub mask_step : (fs : List ℕ) (k : ℕ) {m x : ℕ} → length fs ≡ fact_count → k < fact_count → m ≡ mask_of (take k fs)
    → x ≡ from_bool (is_known (get_or fs k 0)) → m + x * 2 ^ k % 65536 ≡ mask_of (take (k + 1) fs)
mask_step fs k {m} {x} l h e b =
    ap₂ (λ (p q : ℕ). p + q) e
    (ap (λ (y : ℕ). y * 2 ^ k % 65536) (b ∙ bit_is (is_known (get_or fs k 0))) ∙ placed (get_or fs k 0) k h)
    ∙ mask_more fs k (omega (arith, l)) ∙ ap (λ (n : ℕ). mask_of (take n fs)) {x = suc k} {y = k + 1} (omega arith)

pub mask_bytes : (m : ℕ) → m < 2 ^ 16 → to_le_bytes w16 m ≡ m % 256 ∷ m / 256 ∷ []
mask_bytes m h = ap (λ (n : ℕ). m % 256 ∷ n ∷ []) {x = m / 256 % 256} {y = m / 256} (omega arith)

-- the values of a record
pub values_at : (fs r : List ℕ) → length r ≡ length fs → ((k : ℕ) → k < length fs → get_or r k 0 ≡ value_byte (get_or fs k 0))
    → r ≡ map value_byte fs
values_at [] [] l h = refl
values_at [] (x ∷ r) l h = absurd (omega arith)
values_at (f ∷ fs) [] l h = absurd (omega arith)
values_at (f ∷ fs) (x ∷ r) l h =
    ap₂ (λ (y : ℕ) (rest : List ℕ). y ∷ rest) (h 0 (omega arith)) (values_at fs r (omega arith) (λ k m. h (suc k) (omega arith)))

-- 16 bytes put in from 16 × i on
pub part_put : (t : List ℕ) (i : ℕ) (b last : List ℕ) → record_size * i + record_size ≤ length t → length b ≡ record_size → last ≡ b
    → put_mid (record_size * i) (record_size * i + record_size - record_size * i) t last ≡ put_record t i b
unfolding put_record
part_put t i b last h l e =
    let inside : record_size * i ≤ record_size * i + record_size = omega arith in
    rw (e, Post-is (record_size * i) (record_size * i + record_size) t inside)
