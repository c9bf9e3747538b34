-- A record fits exactly where it is the record of a cell whose OVF is unknown, 0 or 1: what the test says of bytes, and of
-- a whole table, both ways.
use mathlib.Core.Path.{◌≡◌, refl, sym, ◌∙◌, ap, subst⁻¹}
use mathlib.Core.Bool.{Bool, true, false, ◌||◌, false≢true}
use mathlib.Core.List.{List, [], ◌∷◌, ◌++◌, map}
use Prim.Native.Nat.{ℕ, zero, suc, ◌+◌, ◌*◌, ◌/◌, ◌%◌, ◌^◌, ◌≤◌, ◌<◌, suc-le-suc}
use native.Mathlib.Omega.{arith}
use native.Mathlib.Decide.{dec_lt}
use native.Mathlib.Nat.{zero-add, add-zero, add-suc, suc-add}
use native.Mathlib.Numerals.{add-one}
use lib.Dec.{eqb}
use lib.ListN.{length, get_or, take, drop, replicate, get_or-eq_default}
use lib.Pow.{shr-shr, shr_lt}
use borrow.Author.Tests.{eqb-true, eqb-false, eq-eqb, ne_eqb, ltb-true, lt-ltb}
use Rattle.choice.specs.Choice.{pick}
use Rattle.choice.proofs.Laws.{pick_cases, and_both, and_first, and_second}
use Rattle.state.specs.State.{overflow_slot, bytes_from, EachBelow}
use Rattle.state.proofs.Laws.{cons_eq}
use Rattle.state.proofs.RoundTrip.{whole}
use Rattle.facts.specs.declared.Cell.{Cell}
use Rattle.facts.specs.Facts.{fact_count, unknown, is_known}
use Rattle.facts.specs.Record.{record_size, cell_of, unreached, mask_of, value_byte, record_of, fact_at, facts_from, read_cell, cell_at, FineCell, Layout}
use Rattle.facts.proofs.Mask.{known_bit, mask_bit, mask_lt, reached_at, finding_at_lem, mask_at, value_at, last_at, unreached_fine, zeros_record, zeros_read}
use Rattle.facts.proofs.Records.{part, part_at, part_length}
use Rattle.facts.proofs.Overflow.{FlagFact, OverflowFits, unknown_flag}
use Rattle.records.specs.Records.{mask_in, values_fit, reached_fits, all_zero, record_fits}

-- what holds of a record that fits: it is that of the cell which it is read as, whose OVF is unknown, 0 or 1
pub record RecordOfCell (bytes : List ℕ) : Type 0 where
  pub told : bytes ≡ record_of (read_cell bytes) 0
  pub fine : FineCell (read_cell bytes)
  pub flag : OverflowFits (read_cell bytes).facts

-- ---- a record that fits is a cell's

module _ (b : List ℕ) (small : EachBelow 256 b) where
  fact_bound : (k : ℕ) → fact_at b k ≤ unknown
  fact_bound k =
      pick_cases (λ (f : ℕ). f ≤ unknown) (eqb (mask_in b / 2 ^ k % 2) 1) (λ e. omega (arith, small (4 + k))) (λ e. omega arith)

  facts_bound : (k n j : ℕ) → get_or (facts_from b k n) j unknown ≤ unknown
  facts_bound k zero j = omega arith
  facts_bound k (suc n) zero = fact_bound k
  facts_bound k (suc n) (suc j) = facts_bound (suc k) n j

  -- a fact is known where its bit is one
  known_by_mask : (k : ℕ) → known_bit (fact_at b k) ≡ mask_in b / 2 ^ k % 2
  known_by_mask k = go (eqb (mask_in b / 2 ^ k % 2) 1) refl
    where
      go : (t : Bool) → eqb (mask_in b / 2 ^ k % 2) 1 ≡ t → known_bit (fact_at b k) ≡ mask_in b / 2 ^ k % 2
      go true w = rw (w, ne_eqb (get_or b (4 + k) 0) unknown (λ e. omega (arith, small (4 + k)))) (sym (eqb-true (mask_in b / 2 ^ k % 2) 1 w))
      go false w = rw w (omega (arith, eqb-false (mask_in b / 2 ^ k % 2) 1 w))

  -- the mask of the facts read is the mask, where it has no bit above them
  mask_back : (k n : ℕ) → mask_in b / 2 ^ k < 2 ^ n → mask_of (facts_from b k n) ≡ mask_in b / 2 ^ k
  unfolding mask_of
  mask_back k zero h = omega arith
  mask_back k (suc n) h =
      let half : mask_in b / 2 ^ k / 2 ^ 1 ≡ mask_in b / 2 ^ suc k = shr-shr (mask_in b) k 1 ∙ ap (λ (x : ℕ). mask_in b / 2 ^ x) (add-one k) in
      let less : mask_in b / 2 ^ k / 2 ^ 1 < 2 ^ n = shr_lt n 1 (rw (add-one n) h) in
      let rest = mask_back (suc k) n (rw half at less) in
      omega (arith, known_by_mask k)

  -- the byte of a fact is its value
  value_back : (k : ℕ) → (eqb (mask_in b / 2 ^ k % 2) 1 || eqb (get_or b (4 + k) 0) 0) ≡ true → value_byte (fact_at b k) ≡ get_or b (4 + k) 0
  value_back k = go (eqb (mask_in b / 2 ^ k % 2) 1) refl
    where
      go : (t : Bool) → eqb (mask_in b / 2 ^ k % 2) 1 ≡ t → (t || eqb (get_or b (4 + k) 0) 0) ≡ true → value_byte (fact_at b k) ≡ get_or b (4 + k) 0
      go true w h = rw (w, ne_eqb (get_or b (4 + k) 0) unknown (λ e. omega (arith, small (4 + k))))
      go false w h = rw w (sym (eqb-true (get_or b (4 + k) 0) 0 h))

  values_back : (k n : ℕ) → values_fit b k n ≡ true → map value_byte (facts_from b k n) ≡ bytes_from b (4 + k) n
  unfolding values_fit
  values_back k zero h = refl
  values_back k (suc n) h =
      let one = eqb (mask_in b / 2 ^ k % 2) 1 || eqb (get_or b (4 + k) 0) 0 in
      cons_eq (value_back k (and_first one (values_fit b (suc k) n) h))
      (values_back (suc k) n (and_second one (values_fit b (suc k) n) h) ∙ ap (λ (x : ℕ). bytes_from b x n) (add-suc 4 k))

  flag_back : get_or b (4 + overflow_slot) 0 < 2 → FlagFact (fact_at b overflow_slot)
  flag_back h = pick_cases FlagFact (eqb (mask_in b / 2 ^ overflow_slot % 2) 1) (λ e k. h) (λ e. unknown_flag)

  module _ (long : length b ≡ record_size) where
    reached_record : get_or b 0 0 ≡ 1 → get_or b 1 0 ≡ 0 → mask_in b < 2 ^ fact_count → values_fit b 0 fact_count ≡ true → get_or b 15 0 ≡ 0
        → record_of (cell_of true (facts_from b 0 fact_count)) 0 ≡ b
    unfolding record_of
    reached_record first second low values last =
        let mask = mask_back 0 fact_count (omega arith) in
        cons_eq (sym first)
        (cons_eq (sym second) (cons_eq (omega (arith, small 2)) (cons_eq (omega (arith, small 2))
        (ap (λ (l : List ℕ). l ++ (0 ∷ [])) (values_back 0 fact_count values) ∙ ap (λ (x : ℕ). bytes_from b 4 fact_count ++ (x ∷ [])) (sym last)))))
        ∙ whole b record_size long

    reached_told : eqb (get_or b 0 0) 1 ≡ true → reached_fits b ≡ true → RecordOfCell b
    unfolding reached_fits read_cell
    reached_told w h =
        let o = and_first _ _ h in
        let p = and_first _ _ o in
        let q = and_first _ _ p in
        record {
          told = rw w
              (sym (reached_record (eqb-true (get_or b 0 0) 1 w) (eqb-true _ _ (and_first _ _ q)) (ltb-true _ _ (and_second _ _ q))
              (and_second _ _ p) (eqb-true _ _ (and_second _ _ h))));
          fine = record { facts = refl; bounded = facts_bound 0 fact_count; blank = λ e. absurd (false≢true (sym e ∙ w)) };
          flag = flag_back (ltb-true _ _ (and_second _ _ o));
        }

zero_told : (b : List ℕ) → all_zero b ≡ true → b ≡ replicate (length b) 0
unfolding all_zero
zero_told [] h = refl
zero_told (x ∷ xs) h =
    cons_eq (eqb-true x 0 (and_first (eqb x 0) (all_zero xs) h)) (zero_told xs (and_second (eqb x 0) (all_zero xs) h))

-- bytes that fit are the record of the cell that they are read as
pub fits_record : (bytes : List ℕ) → length bytes ≡ record_size → EachBelow 256 bytes → record_fits bytes ≡ true → RecordOfCell bytes
fits_record bytes long small h = go (eqb (get_or bytes 0 0) 1) refl h
  where
    go : (t : Bool) → eqb (get_or bytes 0 0) 1 ≡ t → pick t (reached_fits bytes) (all_zero bytes) ≡ true → RecordOfCell bytes
    go true w fits = reached_told bytes small long w fits
    go false w fits =
        let zeros : bytes ≡ replicate record_size 0 = zero_told bytes fits ∙ ap (λ (n : ℕ). replicate n 0) long in
        subst⁻¹ RecordOfCell zeros
        (record {
          told = sym (ap (λ (c : Cell). record_of c 0) zeros_read ∙ zeros_record);
          fine = rw zeros_read unreached_fine;
          flag = rw zeros_read unknown_flag;
        })

part_small : (t : List ℕ) (i : ℕ) → EachBelow 256 t → length (part t i) ≡ record_size → EachBelow 256 (part t i)
part_small t i small long r = go (dec_lt r record_size)
  where
    go : Dec (r < record_size) → get_or (part t i) r 0 < 256
    go (yes h) = rw (part_at t i r h) (small (record_size * i + r))
    go (no h) = let past : length (part t i) ≤ r = omega arith in rw (get_or-eq_default (part t i) 0 past) (omega arith)

-- a table whose records fit has the layout, and every cell's OVF is unknown, 0 or 1
module _ (n : ℕ) (table : List ℕ) (long : length table ≡ record_size * n) (small : EachBelow 256 table)
    (fits : (i : ℕ) → i < n → record_fits (take record_size (drop (record_size * i) table)) ≡ true) where
  part_told : (i : ℕ) → i < n → RecordOfCell (part table i)
  part_told i l =
      let size = part_length table n i long l in
      fits_record (part table i) size (part_small table i small size) (fits i l)

  pub fits_layout : Layout n table
  unfolding cell_at
  fits_layout = record { long = long; records = λ i l. (part_told i l).told; fine = λ i l. (part_told i l).fine }

  pub fits_overflow : (i : ℕ) → i < n → OverflowFits (cell_at table i).facts
  unfolding cell_at
  fits_overflow i l = (part_told i l).flag

-- ---- a cell's record fits

values_from : (b : List ℕ) (k n : ℕ) → ((j : ℕ) → j < n → (eqb (mask_in b / 2 ^ (k + j) % 2) 1 || eqb (get_or b (4 + (k + j)) 0) 0) ≡ true)
    → values_fit b k n ≡ true
unfolding values_fit
values_from b k zero h = refl
values_from b k (suc n) h =
    and_both (rw add-zero at (h zero (omega arith)))
    (values_from b (suc k) n (λ j l. rw (suc-add k j, ← add-suc k j) (h (suc j) (suc-le-suc l))))

value_fits_lem : (f : ℕ) → (eqb (known_bit f) 1 || eqb (value_byte f) 0) ≡ true
value_fits_lem f = go (is_known f)
  where
    go : (t : Bool) → (eqb (pick t 1 0) 1 || eqb (pick t f 0) 0) ≡ true
    go true = refl
    go false = refl

module _ (c : Cell) (fine : FineCell c) (flag : OverflowFits c.facts) where
  one_fits : (k : ℕ) → k < fact_count → (eqb (mask_in (record_of c 0) / 2 ^ k % 2) 1 || eqb (get_or (record_of c 0) (4 + k) 0) 0) ≡ true
  one_fits k h = rw (mask_at c 0 fine, value_at c 0 fine k h, mask_bit c.facts k) (value_fits_lem (get_or c.facts k unknown))

  flag_fits_lem : get_or (record_of c 0) (4 + overflow_slot) 0 < 2
  flag_fits_lem =
      rw (value_at c 0 fine overflow_slot (omega arith))
      (pick_cases (λ (x : ℕ). x < 2) (is_known (get_or c.facts overflow_slot unknown)) flag (λ e. omega arith))

  mask_fits : mask_in (record_of c 0) < 2 ^ fact_count
  mask_fits = rw (mask_at c 0 fine) (rw fine.facts at (mask_lt c.facts))

  reached_fits_lem : reached_fits (record_of c 0) ≡ true
  unfolding reached_fits
  reached_fits_lem =
      and_both (and_both (and_both (and_both (eq-eqb (get_or (record_of c 0) 1 0) 0 (finding_at_lem c 0 fine)) (lt-ltb (mask_in (record_of c 0)) (2 ^ fact_count) mask_fits)) (values_from (record_of c 0) 0 fact_count (λ j h. rw zero-add (one_fits j h))))
      (lt-ltb (get_or (record_of c 0) (4 + overflow_slot) 0) 2 flag_fits_lem)) (eq-eqb (get_or (record_of c 0) 15 0) 0 (last_at c 0 fine))

  -- the record of a cell whose OVF is unknown, 0 or 1
  pub record_fits_lem : record_fits (record_of c 0) ≡ true
  unfolding all_zero
  record_fits_lem = go c.reached refl
    where
      go : (t : Bool) → c.reached ≡ t → record_fits (record_of c 0) ≡ true
      go true w =
          ap (λ (t : Bool). pick t (reached_fits (record_of c 0)) (all_zero (record_of c 0))) (reached_at c 0 fine ∙ w) ∙ reached_fits_lem
      go false w =
          let blank : c ≡ unreached = λ i. cell_of (w i) (fine.blank w i) in
          subst⁻¹ (λ (b : List ℕ). record_fits b ≡ true) (ap (λ (d : Cell). record_of d 0) blank ∙ zeros_record) refl

-- and every record of a table of such cells
pub layout_fits : (n : ℕ) (table : List ℕ) → Layout n table → ((i : ℕ) → i < n → OverflowFits (cell_at table i).facts)
    → (i : ℕ) → i < n → record_fits (take record_size (drop (record_size * i) table)) ≡ true
layout_fits n table g flags i l = rw (g.records i l) (record_fits_lem (cell_at table i) (g.fine i l) (flags i l))
