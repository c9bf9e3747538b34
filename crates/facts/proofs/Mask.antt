-- The mask of bytes 2-3 tells which facts are known, and a record is read back as the cell that it was made of.
use mathlib.Core.Path.{◌≡◌, refl, sym, ◌∙◌}
use mathlib.Core.Bool.{Bool, true, false}
use mathlib.Core.List.{List, [], ◌∷◌, ◌++◌, map}
use Prim.Native.Nat.{ℕ, zero, suc, ◌+◌, ◌*◌, ◌/◌, ◌%◌, ◌^◌, ◌<◌, suc-le-suc}
use native.Mathlib.Omega.{arith}
use native.Mathlib.Nat.{zero-div, le_of_eq, pow-suc, le_of_suc-le-suc, not-suc-le-zero, add_comm, add-zero, zero-add, add-suc, suc-add, suc-ne-zero, suc_inj}
use native.Mathlib.Numerals.{one-add, add-four}
use lib.Dec.{eqb}
use lib.Pow.{shr-shr}
use lib.ListN.{length, get_or, replicate, length-append, length-map, get_or-append}
use lib.Seq.{get_or_at}
use borrow.Author.Tests.{eqb-true}
use Rattle.choice.specs.Choice.{pick}
use Rattle.choice.proofs.Laws.{pick_cases}
use Rattle.facts.specs.declared.Cell.{Cell}
use Rattle.facts.specs.Facts.{fact_count, unknown, is_known}
use Rattle.facts.specs.Record.{record_size, cell_of, unreached, mask_of, value_byte, record_of, fact_at, facts_from, read_cell, FineCell}

abbrev pub known_bit : ℕ → ℕ
known_bit f = pick (is_known f) 1 0

bit_small : (f : ℕ) → known_bit f < 2
bit_small f = pick_cases (λ (x : ℕ). x < 2) (is_known f) (λ e. omega arith) (λ e. omega arith)

half : (w m : ℕ) → w < 2 → (w + 2 * m) / 2 ≡ m
half w m h = omega arith

-- a bit for each fact
pub mask_lt : (fs : List ℕ) → mask_of fs < 2 ^ length fs
unfolding mask_of
mask_lt [] = omega arith
mask_lt (f ∷ fs) = let h = bit_small f in let m = mask_lt fs in omega (arith, pow-suc 2 (length fs))

-- the bit of weight 2^k of the mask
pub mask_bit : (fs : List ℕ) (k : ℕ) → mask_of fs / 2 ^ k % 2 ≡ known_bit (get_or fs k unknown)
unfolding mask_of
mask_bit [] k = rw (zero-div (2 ^ k))
mask_bit (f ∷ fs) zero = let h = bit_small f in omega arith
mask_bit (f ∷ fs) (suc k) =
    rw (← one-add k, ← shr-shr (known_bit f + 2 * mask_of fs) 1 k, half (known_bit f) (mask_of fs) (bit_small f)) (mask_bit fs k)

-- a record's mask bytes give the mask back
joined : (m : ℕ) → m % 256 + 256 * (m / 256) ≡ m
joined m = omega arith

get_d_map : (fs : List ℕ) (k : ℕ) → k < length fs → get_or (map value_byte fs) k 0 ≡ value_byte (get_or fs k unknown)
get_d_map [] k h = absurd (not-suc-le-zero h)
get_d_map (f ∷ fs) zero h = refl
get_d_map (f ∷ fs) (suc k) h = get_d_map fs k (le_of_suc-le-suc h)

-- the value byte behind its bit is the fact
back : (f : ℕ) → pick (eqb (known_bit f) 1) (value_byte f) unknown ≡ f
back f = go (eqb f unknown) refl
  where
    go : (b : Bool) → eqb f unknown ≡ b → pick (eqb (known_bit f) 1) (value_byte f) unknown ≡ f
    go true e = rw e (sym (eqb-true f unknown e))
    go false e = rw e

past : (a b c d : ℕ) (l : List ℕ) (k : ℕ) → get_or (a ∷ b ∷ c ∷ d ∷ l) (4 + k) 0 ≡ get_or l k 0
past a b c d l k = rw (add_comm 4 k, add-four k)

facts_from_lem : (bytes : List ℕ) (j n : ℕ) (fs : List ℕ) → length fs ≡ n → ((k : ℕ) → k < n → fact_at bytes (j + k) ≡ get_or fs k unknown) → facts_from bytes j n ≡ fs
facts_from_lem bytes j zero [] e h = refl
facts_from_lem bytes j zero (f ∷ fs) e h = absurd (suc-ne-zero (length fs) e)
facts_from_lem bytes j (suc n) [] e h = absurd (suc-ne-zero n (sym e))
facts_from_lem bytes j (suc n) (f ∷ fs) e h =
    let first : fact_at bytes j ≡ f = rw add-zero at (h zero (omega arith)) in
    let rest = facts_from_lem bytes (suc j) n fs (suc_inj e) (λ k l. rw (suc-add j k, ← add-suc j k) (h (suc k) (suc-le-suc l))) in
    cc

reached_back : (r : Bool) → eqb (pick r 1 0) 1 ≡ r
reached_back true = refl
reached_back false = refl

module _ (c : Cell) (finding : ℕ) (fine : FineCell c) where
  pub record_length_lem : length (record_of c finding) ≡ record_size
  unfolding record_of
  record_length_lem = rw (length-append (map value_byte c.facts) (0 ∷ []), length-map c.facts value_byte, fine.facts)

  -- its bytes: the first two, the mask, the values, the last
  pub reached_at : eqb (get_or (record_of c finding) 0 0) 1 ≡ c.reached
  unfolding record_of
  reached_at = reached_back c.reached

  pub finding_at_lem : get_or (record_of c finding) 1 0 ≡ finding
  unfolding record_of
  finding_at_lem = refl

  pub mask_at : get_or (record_of c finding) 2 0 + 256 * get_or (record_of c finding) 3 0 ≡ mask_of c.facts
  unfolding record_of
  mask_at = joined (mask_of c.facts)

  pub value_at : (k : ℕ) → k < fact_count → get_or (record_of c finding) (4 + k) 0 ≡ value_byte (get_or c.facts k unknown)
  unfolding record_of
  value_at k h =
      let inside : k < length c.facts = rw fine.facts h in
      let mapped : k < length (map value_byte c.facts) = rw (length-map c.facts value_byte) inside in
      past (pick c.reached 1 0) finding (mask_of c.facts % 256) (mask_of c.facts / 256) (map value_byte c.facts ++ (0 ∷ [])) k
      ∙ get_or-append (map value_byte c.facts) (0 ∷ []) 0 k mapped ∙ get_d_map c.facts k inside

  pub last_at : get_or (record_of c finding) 15 0 ≡ 0
  unfolding record_of
  last_at = get_or_at (map value_byte c.facts) 0 [] 0 fact_count (length-map c.facts value_byte ∙ fine.facts)

  fact_back : (k : ℕ) → k < fact_count → fact_at (record_of c finding) k ≡ get_or c.facts k unknown
  fact_back k h = rw (mask_at, value_at k h, mask_bit c.facts k) (back (get_or c.facts k unknown))

  pub read_back : read_cell (record_of c finding) ≡ c
  unfolding read_cell record_of
  read_back =
      let r = reached_at in
      let f : facts_from (record_of c finding) 0 fact_count ≡ c.facts = facts_from_lem (record_of c finding) 0 fact_count c.facts fine.facts (λ k h. rw zero-add (fact_back k h)) in
      λ i. cell_of (r i) (f i)

-- ---- a cell that is not reached

pub unreached_fine : FineCell unreached
unreached_fine = record { facts = refl; bounded = λ k. le_of_eq (replicate_at fact_count k unknown); blank = λ e. refl }
  where
    replicate_at : (n k a : ℕ) → get_or (replicate n a) k a ≡ a
    replicate_at zero k a = refl
    replicate_at (suc n) zero a = refl
    replicate_at (suc n) (suc k) a = replicate_at n k a

-- its record is all zero
pub zeros_record : record_of unreached 0 ≡ replicate record_size 0
unfolding record_of mask_of
zeros_record = refl

pub zeros_read : read_cell (replicate record_size 0) ≡ unreached
unfolding read_cell
zeros_read = refl
