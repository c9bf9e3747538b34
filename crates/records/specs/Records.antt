-- What a table that came along is asked of its records (2026-09 of document 02): "Every record has the layout of document 01
-- with byte 1 zero and OVF unknown, 0 or 1".
use Rattle.std.specs.Prelude.{Bool, true, ◌&&◌, ◌||◌, List, [], ◌∷◌, ℕ, zero, suc, ◌+◌, ◌*◌, ◌/◌, ◌%◌, ◌^◌, ltb, eqb, get_or}
use Rattle.choice.specs.Choice.{pick}
use Rattle.state.specs.State.{overflow_slot}
use Rattle.facts.specs.Facts.{fact_count}

-- "Bytes 2-3, low first: which of 11 facts are known, weight 2^k for fact k"
abbrev pub mask_in : List ℕ → ℕ
mask_in bytes = get_or bytes 2 0 + 256 * get_or bytes 3 0

-- "Bytes 4-14: their values, 0 if unknown": of n facts from fact k on
unfoldable pub values_fit : List ℕ → ℕ → ℕ → Bool
values_fit bytes k zero = true
values_fit bytes k (suc n) = (eqb (mask_in bytes / 2 ^ k % 2) 1 || eqb (get_or bytes (4 + k) 0) 0) && values_fit bytes (suc k) n

-- A reached record: byte 1 zero; no bit of the mask above fact 10; the values; OVF's, which is 0 where it is unknown, 0 or 1;
-- "Byte 15: 0".
unfoldable pub reached_fits : List ℕ → Bool
reached_fits bytes =
    eqb (get_or bytes 1 0) 0 && ltb (mask_in bytes) (2 ^ fact_count) && values_fit bytes 0 fact_count &&
    ltb (get_or bytes (4 + overflow_slot) 0) 2 && eqb (get_or bytes 15 0) 0

unfoldable pub all_zero : List ℕ → Bool
all_zero [] = true
all_zero (b ∷ bs) = eqb b 0 && all_zero bs

-- "Byte 0: 1 reached, else 0"; "Unreached records are all zero."
abbrev pub record_fits : List ℕ → Bool
record_fits bytes = pick (eqb (get_or bytes 0 0) 1) (reached_fits bytes) (all_zero bytes)
