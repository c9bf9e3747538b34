-- Sets counted a word at a time (document 02, 2026-05): the ones of a word are those of its bytes, and the ones of a byte are
-- the addresses in it.
use Rattle.std.specs.Prelude.{◌≡◌, List, ℕ, zero, suc, ◌+◌, ◌*◌, ◌^◌, get_or}
use Rattle.std.specs.Int.Count.{ones}
use Rattle.state.specs.State.{EachBelow}
use Rattle.map.specs.Map.{count_below}

-- the n bytes from place `at` on as one number, byte k of them with weight 2^(8k); "such a word of 64 bits" has eight
unfoldable pub number_from : List ℕ → ℕ → ℕ → ℕ
number_from bytes at zero = 0
number_from bytes at (suc n) = number_from bytes at n + get_or bytes (at + n) 0 * 2 ^ (8 * n)

-- the ones of each of these n bytes, together
unfoldable pub ones_from : List ℕ → ℕ → ℕ → ℕ
ones_from bytes at zero = 0
ones_from bytes at (suc n) = ones_from bytes at n + ones (get_or bytes (at + n) 0)

-- "the ones of such a word of 64 bits are those of its eight bytes together": of any number of bytes, at any place
abbrev pub OnesTogether : Type 0
OnesTogether = (bytes : List ℕ) → EachBelow 256 bytes → (at n : ℕ) → ones (number_from bytes at n) ≡ ones_from bytes at n

-- the ones of byte j of set k are its addresses 8j to 8j + 7
abbrev pub OnesAreAddresses : Type 0
OnesAreAddresses =
    (map : List ℕ) → EachBelow 256 map → (k j : ℕ)
    → count_below map k (j * 8 + 8) ≡ count_below map k (j * 8) + ones (get_or map (k * 32 + j) 0)
