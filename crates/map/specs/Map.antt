-- The access map ("The map" of document 01): which bus addresses each bank may read and write.
-- Bank 0 is left, 1 is right.
use Rattle.std.specs.Prelude.{Bool, ◌||◌, List, [], ◌∷◌, ◌≡◌, ℕ, zero, suc, ◌+◌, ◌*◌, ◌/◌, ◌%◌, ◌^◌, eqb, length, get_or, Result, Ok, Err}
use Rattle.choice.specs.Choice.{pick}
use Rattle.refusal.specs.declared.Refusal.{Refusal}
use Rattle.map.specs.declared.SetSizes.{SetSizes}

-- "128 bytes": question 12
abbrev pub map_length : ℕ
map_length = 128

-- four sets of 32 bytes; address a is in set k when the bit of weight 2^(a mod 8) in its byte a/8 is one
unfoldable pub in_set : List ℕ → ℕ → ℕ → Bool
in_set map k a = eqb (get_or map (k * 32 + a / 8) 0 / 2 ^ (a % 8) % 2) 1

-- in order left readable, left writable, right readable, right writable
abbrev pub readable : List ℕ → ℕ → ℕ → Bool
readable map bank a = in_set map (2 * bank) a

abbrev pub writable : List ℕ → ℕ → ℕ → Bool
writable map bank a = in_set map (2 * bank + 1) a

-- "listed for a bank when it is in either of its sets"
abbrev pub listed : List ℕ → ℕ → ℕ → Bool
listed map bank a = readable map bank a || writable map bank a

-- how many of the first n addresses are in set k
unfoldable pub count_below : List ℕ → ℕ → ℕ → ℕ
count_below map k zero = 0
count_below map k (suc n) = count_below map k n + pick (in_set map k n) 1 0

-- how many addresses set k has
abbrev pub count_of : List ℕ → ℕ → ℕ
count_of map k = count_below map k 256

-- "whose right readable set is empty" (2026-08 of document 02), of a bank
abbrev pub NothingReadable : List ℕ → ℕ → Type 0
NothingReadable map bank = count_of map (2 * bank) ≡ 0

-- The counts of the four sets, or the refusal 12.
pub data Counts : Type 0 where
  Sets : ℕ → ℕ → ℕ → ℕ → Counts
  Refused : Counts

-- what the code answers
abbrev pub counts_told : Result SetSizes Refusal → Counts
counts_told (Ok sizes) = Sets sizes.left_readable sizes.left_writable sizes.right_readable sizes.right_writable
counts_told (Err refusal) = Refused

-- "counting a map's sets" puts question 12, then gives how many addresses each set has
unfoldable pub counted : List ℕ → Counts
counted map =
    pick (eqb (length map) map_length) (Sets (count_of map 0) (count_of map 1) (count_of map 2) (count_of map 3)) Refused

-- The paper's numbers for each case: the four counts, or 12.
abbrev pub counts_of : Counts → List ℕ
counts_of (Sets a b c d) = a ∷ b ∷ c ∷ d ∷ []
counts_of Refused = 12 ∷ []

-- The same numbers from the bytes: question 12, then the four counts.
unfoldable pub counting : List ℕ → List ℕ
counting map =
    pick (eqb (length map) map_length) (count_of map 0 ∷ count_of map 1 ∷ count_of map 2 ∷ count_of map 3 ∷ []) (12 ∷ [])
