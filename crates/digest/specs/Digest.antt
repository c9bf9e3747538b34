-- The FNV-1a digest of 64 bits, and the bytes that test cases are made of: those of a linear congruential generator, and
-- a word's two in turn.
use Rattle.std.specs.Prelude.{List, [], ◌∷◌, ℕ, zero, suc, ◌+◌, ◌*◌, ◌/◌, ◌%◌}
use Rattle.std.specs.Int.Bits.{bit_xor}

-- FNV's offset basis: the digest of no bytes
abbrev pub empty_digest : ℕ
empty_digest = 14695981039346656037

-- one more byte: exclusive or, then the product with FNV's prime, kept to 64 bits
abbrev pub digest_byte : ℕ → ℕ → ℕ
digest_byte h byte = bit_xor h byte * 1099511628211 % 18446744073709551616

-- the digest h gone on over the bytes
unfoldable pub digest_of : ℕ → List ℕ → ℕ
digest_of h [] = h
digest_of h (byte ∷ bytes) = digest_of (digest_byte h byte) bytes

-- the generator's next number
abbrev pub next_number : ℕ → ℕ
next_number x = (x * 1103515245 + 12345) % 4294967296

-- the byte that a number of the generator gives
abbrev pub number_byte : ℕ → ℕ
number_byte x = x / 65536 % 256

-- the generator's first n bytes behind the number x
unfoldable pub generated : ℕ → ℕ → List ℕ
generated x zero = []
generated x (suc n) = number_byte (next_number x) ∷ generated (next_number x) n

-- n bytes, a and b in turn
unfoldable pub in_turn : ℕ → ℕ → ℕ → List ℕ
in_turn a b zero = []
in_turn a b (suc n) = a ∷ in_turn b a n
