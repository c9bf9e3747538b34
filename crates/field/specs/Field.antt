-- Bytes and their fields. Bit 0 of a byte is the most significant ("Sources and extent").
use Rattle.std.specs.Prelude.{ℕ, ◌+◌, ◌-◌, ◌*◌, ◌/◌, ◌%◌, ◌^◌, min, ◌==◌, bit_and, bit_xor}
use Rattle.choice.specs.Choice.{pick}

-- "One step", source: a byte rotated right p places, p at most 7
unfoldable pub rotate_right : ℕ → ℕ → ℕ
rotate_right p x = x % 2 ^ p * 2 ^ (8 - p) + x / 2 ^ p

-- "The word": L = 0 means 8 bits
abbrev pub width_of : ℕ → ℕ
width_of l = pick (l == 0) 8 l

-- "One step", source: the low L bits
unfoldable pub low_bits : ℕ → ℕ → ℕ
low_bits l x = x % 2 ^ width_of l

-- "One step", source: a bank's byte rotated right 7 - S0 places, then the low L bits
unfoldable pub field_of : ℕ → ℕ → ℕ → ℕ
field_of p l x = low_bits l (rotate_right (7 - p) x)

-- A byte whose width bits that start below bits from the least significant end are those of value.
abbrev pub block : ℕ → ℕ → ℕ → ℕ → ℕ
block width below value byte =
    byte / 2 ^ (width + below) * 2 ^ (width + below) + value % 2 ^ width * 2 ^ below + byte % 2 ^ below

-- "One step", to a bank: the low L bits of the value, shifted left 7 - D0, replace their bits in the
-- latch; bits pushed past bit 0 are dropped, so that at most D0 + 1 bits fit
unfoldable pub merge_into : ℕ → ℕ → ℕ → ℕ → ℕ
merge_into p l value latch = block (min (width_of l) (p + 1)) (7 - p) value latch

-- "One step", result: AUX with the source added, kept to 8 bits, and the carry beside it
abbrev pub sum_of : ℕ → ℕ → ℕ
sum_of aux x = (aux + x) % 256

-- "ADD alone sets OVF: 1 if the sum exceeds 255, else 0"
abbrev pub carry_of : ℕ → ℕ → ℕ
carry_of aux x = (aux + x) / 256

-- "One step", result: AUX with the source ANDed or XORed
abbrev pub and_of : ℕ → ℕ → ℕ
and_of aux x = bit_and aux x

abbrev pub xor_of : ℕ → ℕ → ℕ
xor_of aux x = bit_xor aux x
