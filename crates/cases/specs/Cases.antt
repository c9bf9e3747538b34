-- The text of test cases: places, numbers, and bytes in their five forms.
use Rattle.std.specs.Prelude.{◌&&◌, List, [], ◌∷◌, ◌++◌, ℕ, zero, suc, ◌+◌, ◌-◌, ◌*◌, ◌%◌, min, eqb, leb, ltb, length, get_or, drop}
use Rattle.std.specs.List.{position_or_len}
use Rattle.choice.specs.Choice.{pick}
use Rattle.word.specs.Word.{is_valid}
use Rattle.digest.specs.Digest.{next_number, number_byte, generated, in_turn}

-- the place behind the next mark at or after a place, or the text's end
abbrev pub place_behind : List ℕ → ℕ → ℕ → ℕ
place_behind text from mark = min (from + position_or_len (eqb mark) (drop from text) + 1) (length text)

-- the value of a decimal or hexadecimal digit, 0-9 or a-f; 16 where there is none
unfoldable pub digit_of : ℕ → ℕ
digit_of byte =
    pick (ltb byte 48) 16 (pick (ltb byte 58) (byte - 48) (pick (ltb byte 97) 16 (pick (ltb byte 103) (byte - 87) 16)))

-- a number with the decimal digits at the start of a text behind its own, kept to 32 bits
unfoldable pub with_digits : ℕ → List ℕ → ℕ
with_digits n [] = n
with_digits n (byte ∷ text) = pick (ltb (digit_of byte) 10) (with_digits ((n * 10 + digit_of byte) % 4294967296) text) n

-- the decimal number whose digits begin at a place
abbrev pub decimal_at : List ℕ → ℕ → ℕ
decimal_at text at = with_digits 0 (drop at text)

-- the byte of two hexadecimal digits; 256 where one is missing
abbrev pub digits_byte : ℕ → ℕ → ℕ
digits_byte high low = pick (eqb high 16) 256 (pick (eqb low 16) 256 (high * 16 + low))

-- the byte of the two digits at a place
unfoldable pub hex_byte_at : List ℕ → ℕ → ℕ
hex_byte_at text at = digits_byte (digit_of (get_or text at 0)) (digit_of (get_or text (at + 1) 0))

-- hex: the bytes of two digits each from a place on, until no two come, at most n
unfoldable pub hex_from : List ℕ → ℕ → ℕ → List ℕ
hex_from text at zero = []
hex_from text at (suc n) = pick (eqb (hex_byte_at text at) 256) [] (hex_byte_at text at ∷ hex_from text (at + 2) n)

-- a word's two bytes where it is valid and there is room for them, else none
unfoldable pub word_bytes : ℕ → ℕ → ℕ → List ℕ
word_bytes room high low = pick (leb 2 room && is_valid (high * 256 + low)) (high ∷ low ∷ []) []

-- valid: the valid words among the generator's first n behind the number x, as far as there is room
unfoldable pub valid_words : ℕ → ℕ → ℕ → List ℕ
valid_words zero x room = []
valid_words (suc n) x room =
    let y : ℕ = next_number x in
    let z : ℕ = next_number y in
    let word : List ℕ = word_bytes room (number_byte y) (number_byte z) in
    word ++ valid_words n z (room - length word)

-- The bytes of the form at a place, at most room: hex:DIGITS, lcg:SEED:COUNT, fill:WORD:COUNT, valid:SEED:COUNT, and none
-- for any other. The letters are those of ASCII, 58 is the colon.
unfoldable pub form_bytes : List ℕ → ℕ → ℕ → List ℕ
form_bytes text from room =
    let first : ℕ = place_behind text from 58 in
    let count : ℕ = decimal_at text (place_behind text first 58) in
    pick (eqb (get_or text from 0) 104) (hex_from text first room)
    (pick (eqb (get_or text from 0) 108) (generated (decimal_at text first) (min count room))
    (pick (eqb (get_or text from 0) 102) (in_turn (hex_byte_at text first % 256) (hex_byte_at text (first + 2) % 256) (min (2 * count) room))
    (pick (eqb (get_or text from 0) 118) (valid_words 65536 (decimal_at text first) (min (2 * count) room)) [])))
