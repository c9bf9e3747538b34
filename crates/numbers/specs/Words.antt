-- A word as one number: what riptide_read_word gives, what riptide_write_word takes and gives, and how a caller takes a
-- number apart.
use Rattle.std.specs.Prelude.{◌&&◌, Option, Some, None, ℕ, ◌+◌, ◌*◌, ◌/◌, ◌%◌, ◌^◌, eqb}
use Rattle.choice.specs.Choice.{pick}
use Rattle.word.specs.declared.Word.{Word}
use Rattle.word.specs.declared.Word.TheVariants.{Move, Add, And, Xor, XecRegister, XecBank, NztRegister, NztBank, Call, Ret, XmitRegister, XmitBank, Jmp, Invalid}
use Rattle.word.specs.Word.{is_bank}

-- riptide_read_word: opcode × 256 and the fields in the order of their bits, each in 16 bits; a word of fewer than three
-- has zeros there. 22 for an invalid word.
abbrev pub fields_number : ℕ → ℕ → ℕ → ℕ → ℕ
fields_number op a b c = op * 256 + a * 65536 + b * 4294967296 + c * 281474976710656

abbrev pub read_number : Word → ℕ
read_number (Move s rl d) = fields_number 0 s rl d
read_number (Add s rl d) = fields_number 1 s rl d
read_number (And s rl d) = fields_number 2 s rl d
read_number (Xor s rl d) = fields_number 3 s rl d
read_number (XecRegister s i) = fields_number 4 s i 0
read_number (XecBank s l i) = fields_number 4 s l i
read_number (NztRegister s i) = fields_number 5 s i 0
read_number (NztBank s l i) = fields_number 5 s l i
read_number (Call i) = fields_number 5 7 i 0
read_number (Ret i) = fields_number 5 15 i 0
read_number (XmitRegister d i) = fields_number 6 d i 0
read_number (XmitBank d l i) = fields_number 6 d l i
read_number (Jmp a) = fields_number 7 a 0 0
read_number Invalid = 22

-- riptide_write_word takes the opcode and the fields as riptide_read_word gives them: XEC, NZT and XMIT of a bank have
-- three fields, of a register two, JMP has one, and a field that is not there must be 0. CALL is NZT's form with the
-- register 07, RET with 17.
unfoldable pub xec_from : ℕ → ℕ → ℕ → Word
xec_from a b c = pick (is_bank a) (XecBank a b c) (pick (eqb c 0) (XecRegister a b) Invalid)

unfoldable pub nzt_from : ℕ → ℕ → ℕ → Word
nzt_from a b c =
    pick (is_bank a) (NztBank a b c)
    (pick (eqb c 0) (pick (eqb a 7) (Call b) (pick (eqb a 15) (Ret b) (NztRegister a b))) Invalid)

unfoldable pub xmit_from : ℕ → ℕ → ℕ → Word
xmit_from a b c = pick (is_bank a) (XmitBank a b c) (pick (eqb c 0) (XmitRegister a b) Invalid)

unfoldable pub word_from : ℕ → ℕ → ℕ → ℕ → Word
word_from op a b c =
    pick (eqb op 0) (Move a b c)
    (pick (eqb op 1) (Add a b c)
    (pick (eqb op 2) (And a b c)
    (pick (eqb op 3) (Xor a b c)
    (pick (eqb op 4) (xec_from a b c)
    (pick (eqb op 5) (nzt_from a b c)
    (pick (eqb op 6) (xmit_from a b c)
    (pick (eqb op 7 && (eqb b 0 && eqb c 0)) (Jmp a) Invalid)))))))

-- word × 256, or 22
abbrev pub write_number : Option ℕ → ℕ
write_number (Some w) = w * 256
write_number None = 22

-- How a caller takes a number apart, as the macros of include/riptide.h do: `width` bits from bit `place` on, bit 0 being
-- the lowest here.
abbrev pub bits_from : ℕ → ℕ → ℕ → ℕ
bits_from place width n = n / 2 ^ place % 2 ^ width

-- RIPTIDE_NUMBER: 0, a refusal below 21, or a stop or finding
abbrev pub number_in : ℕ → ℕ
number_in n = n % 256

-- The word and the encoding that the numbers stand for: RIPTIDE_OPCODE and RIPTIDE_FIELD_1 to 3; RIPTIDE_WORD.
abbrev pub word_in : ℕ → Word
word_in n = word_from (bits_from 8 8 n) (bits_from 16 16 n) (bits_from 32 16 n) (bits_from 48 16 n)

abbrev pub encoding_in : ℕ → Option ℕ
encoding_in n = pick (eqb (number_in n) 0) (Some (bits_from 8 16 n)) None
