-- The word ("The word" of document 01). Register numbers are octal there: 07 is 7, 10 is 8, 11 is 9,
-- 17 is 15, 20-27 is 16-23, 30-37 is 24-31.
use Rattle.std.specs.Prelude.{Bool, true, ◌&&◌, ◌||◌, List, [], ◌∷◌, ◌≡◌, ℕ, ◌+◌, ◌*◌, ◌/◌, ◌%◌, ◌<◌, ◌≤◌, leb, ltb, eqb, Option, Some, None}
use Rattle.choice.specs.Choice.{pick}
use Rattle.word.specs.declared.Word.{Word}
use Rattle.word.specs.declared.Word.TheVariants.{Move, Add, And, Xor, XecRegister, XecBank, NztRegister, NztBank, Call, Ret, XmitRegister, XmitBank, Jmp, Invalid}

-- 20-37 is a bank
abbrev pub is_bank : ℕ → Bool
is_bank r = leb 16 r && ltb r 32

-- S is 00-06, 10, 11 or 20-37
abbrev pub is_register_source : ℕ → Bool
is_register_source r = ltb r 7 || eqb r 8 || eqb r 9

abbrev pub is_source : ℕ → Bool
is_source r = is_register_source r || is_bank r

-- D is 00-07, 11, 17 or 20-37
abbrev pub is_register_target : ℕ → Bool
is_register_target r = ltb r 8 || eqb r 9 || eqb r 15

abbrev pub is_target : ℕ → Bool
is_target r = is_register_target r || is_bank r

-- The places of the fields. Bits 0-2 are the opcode; bits 3-7 are S, or D of XMIT; bits 8-10 are R or L;
-- bits 11-15 are D, or I beside an L; bits 8-15 are I; the last 13 bits are the address of JMP.
abbrev pub opcode_of : ℕ → ℕ
opcode_of w = w / 8192

abbrev pub bits3to7 : ℕ → ℕ
bits3to7 w = w / 256 % 32

abbrev pub bits8to10 : ℕ → ℕ
bits8to10 w = w / 32 % 8

abbrev pub bits11to15 : ℕ → ℕ
bits11to15 w = w % 32

abbrev pub bits8to15 : ℕ → ℕ
bits8to15 w = w % 256

abbrev pub bits3to15 : ℕ → ℕ
bits3to15 w = w % 8192

-- XEC of a bank: L must be 1 to 5
abbrev pub is_xec_length : ℕ → Bool
is_xec_length l = leb 1 l && ltb l 6

-- Opcodes 0-3, each with its own case; S and D must be listed.
abbrev pub act_of : ℕ → ℕ → ℕ → ℕ → Word
act_of op s rl d = pick (eqb op 0) (Move s rl d) (pick (eqb op 1) (Add s rl d) (pick (eqb op 2) (And s rl d) (Xor s rl d)))

abbrev pub act_read : ℕ → ℕ → ℕ → ℕ → Word
act_read op s rl d = pick (is_source s && is_target d) (act_of op s rl d) Invalid

-- XEC, NZT and XMIT, from S or D, the L and the short I beside a bank, and the I beside a register.
abbrev pub xec_read : ℕ → ℕ → ℕ → ℕ → Word
xec_read s l short i =
    pick (is_bank s)
    (pick (is_xec_length l) (XecBank s l short) Invalid)
    (pick (is_register_source s) (XecRegister s i) Invalid)

-- RET keeps its low byte, whatever it is (document 02, 2026-01).
abbrev pub nzt_read : ℕ → ℕ → ℕ → ℕ → Word
nzt_read s l short i =
    pick (is_bank s)
    (NztBank s l short)
    (pick (is_register_source s)
    (NztRegister s i)
    (pick (eqb s 7) (Call i) (pick (eqb s 15) (Ret i) Invalid)))

abbrev pub xmit_read : ℕ → ℕ → ℕ → ℕ → Word
xmit_read d l short i =
    pick (is_bank d)
    (XmitBank d l short)
    (pick (is_register_target d) (XmitRegister d i) Invalid)

-- Reading a word gives its opcode and fields: one case for each kind.
unfoldable pub decoded : ℕ → Word
decoded w =
    pick (ltb (opcode_of w) 4)
    (act_read (opcode_of w) (bits3to7 w) (bits8to10 w) (bits11to15 w))
    (pick (eqb (opcode_of w) 4)
    (xec_read (bits3to7 w) (bits8to10 w) (bits11to15 w) (bits8to15 w))
    (pick (eqb (opcode_of w) 5)
    (nzt_read (bits3to7 w) (bits8to10 w) (bits11to15 w) (bits8to15 w))
    (pick (eqb (opcode_of w) 6)
    (xmit_read (bits3to7 w) (bits8to10 w) (bits11to15 w) (bits8to15 w))
    (Jmp (bits3to15 w)))))

-- The words that document 01 lists, opcode by opcode, and RET with every low byte (document 02, 2026-01). Any other word
-- is invalid.
unfoldable pub is_valid : ℕ → Bool
is_valid w =
    pick (ltb (opcode_of w) 4)
    (is_source (bits3to7 w) && is_target (bits11to15 w))
    (pick (eqb (opcode_of w) 4)
    (pick (is_bank (bits3to7 w)) (is_xec_length (bits8to10 w)) (is_register_source (bits3to7 w)))
    (pick (eqb (opcode_of w) 5)
    (is_source (bits3to7 w) || eqb (bits3to7 w) 7 || eqb (bits3to7 w) 15)
    (pick (eqb (opcode_of w) 6) (is_target (bits3to7 w)) true)))

-- The paper's numbers for each case: the opcode and the fields in the order of their bits, or 22.
abbrev pub fields_of : Word → List ℕ
fields_of (Move s rl d) = 0 ∷ s ∷ rl ∷ d ∷ []
fields_of (Add s rl d) = 1 ∷ s ∷ rl ∷ d ∷ []
fields_of (And s rl d) = 2 ∷ s ∷ rl ∷ d ∷ []
fields_of (Xor s rl d) = 3 ∷ s ∷ rl ∷ d ∷ []
fields_of (XecRegister s i) = 4 ∷ s ∷ i ∷ []
fields_of (XecBank s l i) = 4 ∷ s ∷ l ∷ i ∷ []
fields_of (NztRegister s i) = 5 ∷ s ∷ i ∷ []
fields_of (NztBank s l i) = 5 ∷ s ∷ l ∷ i ∷ []
fields_of (Call i) = 5 ∷ 7 ∷ i ∷ []
fields_of (Ret i) = 5 ∷ 15 ∷ i ∷ []
fields_of (XmitRegister d i) = 6 ∷ d ∷ i ∷ []
fields_of (XmitBank d l i) = 6 ∷ d ∷ l ∷ i ∷ []
fields_of (Jmp a) = 7 ∷ a ∷ []
fields_of Invalid = 22 ∷ []

-- Reading, in the paper's numbers: the opcode and the fields where the word is listed, else 22.
unfoldable pub reading : ℕ → List ℕ
reading w =
    pick (is_valid w)
    (pick (ltb (opcode_of w) 4)
    (opcode_of w ∷ bits3to7 w ∷ bits8to10 w ∷ bits11to15 w ∷ [])
    (pick (ltb (opcode_of w) 7)
    (pick (is_bank (bits3to7 w))
    (opcode_of w ∷ bits3to7 w ∷ bits8to10 w ∷ bits11to15 w ∷ [])
    (opcode_of w ∷ bits3to7 w ∷ bits8to15 w ∷ []))
    (7 ∷ bits3to15 w ∷ [])))
    (22 ∷ [])

-- A word from its fields: opcode, bits 3-7 and the low byte; the low byte from bits 8-10 and 11-15.
abbrev pub word_of : ℕ → ℕ → ℕ → ℕ
word_of op s low = op * 8192 + s * 256 + low

abbrev pub low_of : ℕ → ℕ → ℕ
low_of l x = l * 32 + x

-- Writing fields gives the word; a field wider than its place or outside the lists gets 22.
abbrev pub bits_if : Bool → ℕ → Option ℕ
bits_if ok w = pick ok (Some w) None

abbrev pub act_bits : ℕ → ℕ → ℕ → ℕ → Option ℕ
act_bits op s rl d = bits_if (is_source s && ltb rl 8 && is_target d) (word_of op s (low_of rl d))

abbrev pub register_bits : ℕ → Bool → ℕ → ℕ → Option ℕ
register_bits op ok s i = bits_if (ok && ltb i 256) (word_of op s i)

abbrev pub bank_bits : ℕ → Bool → ℕ → ℕ → ℕ → Option ℕ
bank_bits op ok s l i = bits_if (ok && is_bank s && ltb i 32) (word_of op s (low_of l i))

abbrev pub jmp_bits : ℕ → Option ℕ
jmp_bits a = bits_if (ltb a 8192) (7 * 8192 + a)

unfoldable pub encoded : Word → Option ℕ
encoded (Move s rl d) = act_bits 0 s rl d
encoded (Add s rl d) = act_bits 1 s rl d
encoded (And s rl d) = act_bits 2 s rl d
encoded (Xor s rl d) = act_bits 3 s rl d
encoded (XecRegister s i) = register_bits 4 (is_register_source s) s i
encoded (XecBank s l i) = bank_bits 4 (is_xec_length l) s l i
encoded (NztRegister s i) = register_bits 5 (is_register_source s) s i
encoded (NztBank s l i) = bank_bits 5 (ltb l 8) s l i
encoded (Call i) = register_bits 5 true 7 i
encoded (Ret i) = register_bits 5 true 15 i
encoded (XmitRegister d i) = register_bits 6 (is_register_target d) d i
encoded (XmitBank d l i) = bank_bits 6 (ltb l 8) d l i
encoded (Jmp a) = jmp_bits a
encoded Invalid = None

-- The paper's numbers for each case of writing: 0 and the word, or 22.
abbrev pub written_of : Option ℕ → List ℕ
written_of (Some w) = 0 ∷ w ∷ []
written_of None = 22 ∷ []

-- Writing, in the paper's numbers.
abbrev pub writing : Word → List ℕ
writing x = written_of (encoded x)

-- Fields within their places and lists: what reading a word gives, and what executing it may rely on.
abbrev pub ActInRange : ℕ → ℕ → ℕ → Type 0
ActInRange s rl d = (s < 32) × (rl < 8) × (d < 32) × (is_source s ≡ true) × (is_target d ≡ true)

abbrev pub RegisterInRange : ℕ → Bool → ℕ → Type 0
RegisterInRange s listed i = (s < 32) × (listed ≡ true) × (i < 256)

abbrev pub BankInRange : ℕ → ℕ → ℕ → Type 0
BankInRange s l i = (s < 32) × (is_bank s ≡ true) × (l < 8) × (i < 32)

abbrev pub InRange : Word → Type 0
InRange (Move s rl d) = ActInRange s rl d
InRange (Add s rl d) = ActInRange s rl d
InRange (And s rl d) = ActInRange s rl d
InRange (Xor s rl d) = ActInRange s rl d
InRange (XecRegister s i) = RegisterInRange s (is_register_source s) i
InRange (XecBank s l i) = BankInRange s l i × (1 ≤ l) × (l < 6)
InRange (NztRegister s i) = RegisterInRange s (is_register_source s) i
InRange (NztBank s l i) = BankInRange s l i
InRange (Call i) = i < 256
InRange (Ret i) = i < 256
InRange (XmitRegister d i) = RegisterInRange d (is_register_target d) i
InRange (XmitBank d l i) = BankInRange d l i
InRange (Jmp a) = a < 8192
InRange Invalid = Unit
