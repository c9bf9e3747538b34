-- What a word shows on a listing page (2026-06 of document 02), as bytes of ASCII: its mnemonic and its operands.
use Rattle.std.specs.Prelude.{Bool, ◌&&◌, ◌||◌, List, [], ◌∷◌, ◌++◌, ℕ, ◌+◌, ◌^◌, ◌<◌, ltb, eqb, get_or}
use Rattle.choice.specs.Choice.{pick}
use Rattle.word.specs.Word.{is_bank, opcode_of, bits3to7, bits8to10, bits11to15, bits8to15, bits3to15, is_valid}
use Rattle.text.specs.Text.{space_text, octal}

-- Mnemonics in the order of the opcodes: MOVE ADD AND XOR XEC NZT XMIT JMP
abbrev pub opcode_names : List (List ℕ)
opcode_names =
    (77 ∷ 79 ∷ 86 ∷ 69 ∷ []) ∷ (65 ∷ 68 ∷ 68 ∷ []) ∷ (65 ∷ 78 ∷ 68 ∷ []) ∷ (88 ∷ 79 ∷ 82 ∷ []) ∷ (88 ∷ 69 ∷ 67 ∷ []) ∷
    (78 ∷ 90 ∷ 84 ∷ []) ∷ (88 ∷ 77 ∷ 73 ∷ 84 ∷ []) ∷ (74 ∷ 77 ∷ 80 ∷ []) ∷ []

-- "CALL"
abbrev pub call_text : List ℕ
call_text = 67 ∷ 65 ∷ 76 ∷ 76 ∷ []

-- "RET"
abbrev pub ret_text : List ℕ
ret_text = 82 ∷ 69 ∷ 84 ∷ []

-- "????"
abbrev pub invalid_text : List ℕ
invalid_text = 63 ∷ 63 ∷ 63 ∷ 63 ∷ []

-- a word of opcode 5 with this S
abbrev pub is_nzt_of : ℕ → ℕ → Bool
is_nzt_of s w = eqb (opcode_of w) 5 && eqb (bits3to7 w) s

-- "S = 07 is CALL", "S = 17 is RET" ("The word" of document 01)
abbrev pub is_call_word : ℕ → Bool
is_call_word w = is_nzt_of 7 w

abbrev pub is_ret_word : ℕ → Bool
is_ret_word w = is_nzt_of 15 w

-- the mnemonic of a valid word
abbrev pub name_of : ℕ → List ℕ
name_of w = pick (is_call_word w) call_text (pick (is_ret_word w) ret_text (get_or opcode_names (opcode_of w) []))

-- An operand: its value, and the octal digits that it takes.
pub record Operand : Type 0 where
  pub value : ℕ
  pub digits : ℕ

abbrev pub operand : ℕ → ℕ → Operand
operand value digits = record { value = value; digits = digits }

-- `01 2 00` or `24 3 26`: S, R or L, D; S, L, I; D, L, I
abbrev pub three_fields : ℕ → ℕ → ℕ → List Operand
three_fields s l x = operand s 2 ∷ operand l 1 ∷ operand x 2 ∷ []

-- `03 315`: S, I; D, I
abbrev pub two_fields : ℕ → ℕ → List Operand
two_fields s i = operand s 2 ∷ operand i 3 ∷ []

-- one operand
abbrev pub one_field : ℕ → ℕ → List Operand
one_field x digits = operand x digits ∷ []

-- The operands of a valid word: five digits for JMP; three fields for opcodes 0-3 and with a bank; three digits for CALL and
-- RET; else two fields.
abbrev pub operands_of : ℕ → List Operand
operands_of w =
    pick (eqb (opcode_of w) 7) (one_field (bits3to15 w) 5)
    (pick (ltb (opcode_of w) 4 || is_bank (bits3to7 w)) (three_fields (bits3to7 w) (bits8to10 w) (bits11to15 w))
    (pick (is_call_word w || is_ret_word w) (one_field (bits8to15 w) 3) (two_fields (bits3to7 w) (bits8to15 w))))

-- "An invalid word has `????` and no operands."
unfoldable pub mnemonic_of : ℕ → List ℕ
mnemonic_of w = pick (is_valid w) (name_of w) invalid_text

unfoldable pub layout_of : ℕ → List Operand
layout_of w = pick (is_valid w) (operands_of w) []

-- "Operands in octal, one space between"
abbrev pub operand_text : Operand → List ℕ
operand_text o = octal o.digits o.value

unfoldable pub operands_text : List Operand → List ℕ
operands_text [] = []
operands_text (o ∷ []) = operand_text o
operands_text (o ∷ p ∷ rest) = operand_text o ++ (space_text ++ operands_text (p ∷ rest))

-- The width of a layout: the digits of its operands, and one space between.
unfoldable pub layout_width : List Operand → ℕ
layout_width [] = 0
layout_width (o ∷ []) = o.digits
layout_width (o ∷ p ∷ rest) = o.digits + (1 + layout_width (p ∷ rest))

-- Each operand is below 8 to the number of its digits, so that none of it is lost.
pub data Shown : List Operand → Type 0 where
  none : Shown []
  also : {o : Operand} {rest : List Operand} → o.value < 8 ^ o.digits → Shown rest → Shown (o ∷ rest)
