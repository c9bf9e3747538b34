-- Lines of a listing page, computed by the definitions: the operands that 2026-06 of document 02 prints, the last address with the
-- last word, and an invalid word.
use mathlib.Core.Path.{◌≡◌, refl}
use mathlib.Core.List.{[], ◌∷◌}
use Rattle.word.specs.Word.{is_valid}
use Rattle.text.specs.Text.{octal}
use Rattle.mnemonics.specs.Layout.{mnemonic_of, layout_of, operands_text}
use Rattle.columns.specs.Line.{page_line}

-- `00000 000500 MOVE 01 2 00`
pub move_line : page_line 0 0x0140 ≡ 48 ∷ 48 ∷ 48 ∷ 48 ∷ 48 ∷ 32 ∷ 48 ∷ 48 ∷ 48 ∷ 53 ∷ 48 ∷ 48 ∷ 32 ∷ 77 ∷ 79 ∷ 86 ∷ 69 ∷ 32 ∷ 48 ∷ 49 ∷ 32 ∷ 50 ∷ 32 ∷ 48 ∷ 48 ∷ 32 ∷ 32 ∷ 32 ∷ 32 ∷ 32 ∷ 32 ∷ 10 ∷ []
unfolding page_line mnemonic_of layout_of operands_text octal is_valid
move_line = refl

-- `00001 101715 XEC  03 315`
pub xec_register_line : page_line 1 0x83CD ≡ 48 ∷ 48 ∷ 48 ∷ 48 ∷ 49 ∷ 32 ∷ 49 ∷ 48 ∷ 49 ∷ 55 ∷ 49 ∷ 53 ∷ 32 ∷ 88 ∷ 69 ∷ 67 ∷ 32 ∷ 32 ∷ 48 ∷ 51 ∷ 32 ∷ 51 ∷ 49 ∷ 53 ∷ 32 ∷ 32 ∷ 32 ∷ 32 ∷ 32 ∷ 32 ∷ 32 ∷ 10 ∷ []
unfolding page_line mnemonic_of layout_of operands_text octal is_valid
xec_register_line = refl

-- `00002 112166 XEC  24 3 26`
pub xec_bank_line : page_line 2 0x9476 ≡ 48 ∷ 48 ∷ 48 ∷ 48 ∷ 50 ∷ 32 ∷ 49 ∷ 49 ∷ 50 ∷ 49 ∷ 54 ∷ 54 ∷ 32 ∷ 88 ∷ 69 ∷ 67 ∷ 32 ∷ 32 ∷ 50 ∷ 52 ∷ 32 ∷ 51 ∷ 32 ∷ 50 ∷ 54 ∷ 32 ∷ 32 ∷ 32 ∷ 32 ∷ 32 ∷ 32 ∷ 10 ∷ []
unfolding page_line mnemonic_of layout_of operands_text octal is_valid
xec_bank_line = refl

-- `17777 177777 JMP  17777`
pub last_line : page_line 8191 0xFFFF ≡ 49 ∷ 55 ∷ 55 ∷ 55 ∷ 55 ∷ 32 ∷ 49 ∷ 55 ∷ 55 ∷ 55 ∷ 55 ∷ 55 ∷ 32 ∷ 74 ∷ 77 ∷ 80 ∷ 32 ∷ 32 ∷ 49 ∷ 55 ∷ 55 ∷ 55 ∷ 55 ∷ 32 ∷ 32 ∷ 32 ∷ 32 ∷ 32 ∷ 32 ∷ 32 ∷ 32 ∷ 10 ∷ []
unfolding page_line mnemonic_of layout_of operands_text octal is_valid
last_line = refl

-- `00003 000010 ????`
pub invalid_line : page_line 3 0x0008 ≡ 48 ∷ 48 ∷ 48 ∷ 48 ∷ 51 ∷ 32 ∷ 48 ∷ 48 ∷ 48 ∷ 48 ∷ 49 ∷ 48 ∷ 32 ∷ 63 ∷ 63 ∷ 63 ∷ 63 ∷ 32 ∷ 32 ∷ 32 ∷ 32 ∷ 32 ∷ 32 ∷ 32 ∷ 32 ∷ 32 ∷ 32 ∷ 32 ∷ 32 ∷ 32 ∷ 32 ∷ 10 ∷ []
unfolding page_line mnemonic_of layout_of operands_text octal is_valid
invalid_line = refl
