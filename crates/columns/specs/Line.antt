-- The line of a word on the listing page (2026-06 of document 02), as bytes of ASCII.
use Rattle.std.specs.Prelude.{List, [], ◌∷◌, ℕ}
use Rattle.text.specs.Text.{space_text, end_text, octal, filled, joined}
use Rattle.mnemonics.specs.Layout.{mnemonic_of, layout_of, operands_text}

-- "Columns 1-5 hold the address in octal, 7-12 the word in octal, 14-17 the mnemonic, 19-31 the operands; other columns are
-- spaces and byte 32 is a line feed."
abbrev pub line_texts : ℕ → ℕ → List (List ℕ)
line_texts address w =
    octal 5 address ∷ space_text ∷ octal 6 w ∷ space_text ∷ filled 4 (mnemonic_of w) ∷ space_text ∷
    filled 13 (operands_text (layout_of w)) ∷ end_text ∷ []

unfoldable pub page_line : ℕ → ℕ → List ℕ
page_line address w = joined (line_texts address w)

-- "one line of exactly 32 bytes"
abbrev pub line_length : ℕ
line_length = 32
