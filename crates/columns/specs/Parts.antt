-- The columns of a word as the code puts them.
use Rattle.std.specs.Prelude.{List, [], ◌∷◌, ◌++◌, ℕ}
use Rattle.text.specs.Text.{space_text, filled}
use Rattle.mnemonics.specs.Layout.{Operand, mnemonic_of, layout_of, operand_text, operands_text}

-- operands, each behind a space
unfoldable pub spaced_text : List Operand → List ℕ
spaced_text [] = []
spaced_text (o ∷ rest) = space_text ++ (operand_text o ++ spaced_text rest)

-- columns 14-31 of a word's line
unfoldable pub word_text : ℕ → List ℕ
word_text w = filled 4 (mnemonic_of w) ++ (space_text ++ filled 13 (operands_text (layout_of w)))
