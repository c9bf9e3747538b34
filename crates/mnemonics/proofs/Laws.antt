-- The mnemonic and the layout of a word: how wide they are. Assumes nothing.
use mathlib.Core.Path.{◌≡◌, refl, sym, ◌∙◌}
use mathlib.Core.Bool.{Bool, true, false, ◌&&◌, ◌||◌}
use mathlib.Core.List.{List, [], ◌∷◌, ◌++◌}
use Prim.Native.Nat.{ℕ, zero, suc, ◌≤◌}
use native.Mathlib.Omega.{arith}
use borrow.Author.Tests.{leb-true, eq-eqb, ne_eqb}
use lib.Dec.{leb, ltb, eqb}
use lib.ListN.{length, get_or, length-append}
use Rattle.choice.proofs.Laws.{pick_both, and_first, and_second}
use Rattle.word.specs.Word.{is_bank, opcode_of, bits3to7, bits8to10, bits11to15, bits8to15, bits3to15, is_valid}
use Rattle.text.specs.Text.{space_text, filled}
use Rattle.text.proofs.Writing.{length_octal, length_filled}
use Rattle.mnemonics.specs.Layout.{opcode_names, call_text, ret_text, invalid_text, is_call_word, is_ret_word, mnemonic_of, Operand, three_fields, two_fields, one_field, layout_of, operand_text, operands_text, layout_width, Shown, none, also}

-- ---- the layouts

-- a word that is not valid has no operand
pub layout_invalid : (w : ℕ) → is_valid w ≡ false → [] ≡ layout_of w
unfolding layout_of
layout_invalid w v = rw v

-- MOVE, ADD, AND, XOR, and words with a bank, have three
pub layout_three : (w : ℕ) → is_valid w ≡ true → (opcode_of w ≡ 7 → ⊥) → {bank : Bool} → bank ≡ is_bank (bits3to7 w) → (ltb (opcode_of w) 4 || bank) ≡ true
    → three_fields (bits3to7 w) (bits8to10 w) (bits11to15 w) ≡ layout_of w
unfolding layout_of
layout_three w valid other b t = rw (valid, ne_eqb (opcode_of w) 7 other, sym b, t)

-- what holds of the four layouts, and of none, holds of every word's
layout_each : (P : List Operand → Type 0) (w : ℕ) → P (one_field (bits3to15 w) 5) → P (three_fields (bits3to7 w) (bits8to10 w) (bits11to15 w))
    → P (one_field (bits8to15 w) 3) → P (two_fields (bits3to7 w) (bits8to15 w)) → P [] → P (layout_of w)
unfolding layout_of
layout_each P w jmp three low two nothing =
    pick_both P (is_valid w)
    (pick_both P (eqb (opcode_of w) 7) jmp
    (pick_both P (ltb (opcode_of w) 4 || is_bank (bits3to7 w)) three (pick_both P (is_call_word w || is_ret_word w) low two)))
    nothing

-- ---- the width of a layout

-- a layout's text is as wide as the layout
pub operands_long : (layout : List Operand) → length (operands_text layout) ≡ layout_width layout
unfolding operands_text layout_width
operands_long [] = refl
operands_long (o ∷ []) = length_octal o.digits o.value
operands_long (o ∷ p ∷ rest) =
    length-append (operand_text o) (space_text ++ operands_text (p ∷ rest))
    ∙ omega (arith, length_octal o.digits o.value, operands_long (p ∷ rest))

-- every layout fits columns 19-31
pub layout_fits : (w : ℕ) → layout_width (layout_of w) ≤ 13
unfolding layout_width
layout_fits w =
    layout_each (λ (layout : List Operand). layout_width layout ≤ 13) w (omega arith) (omega arith) (omega arith) (omega arith) (omega arith)

-- every mnemonic fits columns 14-17
all_short : List (List ℕ) → Bool
all_short [] = true
all_short (name ∷ names) = leb (length name) 4 && all_short names

each_short : (names : List (List ℕ)) → all_short names ≡ true → (k : ℕ) → length (get_or names k []) ≤ 4
unfolding all_short
each_short [] h k = omega arith
each_short (name ∷ names) h zero = leb-true (length name) 4 (and_first (leb (length name) 4) (all_short names) h)
each_short (name ∷ names) h (suc k) = each_short names (and_second (leb (length name) 4) (all_short names) h) k

names_short : all_short opcode_names ≡ true
unfolding all_short
names_short = refl

pub mnemonic_long : (w : ℕ) → length (filled 4 (mnemonic_of w)) ≡ 4
unfolding mnemonic_of
mnemonic_long w =
    length_filled 4 (mnemonic_of w)
    (pick_both Short (is_valid w)
    (pick_both Short (is_call_word w) (omega arith) (pick_both Short (is_ret_word w) (omega arith) (each_short opcode_names names_short (opcode_of w))))
    (omega arith))
  where
    Short : List ℕ → Type 0
    Short text = length text ≤ 4

-- every operand is below 8 to the number of its digits
pub layout_shown : (w : ℕ) → Shown (layout_of w)
layout_shown w =
    layout_each Shown w (also (omega arith) none) (also (omega arith) (also (omega arith) (also (omega arith) none)))
    (also (omega arith) none) (also (omega arith) (also (omega arith) none)) none

-- the operands, filled up
pub operands_filled : (w : ℕ) → length (filled 13 (operands_text (layout_of w))) ≡ 13
operands_filled w = length_filled 13 (operands_text (layout_of w)) (omega (arith, operands_long (layout_of w), layout_fits w))
