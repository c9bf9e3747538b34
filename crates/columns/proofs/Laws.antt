-- Layouts and lines: widths, and the columns that the code puts one behind another. Assumes nothing.
use mathlib.Core.Path.{◌≡◌, refl, sym, ap, ap₂, ◌∙◌}
use mathlib.Core.Bool.{Bool, true, false}
use mathlib.Core.List.{List, [], ◌∷◌, ◌++◌, append_assoc, append-nil}
use Prim.Native.Nat.{ℕ, zero, suc, ◌+◌, ◌-◌, ◌≤◌, ◌<◌}
use native.Mathlib.Numerals.{add-one}
use native.Mathlib.Omega.{arith}
use borrow.Author.Tests.{ltb-true, ltb-false}
use lib.Dec.{ltb}
use lib.ListN.{length, take, drop, get_or, length-append, drop_of_length-le}
use lib.Seq.{drop-cons, take-append_seam, drop-append-add}
use Rattle.text.specs.Text.{space_text, end_text, octal, spaces, filled, joined}
use Rattle.text.specs.Parts.{Written}
use Rattle.text.proofs.Writing.{behind, the_same, length_octal}
use Rattle.std.specs.Prelude.{Option, Some, None}
use Rattle.mnemonics.specs.declared.Field.{Field}
use Rattle.mnemonics.specs.Layout.{mnemonic_of, Operand, layout_of, operand_text, operands_text, layout_width}
use Rattle.mnemonics.specs.Parts.{operands_in}
use Rattle.mnemonics.proofs.Laws.{operands_long, layout_fits, mnemonic_long, operands_filled}
use Rattle.columns.specs.Line.{line_texts, page_line, line_length}
use Rattle.columns.specs.Parts.{spaced_text, word_text}

-- a place below n + 1 is below n, or it is n
pub below_or_last : {P : Type 0} (k n : ℕ) → k < suc n → (k < n → P) → (n ≡ k → P) → P
below_or_last {P} k n h p q = either (ltb k n) refl
  where
    either : (b : Bool) → ltb k n ≡ b → P
    either true e = p (ltb-true k n e)
    either false e = q (omega (arith, ltb-false k n e))

-- ---- operands, each behind a space

spaced_first : (o : Operand) (rest : List Operand) → spaced_text (o ∷ rest) ≡ space_text ++ operands_text (o ∷ rest)
unfolding spaced_text operands_text
spaced_first o [] = ap (λ (text : List ℕ). 32 ∷ text) (append-nil (operand_text o))
spaced_first o (p ∷ rest) = ap (λ (text : List ℕ). 32 ∷ operand_text o ++ text) (spaced_first p rest)

-- filled up, they are column 18 and the operands' columns
spaced_filled : (layout : List Operand) → layout_width layout ≤ 13
    → spaced_text layout ++ spaces (14 - length (spaced_text layout)) ≡ space_text ++ filled 13 (operands_text layout)
unfolding spaced_text operands_text
spaced_filled [] fits = refl
spaced_filled (o ∷ rest) fits =
    ap (λ (text : List ℕ). text ++ spaces (14 - length text)) (spaced_first o rest)
    ∙ ap (λ (n : ℕ). 32 ∷ operands_text (o ∷ rest) ++ spaces n) {x = 14 - suc (length (operands_text (o ∷ rest)))} {y = 13 - length (operands_text (o ∷ rest))} (omega arith)

spaced_long : (layout : List Operand) → length (spaced_text layout) ≤ 1 + layout_width layout
unfolding spaced_text
spaced_long [] = omega arith
spaced_long (o ∷ rest) = omega (arith, ap length (spaced_first o rest), operands_long (o ∷ rest))

-- a layout and the space before it
pub layout_room : (w : ℕ) {layout : List Operand} → layout ≡ layout_of w → length (spaced_text layout) ≤ 14
layout_room w e = omega (arith, ap (λ (l : List Operand). length (spaced_text l)) e, spaced_long (layout_of w), layout_fits w)

-- the next of the fields of a layout, behind a text `t` that is there
module _ (fields : List (Option Field)) (k : ℕ) (below : k < length fields) (t : List ℕ) {whole : List ℕ} (there : t ++ spaced_text (operands_in (drop k fields)) ≡ whole) where
  here : {o : Option Field} → get_or fields k None ≡ o → t ++ spaced_text (operands_in (o ∷ drop (k + 1) fields)) ≡ whole
  here e =
      sym (ap (λ (l : List (Option Field)). t ++ spaced_text (operands_in l)) (drop-cons fields k None below ∙ ap₂ ◌∷◌ e (ap (λ (n : ℕ). drop n fields) (sym (add-one k))))) ∙ there

  pub field_none : get_or fields k None ≡ None → t ++ spaced_text (operands_in (drop (k + 1) fields)) ≡ whole
  field_none e = here e

  module _ {f : Field} (e : get_or fields k None ≡ Some f) where
    pub field_more : (t ++ (space_text ++ octal f.digits f.value)) ++ spaced_text (operands_in (drop (k + 1) fields)) ≡ whole
    unfolding spaced_text
    field_more = append_assoc t (space_text ++ octal f.digits f.value) (spaced_text (operands_in (drop (k + 1) fields))) ∙ here e

    -- there is room for it where there is room for all
    pub field_fits : length t + (1 + f.digits) ≤ length whole
    field_fits =
        omega (
          arith,
          ap length field_more,
          length-append (t ++ (space_text ++ octal f.digits f.value)) (spaced_text (operands_in (drop (k + 1) fields))),
          length-append t (space_text ++ octal f.digits f.value),
          length_octal f.digits f.value,
        )

-- no field is left
pub field_last : (fields : List (Option Field)) {k : ℕ} {t whole : List ℕ} → length fields ≤ k → t ++ spaced_text (operands_in (drop k fields)) ≡ whole → t ≡ whole
unfolding spaced_text
field_last fields {t = t} over there =
    sym (append-nil t) ∙ sym (ap (λ (l : List (Option Field)). t ++ spaced_text (operands_in l)) (drop_of_length-le fields over)) ∙ there

-- ---- the columns of a line

-- columns 14-31: the mnemonic, the operands behind their spaces, and spaces up to column 31
pub word_columns_lem : (w : ℕ) {before named told last : List ℕ} {at b c r : ℕ} → Written before at (filled 4 (mnemonic_of w)) named b
    → Written named b (spaced_text (layout_of w)) told c → Written told c (spaces (at + 18 - c)) last r → Written before at (word_text w) last r
unfolding word_text
word_columns_lem w {at = at} {c = c} name operands rest =
    let fits = layout_fits w in
    let four : length (filled 4 (mnemonic_of w)) ≡ 4 = mnemonic_long w in
    let left : at + 18 - c ≡ 14 - length (spaced_text (layout_of w)) = omega (arith, name.place, operands.place, four) in
    the_same (behind (behind name operands) rest)
    (append_assoc (filled 4 (mnemonic_of w)) (spaced_text (layout_of w)) (spaces (at + 18 - c))
    ∙ ap (λ (n : ℕ). filled 4 (mnemonic_of w) ++ (spaced_text (layout_of w) ++ spaces n)) left
    ∙ ap (λ (text : List ℕ). filled 4 (mnemonic_of w) ++ text) (spaced_filled (layout_of w) fits))

pub word_long : (w : ℕ) → length (word_text w) ≡ 18
unfolding word_text
word_long w =
    length-append (filled 4 (mnemonic_of w)) (space_text ++ filled 13 (operands_text (layout_of w)))
    ∙ omega (arith, mnemonic_long w, operands_filled w)

-- the columns of a whole line
pub line_columns : (address w : ℕ) {a b c d e f : List ℕ} {h i j k l m : ℕ} → Written a h (octal 5 address) b i → Written b i (space_text ++ octal 6 w) c j
    → Written c j space_text d k → Written d k (word_text w) e l → Written e l end_text f m → Written a h (page_line address w) f m
unfolding page_line word_text
line_columns address w u v x y z =
    the_same (behind (behind (behind (behind u v) x) y) z)
    (regrouped (octal 5 address) space_text (octal 6 w) space_text (filled 4 (mnemonic_of w)) space_text (filled 13 (operands_text (layout_of w))) end_text)
  where
    regrouped : (o s p t q u r v : List ℕ)
        → ((((o ++ (s ++ p)) ++ t) ++ (q ++ (u ++ r))) ++ v) ≡ o ++ (s ++ (p ++ (t ++ (q ++ (u ++ (r ++ v))))))
    regrouped o s p t q u r v = simp append_assoc

-- where the text k begins among texts one behind another
unfoldable pub place_of : List (List ℕ) → ℕ → ℕ
place_of [] k = 0
place_of (text ∷ texts) zero = 0
place_of (text ∷ texts) (suc k) = length text + place_of texts k

pub joined_long : (texts : List (List ℕ)) → length (joined texts) ≡ place_of texts (length texts)
unfolding place_of
joined_long [] = refl
joined_long (text ∷ texts) = length-append text (joined texts) ∙ ap (λ (n : ℕ). length text + n) (joined_long texts)

pub text_at : (texts : List (List ℕ)) (k : ℕ) → take (length (get_or texts k [])) (drop (place_of texts k) (joined texts)) ≡ get_or texts k []
unfolding place_of
text_at [] k = refl
text_at (text ∷ texts) zero = take-append_seam text (joined texts)
text_at (text ∷ texts) (suc k) =
    ap (take (length (get_or texts k []))) (drop-append-add text (joined texts) (place_of texts k)) ∙ text_at texts k

module _ (address w : ℕ) where
  -- "one line of exactly 32 bytes"
  pub line_long : length (page_line address w) ≡ line_length
  unfolding page_line place_of
  line_long =
      joined_long (line_texts address w)
      ∙ omega (arith, length_octal 5 address, length_octal 6 w, mnemonic_long w, operands_filled w)
