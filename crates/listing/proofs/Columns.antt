-- What a listing page says, read back from its columns. Assumes nothing.
use mathlib.Core.Path.{◌≡◌, refl, sym, ap, ap₂, ◌∙◌}
use mathlib.Core.List.{List, []}
use Prim.Native.Nat.{ℕ, zero, suc, ◌+◌, ◌-◌, ◌*◌, ◌/◌, ◌%◌, ◌^◌, ◌<◌}
use native.Mathlib.Nat.{mod-eq_of_lt, add-mul, mul_assoc, mod-one}
use native.Mathlib.Omega.{arith}
use lib.ListN.{length, take, drop, get_or, length-drop}
use lib.Pow.{mod-pow-add}
use lib.Seq.{take_all, drop_at, take-append-le, drop-append-le}
use Rattle.machine.specs.Step.{word_count, word_at}
use Rattle.emulator.proofs.Door.{image_words}
use Rattle.text.specs.Text.{octal, joined}
use Rattle.text.proofs.Writing.{length_octal, eight_more, eights}
use Rattle.mnemonics.proofs.Laws.{layout_fits, layout_shown, mnemonic_long, operands_filled}
use Rattle.columns.specs.Line.{line_texts, page_line, line_length}
use Rattle.columns.proofs.Laws.{below_or_last, place_of, text_at, line_long}
use Rattle.listing.specs.Listing.{lines_below}
use Rattle.listing.specs.Columns.{columns, line_at, octal_on, octal_in, LayoutFits, EveryLayoutFits, LineLaid, EveryLineLaid, LineAlone, ReadsBack}
use Rattle.listing.proofs.Laws.{lines_long}

-- ---- the columns of a line

module _ (address w : ℕ) where
  -- the text k of a line, by its place and its length
  text_in : (k : ℕ) {n m : ℕ} → place_of (line_texts address w) k ≡ n → length (get_or (line_texts address w) k []) ≡ m
      → take m (drop n (page_line address w)) ≡ get_or (line_texts address w) k []
  unfolding page_line
  text_in k e f =
      ap₂ (λ (m n : ℕ). take m (drop n (joined (line_texts address w)))) (sym f) (sym e) ∙ text_at (line_texts address w) k

  laid : LineLaid address w
  unfolding place_of
  laid =
      let five = length_octal 5 address in
      let six = length_octal 6 w in
      let four = mnemonic_long w in
      let thirteen = operands_filled w in
      record {
        address_columns = text_in 0 refl five;
        word_columns = text_in 2 {n = 6} (omega (arith, five)) six;
        mnemonic_columns = text_in 4 {n = 13} (omega (arith, five, six)) four;
        space_columns =
            (text_in 1 {n = 5} (omega (arith, five)) refl, text_in 3 {n = 12} (omega (arith, five, six)) refl, text_in 5 {n = 17} (omega (arith, five, six, four)) refl);
        line_feed = text_in 7 {n = 31} (omega (arith, five, six, four, thirteen)) refl;
        width = line_long address w;
      }

  fitting : LayoutFits address w
  unfolding place_of
  fitting =
      record {
        fits = layout_fits w;
        shown = layout_shown w;
        filled_up = text_in 6 {n = 18} (omega (arith, length_octal 5 address, length_octal 6 w, mnemonic_long w)) (operands_filled w);
      }

pub every_layout_fits : EveryLayoutFits
every_layout_fits address w = fitting address w

pub every_line_laid : EveryLineLaid
every_line_laid address w = laid address w

-- ---- a line in its page

module _ (image : List ℕ) (address : ℕ) where
  -- a line further on leaves it as it is
  before_last : (n : ℕ) → address < n → line_at (lines_below image (suc n)) address ≡ line_at (lines_below image n) address
  unfolding lines_below
  before_last n h =
      let lines = lines_below image n in
      let room = lines_long image n in
      ap (take line_length) (drop-append-le (line_length * address) lines (page_line n (word_at image n)) (omega (arith, room)))
      ∙ take-append-le line_length (drop (line_length * address) lines) (page_line n (word_at image n)) (omega (arith, room, length-drop (line_length * address) lines))

  last_line : line_at (lines_below image (suc address)) address ≡ page_line address (word_at image address)
  unfolding lines_below
  last_line =
      let line = page_line address (word_at image address) in
      ap (take line_length) (drop_at (lines_below image address) line (line_length * address) (lines_long image address))
      ∙ take_all line_length line (omega (arith, line_long address (word_at image address)))

  line_below : (n : ℕ) → address < n → line_at (lines_below image n) address ≡ page_line address (word_at image address)
  line_below zero h = absurd (omega arith)
  line_below (suc n) h =
      below_or_last address n h
      (λ below. before_last n below ∙ line_below n below)
      (λ last. ap (λ (m : ℕ). line_at (lines_below image (suc m)) address) last ∙ last_line)

pub line_alone : LineAlone
line_alone image address h = line_below image address (word_count image) h

-- ---- digits read back

-- one digit more, of the next weight
digit_more : (n value : ℕ) → value % 8 ^ suc n ≡ value / 8 ^ n % 8 * 8 ^ n + value % 8 ^ n
digit_more n value =
    ap (λ (x : ℕ). value % x) (sym (eights (suc n)))
    ∙ ap (λ (x : ℕ). value % 2 ^ x) {x = 3 * suc n} {y = 3 + 3 * n} (omega arith)
    ∙ mod-pow-add value 3 (3 * n)
    ∙ ap (λ (x : ℕ). value / x % 8 * x + value % x) (eights n)

digits_back : (n value read : ℕ) → octal_on read (octal n value) ≡ read * 8 ^ n + value % 8 ^ n
unfolding octal octal_on
digits_back zero value read = omega (arith, mod-one value)
digits_back (suc n) value read =
    let digit = value / 8 ^ n % 8 in
    ap (λ (x : ℕ). octal_on x (octal n value)) {x = read * 8 + (48 + digit - 48)} {y = read * 8 + digit} (omega arith)
    ∙ digits_back n value (read * 8 + digit)
    ∙ omega (
      arith,
      add-mul (read * 8) digit (8 ^ n),
      mul_assoc read 8 (8 ^ n) ∙ ap (λ (x : ℕ). read * x) (sym (eight_more n)),
      digit_more n value,
    )

number_back : (n value : ℕ) → value < 8 ^ n → octal_in (octal n value) ≡ value
number_back n value fits = digits_back n value 0 ∙ omega (arith, mod-eq_of_lt fits)

pub reads_back : ReadsBack
reads_back image bytes fits address h =
    let w = word_at image address in
    let line = line_alone image address h in (
      ap (λ (l : List ℕ). octal_in (columns 1 5 l)) line ∙ ap octal_in (every_line_laid address w).address_columns ∙ number_back 5 address (omega (arith, image_words image fits)),
      ap (λ (l : List ℕ). octal_in (columns 7 12 l)) line ∙ ap octal_in (every_line_laid address w).word_columns ∙ number_back 6 w (omega (arith, bytes (2 * address), bytes (2 * address + 1))),
    )
