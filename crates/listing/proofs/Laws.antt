-- The lines of a page, the ways out of listing, and what the program prints. Assumes nothing.
use mathlib.Core.Path.{◌≡◌, refl, sym, ap, ap₂, ◌∙◌}
use mathlib.Core.Bool.{true, false}
use mathlib.Core.List.{List, ◌++◌}
use Prim.Native.Nat.{ℕ, zero, suc, ◌+◌, ◌*◌, ◌≤◌, ◌<◌}
use native.Mathlib.Nat.{mul-suc}
use native.Mathlib.Numerals.{add-one}
use native.Mathlib.Omega.{arith}
use borrow.Author.Tests.{eq-eqb, ne_eqb}
use lib.ListN.{length, get_or, take, drop, length-append}
use lib.Seq.{drop-drop, length-take-le, take_all, take_at, drop_at}
use Rattle.std.proofs.lemmas.List.{get_or-take, get_or-drop}
use Rattle.std.specs.Simd.{first_chunks}
use Rattle.choice.proofs.Library.{chunk_at}
use Rattle.machine.specs.Step.{word_count, word_at}
use Rattle.emulator.specs.Run.{image_fits}
use Rattle.emulator.proofs.Door.{image_words}
use Rattle.text.specs.Text.{end_text, door_line}
use Rattle.text.specs.Parts.{Written}
use Rattle.columns.specs.Line.{page_line, line_length}
use Rattle.columns.proofs.Laws.{line_long}
use Rattle.listing.specs.Answer.{Listed, Refused}
use Rattle.listing.specs.Listing.{lines_below, page_of, page_yielded, list_result, printed_of}

-- ---- the lines of a page

module _ (image : List ℕ) where
  pub lines_long : (n : ℕ) → length (lines_below image n) ≡ line_length * n
  unfolding lines_below
  lines_long zero = refl
  lines_long (suc n) =
      length-append (lines_below image n) (page_line n (word_at image n)) ∙ omega (arith, lines_long n, line_long n (word_at image n))

  -- one line more
  pub line_more : (a : ℕ) {w : ℕ} {page last : List ℕ} {r : ℕ} → take (line_length * a) page ≡ lines_below image a
      → w ≡ word_at image a → Written page (line_length * a) (page_line a w) last r → take (line_length * (a + 1)) last ≡ lines_below image (a + 1)
  unfolding lines_below
  line_more a {w = w} {last = last} {r = r} e f written =
      ap (λ (n : ℕ). take n last) {x = line_length * (a + 1)} {y = r} (omega (arith, written.place, line_long a w))
      ∙ written.line
      ∙ ap₂ (λ (text : List ℕ) (w : ℕ). text ++ page_line a w) e f
      ∙ ap (lines_below image) (sym (add-one a))

  -- all lines
  pub lines_all : (a : ℕ) {page : List ℕ} → take (line_length * a) page ≡ lines_below image a → a ≡ word_count image
      → length page ≡ line_length * word_count image → page ≡ page_of image
  lines_all a {page} e f g =
      sym (take_all (line_length * a) page (omega (arith, f, g))) ∙ e ∙ ap (lines_below image) f

-- ---- the words of an image, two bytes each

byte_of_chunk : (m k i : ℕ) (xs : List ℕ) (d : List ℕ) → k < m → i < 2 → get_or (get_or (first_chunks 2 m xs) k d) i 0 ≡ get_or xs (2 * k + i) 0
byte_of_chunk m k i xs d below small =
    ap (λ (l : List ℕ). get_or l i 0) (chunk_at 2 m xs k d below) ∙ get_or-take 2 (drop (2 * k) xs) i 0 small ∙ get_or-drop (2 * k) xs i 0

pub word_of_chunk : (image : List ℕ) {words : List (List ℕ)} (a : ℕ) (d : List ℕ) → words ≡ first_chunks 2 (word_count image) image → a < word_count image
    → get_or (get_or words a d) 0 0 * 256 + get_or (get_or words a d) 1 0 ≡ word_at image a
word_of_chunk image a d e below =
    rw e
    (ap₂ (λ (high low : ℕ). high * 256 + low)
    (byte_of_chunk (word_count image) a 0 image d below (omega arith) ∙ ap (λ (i : ℕ). get_or image i 0) {x = 2 * a + 0} {y = 2 * a} (omega arith))
    (byte_of_chunk (word_count image) a 1 image d below (omega arith)))

-- ---- the door

module _ (image page : List ℕ) where
  pub refused_11 : image_fits image ≡ false → page_yielded (Refused 11) page ≡ list_result image page
  unfolding list_result
  refused_11 h = rw h

  module _ (words : image_fits image ≡ true) where
    pub refused_41 : (length page ≡ line_length * word_count image → ⊥) → page_yielded (Refused 41) page ≡ list_result image page
    unfolding list_result
    refused_41 h = rw (words, ne_eqb (length page) (line_length * word_count image) h)

    pub let_in_lem : length page ≡ line_length * word_count image → {last : List ℕ} → last ≡ page_of image
        → page_yielded Listed last ≡ list_result image page
    unfolding list_result
    let_in_lem long e = ap (page_yielded Listed) e ∙ rw (words, eq-eqb (length page) (line_length * word_count image) long)

-- ---- what the program prints

-- the part of the buffer that the page takes
pub page_part : (input out : List ℕ) → image_fits input ≡ true → 262144 ≤ length out → line_length * word_count input ≤ length out
page_part input out h room = omega (arith, image_words input h)

pub page_long : (input out : List ℕ) → image_fits input ≡ true → 262144 ≤ length out
    → length (take (line_length * word_count input) out) ≡ line_length * word_count input
page_long input out h room = length-take-le (line_length * word_count input) out (page_part input out h room)

pub page_printed : (input page rest : List ℕ) → image_fits input ≡ true → page ≡ page_of input
    → (take (line_length * word_count input) (page ++ rest) ≡ printed_of input) × (line_length * word_count input ≤ length (page ++ rest))
    × (drop (line_length * word_count input) (page ++ rest) ≡ rest)
unfolding printed_of
page_printed input page rest h e =
    let long : length page ≡ line_length * word_count input = ap length e ∙ lines_long input (word_count input) in (
      take_at page rest (line_length * word_count input) long ∙ e ∙ rw h,
      omega (arith, long, length-append page rest),
      drop_at page rest (line_length * word_count input) long,
    )

pub printed_refused : (input : List ℕ) → image_fits input ≡ false → door_line 11 ++ end_text ≡ printed_of input
unfolding printed_of
printed_refused input h = rw h
