-- What a listing page says: every layout fits, a line has its columns and is about its own word, and the octal columns read
-- back.
use Rattle.std.specs.Prelude.{◌≡◌, true, List, [], ◌∷◌, ℕ, ◌+◌, ◌-◌, ◌*◌, ◌≤◌, ◌<◌, length, take, drop}
use Rattle.state.specs.State.{EachBelow}
use Rattle.machine.specs.Step.{word_count, word_at}
use Rattle.emulator.specs.Run.{image_fits}
use Rattle.text.specs.Text.{space_text, end_text, octal, filled}
use Rattle.mnemonics.specs.Layout.{mnemonic_of, layout_of, operands_text, layout_width, Shown}
use Rattle.columns.specs.Line.{page_line, line_length}
use Rattle.listing.specs.Listing.{page_of}

-- columns first to last of a line, counted from 1
abbrev pub columns : ℕ → ℕ → List ℕ → List ℕ
columns first last line = take (last + 1 - first) (drop (first - 1) line)

-- the line of an address in a page
abbrev pub line_at : List ℕ → ℕ → List ℕ
line_at page address = take line_length (drop (line_length * address) page)

-- digits read on from a number, and read as a number
unfoldable pub octal_on : ℕ → List ℕ → ℕ
octal_on value [] = value
octal_on value (b ∷ bs) = octal_on (value * 8 + (b - 48)) bs

abbrev pub octal_in : List ℕ → ℕ
octal_in digits = octal_on 0 digits

-- "all operand layouts share one proof of width": every layout fits columns 19-31, shows its operands whole, and is filled
-- up with spaces.
pub record LayoutFits (address w : ℕ) : Type 0 where
  pub fits : layout_width (layout_of w) ≤ 13
  pub shown : Shown (layout_of w)
  pub filled_up : columns 19 31 (page_line address w) ≡ filled 13 (operands_text (layout_of w))

abbrev pub EveryLayoutFits : Type 0
EveryLayoutFits = (address w : ℕ) → LayoutFits address w

-- The other columns of a line, and its length.
pub record LineLaid (address w : ℕ) : Type 0 where
  pub address_columns : columns 1 5 (page_line address w) ≡ octal 5 address
  pub word_columns : columns 7 12 (page_line address w) ≡ octal 6 w
  pub mnemonic_columns : columns 14 17 (page_line address w) ≡ filled 4 (mnemonic_of w)
  pub space_columns : (columns 6 6 (page_line address w) ≡ space_text) × (columns 13 13 (page_line address w) ≡ space_text) × (columns 18 18 (page_line address w) ≡ space_text)
  pub line_feed : columns 32 32 (page_line address w) ≡ end_text
  pub width : length (page_line address w) ≡ line_length

abbrev pub EveryLineLaid : Type 0
EveryLineLaid = (address w : ℕ) → LineLaid address w

-- The line of an address depends on that word and address alone.
abbrev pub LineAlone : Type 0
LineAlone = (image : List ℕ) (address : ℕ) → address < word_count image → line_at (page_of image) address ≡ page_line address (word_at image address)

-- The octal columns read back give the address and the word.
abbrev pub ReadsBack : Type 0
ReadsBack =
    (image : List ℕ) → EachBelow 256 image → image_fits image ≡ true → (address : ℕ) → address < word_count image
    → (octal_in (columns 1 5 (line_at (page_of image) address)) ≡ address)
    × (octal_in (columns 7 12 (line_at (page_of image) address)) ≡ word_at image address)
