-- The listing page (2026-06 of document 02), as bytes of ASCII: its lines, and the call.
use Rattle.std.specs.Prelude.{List, [], ◌∷◌, ◌++◌, ℕ, zero, suc, ◌*◌, eqb, length}
use Rattle.choice.specs.Choice.{pick, Question, ask, asked}
use Rattle.machine.specs.Step.{word_count, word_at}
use Rattle.emulator.specs.Run.{image_fits}
use Rattle.text.specs.Text.{end_text, door_line}
use Rattle.columns.specs.Line.{page_line, line_length}
use Rattle.listing.specs.Answer.{ListAnswer, Listed, Refused}

-- "Each word gives one line": those of the addresses below n
unfoldable pub lines_below : List ℕ → ℕ → List ℕ
lines_below image zero = []
lines_below image (suc a) = lines_below image a ++ page_line a (word_at image a)

-- "The page is an exact function of the image"
abbrev pub page_of : List ℕ → List ℕ
page_of image = lines_below image (word_count image)

-- "After question 11 the page must be 32 × N bytes, or the call gives 41."
abbrev pub list_questions : List ℕ → List ℕ → List Question
list_questions image page = ask 11 (image_fits image) ∷ ask 41 (eqb (length page) (line_length * word_count image)) ∷ []

-- The paper's number for each case: the refusal, or 0.
abbrev pub list_number : ListAnswer → ℕ
list_number (Refused number) = number
list_number Listed = 0

-- What listing yields: its answer, the same in the paper's numbers, and the bytes of the page afterwards.
pub record ListResult : Type 0 where
  pub answer : ListAnswer
  pub number : ℕ
  pub page : List ℕ

abbrev pub page_yielded : ListAnswer → List ℕ → ListResult
page_yielded answer page = record { answer = answer; number = list_number answer; page = page }

-- "A no changes no lent byte." ("Questions at the door" of document 01)
abbrev pub page_refused : List ℕ → ℕ → ListResult
page_refused page number = record { answer = Refused number; number = number; page = page }

abbrev pub whole_page : List ℕ → ListResult
whole_page image = record { answer = Listed; number = 0; page = page_of image }

-- The listing of an image into a lent page.
unfoldable pub list_result : List ℕ → List ℕ → ListResult
list_result image page = asked (list_questions image page) (whole_page image) (page_refused page)

-- What the program `list` prints for its input: the page of the image, or `refused 11`.
unfoldable pub printed_of : List ℕ → List ℕ
printed_of input = pick (image_fits input) (page_of input) (door_line 11 ++ end_text)
