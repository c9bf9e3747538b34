-- The line that the bench program prints ("The bench program" of document 01), as bytes of ASCII.
use Rattle.std.specs.Prelude.{List, [], ◌∷◌, ◌++◌, ℕ, leb, length, take, drop}
use Rattle.choice.specs.Choice.{Question, ask, asked}
use Rattle.map.specs.Map.{map_length}
use Rattle.emulator.specs.Run.{image_fits}
use Rattle.text.specs.Text.{end_text, door_line}
use Rattle.report.specs.Report.{words_line}

-- "Reads standard input: the map, then the image. Its own order: 128 bytes or more? 12. At most 928? 18. Then 11."
abbrev pub input_questions : List ℕ → List Question
input_questions input =
    ask 12 (leb map_length (length input)) ∷ ask 18 (leb (length input) 928) ∷ ask 11 (image_fits (drop map_length input)) ∷ []

-- "It prints one line, ended by a line feed"
unfoldable pub line_of : List ℕ → List ℕ
line_of input = asked (input_questions input) (words_line (take map_length input) (drop map_length input)) door_line ++ end_text
