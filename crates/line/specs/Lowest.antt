-- Which finding the printed line names (request 2026-02 of document 02).
use Rattle.std.specs.Prelude.{◌≡◌, ◌↔◌, List, ◌++◌, ℕ, take, drop}
use Rattle.choice.specs.Choice.{first_no}
use Rattle.map.specs.Map.{map_length}
use Rattle.state.specs.State.{EachBelow}
use Rattle.machine.specs.Step.{word_count}
use Rattle.admission.specs.Admission.{filled_table}
use Rattle.admission.specs.Lowest.{finding_in, Lowest}
use Rattle.text.specs.Text.{end_text}
use Rattle.report.specs.Report.{found_line}
use Rattle.line.specs.Line.{input_questions, line_of}

-- The line that an input gets is `refused NUMBER depth DEPTH address ADDRESS` exactly where no question of the input gets a
-- no and this is the lowest finding in the table that `admit` fills for its image under its map.
abbrev pub LineNames : List ℕ → Type 0
LineNames input =
    EachBelow 256 input → (number depth address : ℕ)
    → (line_of input ≡ found_line number depth address ++ end_text)
    ↔ ((first_no (input_questions input) ≡ 0)
    × Lowest (word_count (drop map_length input))
    (finding_in (drop map_length input) (filled_table (drop map_length input) (take map_length input))) number depth address)
