-- What the bench program prints of admission's answer ("The bench program" of document 01), as bytes of ASCII.
use Rattle.std.specs.Prelude.{List, [], ◌∷◌, ◌++◌, ℕ}
use Rattle.map.specs.Map.{count_of}
use Rattle.machine.specs.Step.{word_count}
use Rattle.transfer.specs.Passes.{least_table}
use Rattle.admission.specs.Admission.{AdmitAnswer}
use Rattle.admission.specs.Admission.{Refused, Admitted, Found}
use Rattle.admission.specs.Admission.{verdict_of}
use Rattle.text.specs.Text.{space_text, refused_text, decimal, door_line}

-- "admitted words "
abbrev pub admitted_text : List ℕ
admitted_text = 97 ∷ 100 ∷ 109 ∷ 105 ∷ 116 ∷ 116 ∷ 101 ∷ 100 ∷ 32 ∷ 119 ∷ 111 ∷ 114 ∷ 100 ∷ 115 ∷ 32 ∷ []

-- " left "
abbrev pub left_text : List ℕ
left_text = 32 ∷ 108 ∷ 101 ∷ 102 ∷ 116 ∷ 32 ∷ []

-- " right "
abbrev pub right_text : List ℕ
right_text = 32 ∷ 114 ∷ 105 ∷ 103 ∷ 104 ∷ 116 ∷ 32 ∷ []

-- " depth "
abbrev pub depth_text : List ℕ
depth_text = 32 ∷ 100 ∷ 101 ∷ 112 ∷ 116 ∷ 104 ∷ 32 ∷ []

-- " address "
abbrev pub address_text : List ℕ
address_text = 32 ∷ 97 ∷ 100 ∷ 100 ∷ 114 ∷ 101 ∷ 115 ∷ 115 ∷ 32 ∷ []

-- "how many addresses each of the four sets has"
abbrev pub sets_text : ℕ → ℕ → ℕ → ℕ → List ℕ
sets_text a b c d =
    left_text ++ (decimal a ++ (space_text ++ (decimal b ++ (right_text ++ (decimal c ++ (space_text ++ decimal d))))))

-- "words, and how many addresses each of the four sets has"
abbrev pub admitted_line : List ℕ → List ℕ → List ℕ
admitted_line image map =
    admitted_text ++ (decimal (word_count image) ++ sets_text (count_of map 0) (count_of map 1) (count_of map 2) (count_of map 3))

-- "or the finding"
abbrev pub found_line : ℕ → ℕ → ℕ → List ℕ
found_line number depth address = refused_text ++ (decimal number ++ (depth_text ++ (decimal depth ++ (address_text ++ decimal address))))

abbrev pub answer_line : List ℕ → List ℕ → AdmitAnswer → List ℕ
answer_line image map (Refused number) = door_line number
answer_line image map Admitted = admitted_line image map
answer_line image map (Found number depth address) = found_line number depth address

abbrev pub words_line : List ℕ → List ℕ → List ℕ
words_line map image = answer_line image map (verdict_of image map (least_table image))
