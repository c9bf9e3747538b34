-- A text from each of its lines on.
use Rattle.std.specs.Prelude.{List, [], ◌∷◌, ℕ, zero, suc, ltb, length, drop}
use Rattle.choice.specs.Choice.{pick}
use Rattle.cases.specs.Cases.{place_behind}

-- at most n of them: each next line begins behind a line feed
unfoldable pub texts_from : ℕ → List ℕ → List (List ℕ)
texts_from zero rest = []
texts_from (suc n) rest = pick (ltb 0 (length rest)) (rest ∷ texts_from n (drop (place_behind rest 0 10) rest)) []

-- all of them: there are no more than bytes
abbrev pub line_texts : List ℕ → List (List ℕ)
line_texts text = texts_from (length text) text
