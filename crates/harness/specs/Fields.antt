-- The text of a case's fields.
use Rattle.std.specs.Prelude.{List, ◌++◌, ℕ, ◌-◌, length, drop}
use Rattle.cases.specs.Cases.{place_behind, form_bytes}

-- the text from the next field on: behind the next equals sign, and none where there is none
abbrev pub next_field : List ℕ → List ℕ
next_field text = drop (place_behind text 0 61) text

-- the bytes of a field and of the next one behind them, at most room together
abbrev pub joined_bytes : List ℕ → ℕ → List ℕ
joined_bytes text room =
    let first : List ℕ = form_bytes text 0 room in
    first ++ form_bytes (next_field text) 0 (room - length first)
