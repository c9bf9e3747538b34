-- Texts that the programs print, as bytes of ASCII: numbers, and the parts that several of them have.
use Rattle.std.specs.Prelude.{List, [], ◌∷◌, ◌++◌, ℕ, zero, suc, ◌+◌, ◌-◌, ◌/◌, ◌%◌, ◌^◌, ltb, length, replicate}
use Rattle.choice.specs.Choice.{pick}

-- " "
abbrev pub space_text : List ℕ
space_text = 32 ∷ []

-- "\n"
abbrev pub end_text : List ℕ
end_text = 10 ∷ []

-- "refused "
abbrev pub refused_text : List ℕ
refused_text = 114 ∷ 101 ∷ 102 ∷ 117 ∷ 115 ∷ 101 ∷ 100 ∷ 32 ∷ []

-- "Values are decimal" ("The bench program" of document 01): a number below 1,000, as all of them are, without leading zeros
unfoldable pub decimal : ℕ → List ℕ
decimal n =
    pick (ltb n 10) ((48 + n) ∷ [])
    (pick (ltb n 100) ((48 + n / 10) ∷ (48 + n % 10) ∷ []) ((48 + n / 100) ∷ (48 + n / 10 % 10) ∷ (48 + n % 10) ∷ []))

-- "A door number prints as `refused 11`"
abbrev pub door_line : ℕ → List ℕ
door_line number = refused_text ++ decimal number

-- "Numbers have leading zeros" (document 02, 2026-06): the last n octal digits of a number, that of the greatest weight first
unfoldable pub octal : ℕ → ℕ → List ℕ
octal zero value = []
octal (suc n) value = (48 + value / 8 ^ n % 8) ∷ octal n value

-- n spaces
abbrev pub spaces : ℕ → List ℕ
spaces n = replicate n 32

-- "text is filled up with spaces on the right": to n columns
abbrev pub filled : ℕ → List ℕ → List ℕ
filled n text = text ++ spaces (n - length text)

-- texts one behind another
abbrev pub joined : List (List ℕ) → List ℕ
joined [] = []
joined (text ∷ texts) = text ++ joined texts
