-- Answers that fit the places of a number; all that the calls answer do.
use Rattle.std.specs.Prelude.{ℕ, ◌≤◌, ◌<◌}
use Rattle.map.specs.Map.{Counts}
use Rattle.map.specs.Map.{Sets, Refused as NotCounted}
use Rattle.admission.specs.Admission.{AdmitAnswer}
use Rattle.admission.specs.Admission.{Refused as NotAdmitted, Admitted, Found}
use Rattle.checking.specs.Check.{CheckAnswer}
use Rattle.checking.specs.Check.{Refused as NotChecked, Accepted, Failed}
use Rattle.foretell.specs.Foretell.{ForetellAnswer}
use Rattle.foretell.specs.Foretell.{Refused as NotForetold, Foretold}

abbrev pub CountsFit : Counts → Type 0
CountsFit (Sets a b c d) = (a ≤ 256) × (b ≤ 256) × (c ≤ 256) × (d ≤ 256)
CountsFit NotCounted = Unit

-- a cell with its number: both calls that name one have the same places for it
abbrev pub CellFits : ℕ → ℕ → ℕ → Type 0
CellFits number depth address = (number < 256) × (depth < 256) × (address < 65536)

abbrev pub VerdictFits : AdmitAnswer → Type 0
VerdictFits (NotAdmitted number) = number < 256
VerdictFits Admitted = Unit
VerdictFits (Found number depth address) = CellFits number depth address

abbrev pub CheckFits : CheckAnswer → Type 0
CheckFits (NotChecked number) = number < 256
CheckFits Accepted = Unit
CheckFits (Failed number depth address) = CellFits number depth address

abbrev pub ForetoldFits : ForetellAnswer → Type 0
ForetoldFits NotForetold = Unit
ForetoldFits (Foretold length bound) = (length < 16777216) × (bound < 4294967296)
