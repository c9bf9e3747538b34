-- The number of each refusal ("Questions at the door" of document 01; 18 of the bench program's input; 22 of a word that is not listed; 41 of a page).
use Rattle.std.specs.Prelude.{ℕ}
use Rattle.refusal.specs.declared.Refusal.{Refusal}
use Rattle.refusal.specs.declared.Refusal.TheVariants.{Image, Map, Table, State, Recording, Trace, Input, Unlisted, Page}

abbrev pub refusal_number : Refusal → ℕ
refusal_number Image = 11
refusal_number Map = 12
refusal_number Table = 13
refusal_number State = 14
refusal_number Recording = 15
refusal_number Trace = 16
refusal_number Input = 18
refusal_number Unlisted = 22
refusal_number Page = 41
