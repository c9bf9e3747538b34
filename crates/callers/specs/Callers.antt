-- What the code asks of an image, of an XEC and of a lent table, and the values of a source as the code holds them.
use Rattle.std.specs.Prelude.{◌≡◌, Bool, List, ℕ, ◌*◌, ◌≤◌, ◌<◌, length}
use Rattle.machine.specs.Step.{word_count}
use Rattle.facts.specs.Facts.{Span}
use Rattle.facts.specs.Record.{record_size, depths, cell_at, FineCell}
use Rattle.machine.specs.Shape.{Shape}
use Rattle.transfer.specs.Passes.{is_call, is_return}
use Rattle.callers.specs.declared.Values.{Values}
use Rattle.callers.specs.declared.Asked.{Asked}
use Rattle.callers.specs.declared.Asked.TheVariants.{Call, Return}

abbrev pub span_is : Values → Span
span_is v = record { low = v.low; count = v.count }

-- the question of a word's shape
abbrev pub asks : Asked → Shape → Bool
asks Call = is_call
asks Return = is_return

-- an address of an image of at most 8,192 words
pub record InImage (image : List ℕ) (a : ℕ) : Type 0 where
  pub words : word_count image ≤ 8192
  pub inside : a < word_count image

-- a table of an image: a record for each cell, and each tells a cell; bytes 1 of the records may hold findings
pub record Held (image table : List ℕ) : Type 0 where
  pub words : word_count image ≤ 8192
  pub long : length table ≡ record_size * (depths * word_count image)
  pub fine : (i : ℕ) → i < depths * word_count image → FineCell (cell_at table i)
