-- A layout by value: the list of its operands.
use Rattle.std.specs.Prelude.{List, Option}
use Rattle.std.specs.List.{filter_map}
use Rattle.std.specs.Option.{option_map}
use Rattle.mnemonics.specs.declared.Field.{Field}
use Rattle.mnemonics.specs.Layout.{Operand, operand}

abbrev pub operands_in : List (Option Field) → List Operand
operands_in fields = filter_map (option_map (λ (f : Field). operand f.value f.digits)) fields
