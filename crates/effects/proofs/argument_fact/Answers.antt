-- `effects::argument_fact` meets its contract. Assumes nothing.
use mathlib.Core.Path.{◌∙◌}
use borrow.Author.Rules.{rules}
use Rattle.effects.proofs.Reading.{masked_number, masked_constant}
use Rattle.effects.proofs.argument_fact.Goals as goal

pub returns-in-Number : goal.returns-in-Number
returns-in-Number c =
    masked_number c.args.a c.args.facts c.requires c.in-Number.is c.places.ensures.0 (c.fact_of-taken.ensures c.args.a.l) c.masked.ensures

pub returns-in-Constant : goal.returns-in-Constant
returns-in-Constant c =
    masked_constant c.args.a c.args.facts c.requires c.in-Constant.is (search rules) (c.of.ensures ∙ c.masked-in-Constant.ensures)
