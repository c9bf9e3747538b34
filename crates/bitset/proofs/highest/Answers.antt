-- `bitset::highest` meets its contract. Assumes nothing.
use mathlib.Core.Path.{sym, ◌∙◌}
use Rattle.bitset.proofs.Highs.{cut_is, highest_some}
use Rattle.bitset.proofs.highest.Goals as goal

pub returns-then-x-eq0 : goal.returns-then-x-eq0
returns-then-x-eq0 c = sym (cut_is c.args.w c.args.k c.requires) ∙ c.if-x-eq0.true

pub returns : goal.returns
returns c = highest_some c.args.w c.args.k c.requires c.if-x-eq0.false
