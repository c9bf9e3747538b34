use mathlib.Core.Path.{sym}
use Rattle.field.proofs.Laws.{low_all}
use borrow.Author.Tests.{lt-leb}
use borrow.Author.Rules.{rules}
use Rattle.machine.proofs.act.operand.Goals as goal

pub returns-then-s-lt-FIRST_BANK : goal.returns-then-s-lt-FIRST_BANK
returns-then-s-lt-FIRST_BANK c =
    simp (lt-leb _ _ c.if-s-lt-FIRST_BANK.true, ← c.slot_of.ensures.0, ← c.rotate.ensures) (sym (low_all (search rules)))
