-- Each return: the tests that led there.
use Rattle.word.proofs.decode_xec.Goals as goal

pub returns-then-l : goal.returns-then-l
returns-then-l c = simp (← c.is_bank.ensures, c.if-is_bank.true, c.if-l.true)

pub returns-then-is_bank : goal.returns-then-is_bank
returns-then-is_bank c = simp (← c.is_bank.ensures, c.if-is_bank.true, c.if-l.false)

pub returns-then-is_register_source : goal.returns-then-is_register_source
returns-then-is_register_source c = let d = c in
    simp (← d.is_bank.ensures, d.if-is_bank.false, ← c.is_register_source.ensures, c.if-is_register_source.true)

pub returns : goal.returns
returns c = let d = c in
    simp (← d.is_bank.ensures, d.if-is_bank.false, ← c.is_register_source.ensures, c.if-is_register_source.false)
