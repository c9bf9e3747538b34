-- Each return: the tests that led there.
use Rattle.word.proofs.decode_xmit.Goals as goal

pub returns-then-is_bank : goal.returns-then-is_bank
returns-then-is_bank c = simp (← c.is_bank.ensures, c.if-is_bank.true)

pub returns-then-is_register_target : goal.returns-then-is_register_target
returns-then-is_register_target c = let d = c in
    simp (← d.is_bank.ensures, d.if-is_bank.false, ← c.is_register_target.ensures, c.if-is_register_target.true)

pub returns : goal.returns
returns c = let d = c in
    simp (← d.is_bank.ensures, d.if-is_bank.false, ← c.is_register_target.ensures, c.if-is_register_target.false)
