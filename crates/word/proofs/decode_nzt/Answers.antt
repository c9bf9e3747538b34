-- Each return: the tests that led there.
use borrow.Author.Tests.{eq-eqb, ne_eqb}
use Rattle.word.proofs.decode_nzt.Goals as goal

pub returns-then-is_bank : goal.returns-then-is_bank
returns-then-is_bank c = simp (← c.is_bank.ensures, c.if-is_bank.true)

pub returns-then-is_register_source : goal.returns-then-is_register_source
returns-then-is_register_source c = let d = c in
    simp (← d.is_bank.ensures, d.if-is_bank.false, ← c.is_register_source.ensures, c.if-is_register_source.true)

pub returns-then-s-eq7 : goal.returns-then-s-eq7
returns-then-s-eq7 c = let d = c in
    let e = d in
    simp (← e.is_bank.ensures, e.if-is_bank.false, ← d.is_register_source.ensures, d.if-is_register_source.false, eq-eqb _ _ c.if-s-eq7.true)

pub returns-then-s-ne15 : goal.returns-then-s-ne15
returns-then-s-ne15 c = let d = c in
    let e = d in
    simp (← e.is_bank.ensures, e.if-is_bank.false, ← d.is_register_source.ensures, d.if-is_register_source.false, ne_eqb _ _ c.if-s-eq7.false, ne_eqb _ _ c.if-s-ne15.true)

pub returns : goal.returns
returns c = let d = c in
    let e = d in
    simp (← e.is_bank.ensures, e.if-is_bank.false, ← d.is_register_source.ensures, d.if-is_register_source.false, ne_eqb _ _ c.if-s-eq7.false, eq-eqb _ _ c.if-s-ne15.false)
