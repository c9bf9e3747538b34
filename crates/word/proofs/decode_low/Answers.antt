-- Each arm: what the group's function reads is what the definition reads at this opcode.
use mathlib.Core.Path.{◌≡◌, sym, ◌∙◌}
use borrow.Author.Tests.{lt-ltb}
use native.Mathlib.Omega.{arith}
use Prim.Native.Nat.{◌<◌}
use Rattle.word.proofs.Laws.{low_decoded}
use Rattle.word.proofs.decode_low.Goals as goal

pub returns-in-0-to-3 : goal.returns-in-0-to-3
returns-in-0-to-3 c =
    let a = c.args in
    let low : a.op < 4 = omega arith in
    c.decode_act.ensures ∙ sym (low_decoded a.op a.s a.low c.requires.1 c.requires.2 ∙ simp (lt-ltb _ 4 low))

pub returns-in-4 : goal.returns-in-4
returns-in-4 c =
    let a = c.args in
    c.decode_xec.ensures ∙ sym (low_decoded a.op a.s a.low c.requires.1 c.requires.2 ∙ simp c.in-4.is)

pub returns-in-5 : goal.returns-in-5
returns-in-5 c =
    let a = c.args in
    c.decode_nzt.ensures ∙ sym (low_decoded a.op a.s a.low c.requires.1 c.requires.2 ∙ simp c.in-5.is)

pub returns-in_default : goal.returns-in_default
returns-in_default c =
    let a = c.args in
    let six : a.op ≡ 6 = omega arith in
    c.decode_xmit.ensures ∙ sym (low_decoded a.op a.s a.low c.requires.1 c.requires.2 ∙ simp six)
