-- `findings::call_finding` meets its contract. Assumes nothing.
use mathlib.Core.Bool.{◌&&◌}
use Prim.Native.Nat.{◌+◌, ◌*◌}
use lib.Dec.{ltb}
use Rattle.machine.specs.Step.{word_count}
use Rattle.findings.proofs.Asking.{call_unknown, call_inside, call_outside}
use Rattle.findings.proofs.call_finding.Goals as goal

pub returns-then-v-ne1 : goal.returns-then-v-ne1
returns-then-v-ne1 c = λ map table.
    let a = c.args in
    let v = c.values_of-v in
    call_unknown a.q.now.image.now map table a.q.now.facts a.q.now.depth a.q.now.pc a.i v.result.low v.result.count v.ensures.0 c.if-q-ge-PLACES.false c.if-v-ne1.true

pub returns-then-v-from : goal.returns-then-v-from
returns-then-v-from c = λ map table.
    let a = c.args in
    let v = c.values_of-v in
    call_inside a.q.now.image.now map table a.q.now.facts a.q.now.depth a.q.now.pc a.i v.result.low v.result.count v.ensures.0
    (ltb (v.result.low * 256 + c.from.result) (word_count a.q.now.image.now) && ltb (a.q.now.pc + 1) (word_count a.q.now.image.now)) c.if-q-ge-PLACES.false c.if-v-ne1.false (rw c.from.ensures) c.if-v-from.true

pub returns-else-v-from : goal.returns-else-v-from
returns-else-v-from c = λ map table.
    let a = c.args in
    let v = c.values_of-v in
    call_outside a.q.now.image.now map table a.q.now.facts a.q.now.depth a.q.now.pc a.i v.result.low v.result.count v.ensures.0
    (ltb (v.result.low * 256 + c.from.result) (word_count a.q.now.image.now) && ltb (a.q.now.pc + 1) (word_count a.q.now.image.now)) c.if-q-ge-PLACES.false c.if-v-ne1.false (rw c.from.ensures) c.if-v-from.false
