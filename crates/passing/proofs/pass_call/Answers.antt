-- `passing::pass_call` meets its contract. The invariant: the first n values of AUX are passed on. Assumes nothing.
use mathlib.Core.Path.{refl}
use native.Mathlib.Omega.{arith}
use mathlib.Core.Path.{◌≡◌, ap}
use mathlib.Core.List.{List}
use Prim.Native.Nat.{ℕ, ◌+◌, ◌*◌}
use denote.Ref.{Bor}
use lib.ListN.{length}
use Rattle.machine.specs.Step.{word_count}
use Rattle.transfer.specs.Passes.{toward}
use Rattle.passing.proofs.Loans.{loans_same, loans_then, passed_on}
use Rattle.passing.proofs.Going.{call_begins, call_next, call_still, call_passed, call_none}
use Rattle.passing.proofs.pass_call.Goals as goal

pub returns-then-p-eq-PLACES-clause-passed : goal.returns-then-p-eq-PLACES-clause-passed
returns-then-p-eq-PLACES-clause-passed c =
    let a = c.args in
    call_none a.t.now.image.now a.t.now.asked.now a.p.now.depth a.p.now.pc a.p.now.facts a.i a.t.now.table.now a.t.now.marks.now c.if-p-eq-PLACES.true c.requires.0

pub loop-n-init : goal.loop-n-init
loop-n-init c =
    let a = c.args in
    (call_begins a.t.now.image.now a.t.now.asked.now a.p.now.depth a.p.now.facts a.i c.values_of-v.result.low c.requires.0, loans_same)

pub returns-then-t-pc-clause-passed : goal.returns-then-t-pc-clause-passed
returns-then-t-pc-clause-passed c =
    let a = c.args in
    let p = c.loop-n in
    let v = c.values_of-v in
    let long : length p.t.image.now ≡ length a.t.now.image.now = ap (λ (im : Bor (List ℕ)). length im.now) p.invariant.1.image in
    call_passed a.t.now.image.now a.t.now.asked.now a.p.now.depth a.p.now.pc a.p.now.facts a.i v.result v.result.count v.ensures.0
    (omega (arith, c.if-p-eq-PLACES.false, c.requires.1)) refl
    (call_still a.t.now.image.now a.t.now.asked.now a.p.now.depth a.p.now.facts a.i v.result.low p.n v.result.count (omega (arith, p.auto.n-end)) (omega (arith, long, c.if-t-pc.true, c.from.ensures)) p.invariant.0)

pub loop-n-preserved : goal.loop-n-preserved
loop-n-preserved c =
    let a = c.args in
    let p = c.loop-n in
    let low = c.values_of-v.result.low in (
      call_next a.t.now.image.now a.t.now.asked.now a.p.now.depth a.p.now.facts a.i low p.n p.invariant.0
          (passed_on p.invariant.1 c.pass-changed.new.t (λ image _. toward (word_count image) (a.p.now.depth + 1) ((low + p.n) * 256 + a.i) a.p.now.facts) (rw c.from.ensures at c.pass-changed.ensures.passed)),
      loans_then p.invariant.1 c.pass-changed.ensures.lent,
    )

pub returns-clause-passed : goal.returns-clause-passed
returns-clause-passed c =
    let a = c.args in
    let p = c.loop-n in
    let v = c.values_of-v in
    call_passed a.t.now.image.now a.t.now.asked.now a.p.now.depth a.p.now.pc a.p.now.facts a.i v.result p.n v.ensures.0
    (omega (arith, c.if-p-eq-PLACES.false, c.requires.1)) (omega (arith, c.loop-n-test.false, p.auto.n-end)) p.invariant.0
