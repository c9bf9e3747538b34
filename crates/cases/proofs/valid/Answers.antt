-- `cases::valid` meets its contract: the bytes there and those of the words left are the whole. Assumes nothing.
use Prim.Native.Nat.{ℕ, ◌-◌, ◌+◌}
use mathlib.Core.Path.{◌≡◌, sym, ap}
use native.Mathlib.Nat.{sub-zero}
use native.Mathlib.Omega.{arith}
use Rattle.cases.specs.Cases.{valid_words}
use Rattle.cases.proofs.Laying.{none_yet, the_rest, the_bytes, all_there, word_turn, valid_over}
use Rattle.cases.proofs.valid.Goals as goal

pub loop-init : goal.loop-init
loop-init c =
    let a = c.args in (
      omega arith,
      c.within-room.ensures.0.0,
      the_rest (none_yet a.out.now _) (ap (valid_words 65536 a.seed) (sym (sub-zero c.within-room.result))),
    )

pub loop-preserved : goal.loop-preserved
loop-preserved c =
    let at = c.loop in
    let put = c.put-at in
    let room = c.within-room.result in (
      put.ensures.1,
      omega (arith, put.auto.out),
      the_rest
          (word_turn room (65536 - at.counter) at.x c.next-y.ensures c.next-x.ensures (rw (← c.from.ensures) c.byte_of-high.ensures) (rw (← c.from-in-loop.ensures) c.byte_of-low.ensures) (omega (arith, c.loop-test.true)) at.invariant.1 put.ensures at.invariant.2)
          (ap (λ (n : ℕ). valid_words n c.next-x.result (room - put.result)) {x = 65536 - at.counter - 1} {y = 65536 - (at.counter + 1)} (omega arith)),
    )

pub returns : goal.returns
returns c =
    let at = c.loop in
    let none : 65536 - at.counter ≡ 0 = omega (arith, c.loop-test.false) in
    the_bytes (all_there (the_rest at.invariant.2 (valid_over at.x _ none)))
    (ap (valid_words 65536 c.args.seed) c.within-room.ensures.1)
