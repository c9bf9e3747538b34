-- `cases::hex` meets its contract: the bytes there and those of the digits left are the whole. Assumes nothing.
use Prim.Native.Nat.{ℕ, suc, ◌+◌, ◌*◌, ◌-◌}
use mathlib.Core.Path.{◌≡◌, refl, ap}
use native.Mathlib.Omega.{arith}
use lib.ListN.{length, set, length-set}
use Rattle.std.proofs.lemmas.List.{set-get_or}
use Rattle.cases.specs.Cases.{hex_from}
use Rattle.cases.proofs.Laying.{the_rest, all_there, same_out, as_many, stored_one, hex_over, hex_more, hex_full}
use Rattle.cases.proofs.hex.Goals as goal

pub returns-in_default : goal.returns-in_default
returns-in_default c =
    let at = c.loop-k in
    let s = c.args.s.now in
    let left : length at.out - at.k ≡ suc (length at.out - (at.k + 1)) = omega (arith, c.loop-k-test.true, at.auto.out) in
    same_out (set-get_or at.out at.k 0) (all_there (the_rest at.invariant.1 (hex_over s (c.args.from + 2 * at.k) c.in_default.ensures.value left refl)))

pub loop-k-preserved : goal.loop-k-preserved
loop-k-preserved c =
    let at = c.loop-k in
    let s = c.args.s.now in
    let value = c.in-Some.value in
    let left : length at.out - at.k ≡ suc (length (set at.out at.k value) - (at.k + 1)) = rw (length-set at.out at.k value) (omega (arith, c.loop-k-test.true, at.auto.out)) in (
      λ h. omega (arith, c.in-Some.ensures.there),
      the_rest
          (stored_one value (the_rest at.invariant.1 (hex_more s (c.args.from + 2 * at.k) c.in-Some.ensures.value left (λ e. omega arith))) (omega (arith, c.loop-k-test.true, at.auto.out)))
          (ap (λ (n : ℕ). hex_from s n (length (set at.out at.k value) - (at.k + 1))) {x = c.args.from + 2 * at.k + 2} {y = c.args.from + 2 * (at.k + 1)} (omega arith)),
    )

pub returns : goal.returns
returns c =
    let at = c.loop-k in
    let none : length at.out - at.k ≡ 0 = omega (arith, c.loop-k-test.false, at.auto.out) in
    as_many (omega (arith, c.loop-k-test.false, at.auto.out)) (all_there (the_rest at.invariant.1 (hex_full c.args.s.now (c.args.from + 2 * at.k) none)))
