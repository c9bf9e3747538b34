-- Place k is the number of two bytes at 19 + 2 * k.
use native.Mathlib.Omega.{arith}
use Prim.Native.Nat.{◌+◌, ◌*◌}
use Rattle.std.proofs.lemmas.List.FromFn.{fill_by_all}
use Rattle.state.specs.State.{number_at}
use Rattle.state.proofs.load_returns.Goals as goal

pub returns : goal.returns
returns c =
    fill_by_all (λ k. number_at c.args.b.now (19 + 2 * k)) c.loop-place.r-items 8 0 c.loop-place-test.array_long (λ k lt. c.loop-place.invariant k (omega arith))
