-- `checking::first_unfit` meets its contract. Assumes nothing.
use Rattle.std.proofs.Common.{rules}
use borrow.Author.Tests.{not-true, not-false}
use mathlib.Core.Path.{◌≡◌}
use native.Mathlib.Omega.{arith}
use mathlib.Core.Bool.{true, false}
use Rattle.std.proofs.lemmas.Iterator.{YieldsList-from_slice, IsFirst-from_position}
use Rattle.records.specs.Records.{record_fits}
use Rattle.checking.proofs.Scanning.{first_layout}
use Rattle.checking.proofs.first_unfit.Goals as goal

pub returns : goal.returns
returns c count room =
    first_layout c.args.table.now c.as_chunks.ensures.front count (omega (arith, c.as_chunks.ensures.front_len)) (omega arith) c.position.result
    (IsFirst-from_position _ _ _ (λ b. record_fits b ≡ false) (λ b. record_fits b ≡ true) c.position.ensures.ran (YieldsList-from_slice _ c.iter.ensures.rest) (λ x q k. search (rules, not-true)) (λ x q k. search (rules, not-false)))
