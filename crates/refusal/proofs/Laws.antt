-- A refusal has a number: it is not 0. Assumes nothing.
use mathlib.Core.Path.{◌≡◌}
use native.Mathlib.Omega.{arith}
use Rattle.refusal.specs.declared.Refusal.{Refusal}
use Rattle.refusal.specs.declared.Refusal.TheVariants.{Image, Map, Table, State, Recording, Trace, Input, Unlisted, Page}
use Rattle.refusal.specs.Refusal.{refusal_number}

pub some_refusal : (refusal : Refusal) → refusal_number refusal ≡ 0 → ⊥
some_refusal Image z = absurd (omega arith)
some_refusal Map z = absurd (omega arith)
some_refusal Table z = absurd (omega arith)
some_refusal State z = absurd (omega arith)
some_refusal Recording z = absurd (omega arith)
some_refusal Trace z = absurd (omega arith)
some_refusal Input z = absurd (omega arith)
some_refusal Unlisted z = absurd (omega arith)
some_refusal Page z = absurd (omega arith)
