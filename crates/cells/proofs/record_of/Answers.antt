-- `cells::record_of` meets its contract. Assumes nothing.
use Rattle.std.proofs.Common.{◌≡◌}
use mathlib.Core.Path.{sym, ap, ◌∙◌}
use mathlib.Core.List.{[], ◌∷◌, ◌++◌, map}
use native.Mathlib.Omega.{arith}
use Rattle.std.specs.Int.{w16, to_le_bytes}
use Rattle.facts.proofs.Mask.{mask_lt}
use lib.Pow.{pow_mono}
use native.Mathlib.Nat.{lt_of_lt_of_le}
use Prim.Native.Nat.{ℕ, ◌/◌, ◌%◌}
use Rattle.facts.specs.Record.{mask_of, value_byte, record_of}
use Rattle.cells.proofs.Laws.{bit_is, mask_bytes, values_at, fact_bound}
use Rattle.cells.proofs.record_of.Goals as goal

pub returns : goal.returns
unfolding record_of
returns c =
    let facts = c.args.c.facts in
    let mask : c.copy_from_slice.new.self ≡ mask_of facts % 256 ∷ mask_of facts / 256 ∷ [] =
    c.copy_from_slice.ensures.after ∙ c.to_le_bytes.ensures ∙ ap (to_le_bytes w16) c.mask_of.ensures ∙ mask_bytes (mask_of facts) (lt_of_lt_of_le (mask_lt facts) (pow_mono {j = 16} (omega (arith, c.requires.facts)))) in
    let values : c.copy_from_slice-2.new.self ≡ map value_byte facts =
    c.copy_from_slice-2.ensures.after
    ∙ values_at facts c.map.result (c.map.ensures.items.long ∙ sym c.requires.facts) (λ k h. (c.map.ensures.items.at k 0 0 (omega (arith, h, c.requires.facts))).2.met (fact_bound facts c.requires.facts c.requires.bounded k (omega (arith, h, c.requires.facts)))) in
    rw (mask, values, c.from.ensures)
    (ap (λ (b : ℕ). b ∷ c.args.finding ∷ mask_of facts % 256 ∷ mask_of facts / 256 ∷ (map value_byte facts ++ (0 ∷ []))) (bit_is c.args.c.reached))
