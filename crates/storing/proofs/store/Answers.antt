-- The parts lie over the 36 bytes one behind another. Assumes nothing.
use borrow.Author.Rules.{rules}
use mathlib.Core.Path.{◌≡◌, sym, ap, ◌∙◌}
use mathlib.Core.List.{[]}
use lib.ListN.{get_or}
use Rattle.std.specs.Prelude.{flat_map}
use Rattle.std.proofs.lemmas.List.FromFn.{fill_by_all}
use Rattle.state.specs.State.{two_bytes, pairs_from, stored}
use Rattle.state.proofs.RoundTrip.{whole}
use Rattle.storing.proofs.store.Goals as goal

pub returns : goal.returns
unfolding stored
returns c =
    let s = c.args.s in
    let pairs : c.copy_from_slice-4.new.self ≡ pairs_from s.returns 0 8 =
    c.copy_from_slice-4.ensures.after ∙ c.as_flattened.ensures.value
    ∙ ap (flat_map (λ x. x))
    (fill_by_all (λ k. two_bytes (get_or s.returns k 0)) c.map.result 8 [] c.map.ensures.items.long (λ k lt. (c.map.ensures.items.at k 0 [] lt).2.met)) in
    rw (
      ← whole c.args.bytes.now 36 c.requires,
      c.copy_from_slice.ensures.after,
      c.copy_from_slice-2.ensures.after ∙ sym (whole s.values 11 (search rules)),
      c.copy_from_slice-3.ensures.after ∙ sym (whole s.latches 2 (search rules)),
      pairs,
      c.to_le_bytes.ensures,
      c.to_le_bytes-2.ensures,
      c.to_le_bytes-3.ensures,
      c.to_le_bytes-4.ensures,
      c.to_le_bytes-5.ensures,
    )
