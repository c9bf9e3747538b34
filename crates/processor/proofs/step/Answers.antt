-- `processor::step` meets its contract. Assumes nothing.
use native.Mathlib.Nat.{lt_of_lt_of_le}
use lib.ListN.{get_or}
use Prim.Native.Nat.{◌*◌, ◌+◌, ◌<◌}
use mathlib.Core.Path.{◌∙◌, sym, ap, subst}
use Rattle.machine.specs.Step.{step_from}
use Rattle.machine.specs.Parts.{whole, fetch_of}
use Rattle.forms.specs.Forms.{shape_is}
use Rattle.processor.specs.Fetching.{Fetches}
use Rattle.machine.proofs.Fetching.{near_fetched, fetch_numbers, no_shape, outside, inside, nothing}
use Rattle.processor.proofs.Forming.{read_in_range, read_shape}
use Rattle.processor.proofs.step.Goals as goal

pub returns-then-image-at : goal.returns-then-image-at
returns-then-image-at c =
    let a = c.args in
    let s = whole a.q a.values.now a.latches.now a.returns.now in
    ap (step_from s) (c.stopped.ensures _ _ _) ∙ outside a.image.now a.map.now a.bus s c.fetch_address-at.result (c.fetch_address-at.ensures ∙ fetch_numbers a.q.pending a.q.pc) c.if-image-at.true

pub returns-in_default : goal.returns-in_default
returns-in_default c =
    let a = c.args in
    let fetch = c.fetch_address-at in
    let none = subst (Fetches c.decode_bytes-decoded.result) c.in_default.is c.fetched_of.ensures in
    let s = whole a.q a.values.now a.latches.now a.returns.now in
    ap (step_from s) (c.stopped-in_default.ensures _ _ _) ∙ nothing a.image.now a.map.now a.bus s fetch.result (fetch.ensures ∙ fetch_numbers a.q.pending a.q.pc) c.if-image-at.false (no_shape a.image.now fetch.result c.decode_bytes-decoded.ensures none)

pub form_of-requires : goal.form_of-requires
form_of-requires c =
    let image = c.args.image.now in
    let at = c.fetch_address-at.result in
    let byte = c.type_inv.image in
    let word = (subst (Fetches c.decode_bytes-decoded.result) c.in-Some.is c.fetched_of.ensures).0 in
    read_in_range (get_or image (2 * at) 0) (get_or image (2 * at + 1) 0) (byte (2 * at)).fits (byte (2 * at + 1)).fits (sym word ∙ c.decode_bytes-decoded.ensures)

pub execute-requires : goal.execute-requires
execute-requires c =
    let start = c in
    let q = start.args.q in
    let fetch = c.fetch_address-at in
    let near : fetch_of q < 8192 = rw (← fetch.ensures) (lt_of_lt_of_le c.if-image-at.false start.requires.words) in (
      record {
        near = near_fetched q.pending q.pc near start.requires.near;
        shallow = start.requires.shallow;
      },
      c.form_of.ensures.1,
    )

pub returns : goal.returns
returns c =
    let a = c.args in
    let fetch = c.fetch_address-at in
    let word = (subst (Fetches c.decode_bytes-decoded.result) c.in-Some.is c.fetched_of.ensures).0 in
    inside a.image.now a.map.now a.bus (whole a.q a.values.now a.latches.now a.returns.now) fetch.result (fetch.ensures ∙ fetch_numbers a.q.pending a.q.pc) _ (shape_is c.form_of.result) c.if-image-at.false (read_shape a.image.now fetch.result (sym word ∙ c.decode_bytes-decoded.ensures) c.form_of.ensures.0) c.execute.ensures
