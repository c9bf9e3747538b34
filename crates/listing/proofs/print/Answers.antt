-- `listing::print` meets its contract: a law for each way out. Assumes nothing.
use mathlib.Core.Path.{sym, ◌∙◌}
use native.Mathlib.Omega.{arith}
use Rattle.emulator.proofs.Door.{image_words}
use Rattle.text.proofs.Writing.{behind}
use Rattle.listing.proofs.Laws.{printed_refused, page_part, page_long, page_printed}
use Rattle.listing.proofs.print.Goals as goal

pub returns-then-not-image_fits : goal.returns-then-not-image_fits
returns-then-not-image_fits c =
    let start = c in
    let told = rw (c.from.ensures ∙ c.number.ensures) at c.put_door-behind.ensures in
    let ended = c.put.ensures in
    let whole = behind told.0 ended in (
      whole.line ∙ printed_refused start.args.input.now (sym c.image_fits.ensures ∙ c.if-not-image_fits.true),
      omega (arith, start.requires, told.1, ended.place, whole.long),
      whole.beyond,
    )

pub overflow_mul-size : goal.overflow_mul-size
overflow_mul-size c = record { fits = omega (arith, image_words c.args.input.now (sym c.image_fits.ensures ∙ c.if-not-image_fits.false)) }

pub slice_bounds-lines-end : goal.slice_bounds-lines-end
slice_bounds-lines-end c = page_part c.args.input.now c.args.out.now (sym c.image_fits.ensures ∙ c.if-not-image_fits.false) c.requires

pub slice_bounds-lines-end-2 : goal.slice_bounds-lines-end-2
slice_bounds-lines-end-2 c = sym (page_long c.args.input.now c.args.out.now (sym c.image_fits.ensures ∙ c.if-not-image_fits.false) c.requires)

pub lines-requires : goal.lines-requires
lines-requires c = page_long c.args.input.now c.args.out.now (sym c.image_fits.ensures ∙ c.if-not-image_fits.false) c.requires

pub returns : goal.returns
returns c = page_printed c.args.input.now _ _ (sym c.image_fits.ensures ∙ c.if-not-image_fits.false) c.lines.ensures
