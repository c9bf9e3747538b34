-- `listing::list` meets its contract: a law for each way out. Assumes nothing.
use mathlib.Core.Path.{sym, ◌∙◌}
use native.Mathlib.Omega.{arith}
use Rattle.emulator.proofs.Door.{image_words}
use Rattle.listing.proofs.Laws.{refused_11, refused_41, let_in_lem}
use Rattle.listing.proofs.list.Goals as goal

pub returns-then-not-image_fits : goal.returns-then-not-image_fits
returns-then-not-image_fits c =
    let a = c.args in
    refused_11 a.image.now a.page.now (sym c.image_fits.ensures ∙ c.if-not-image_fits.true)

pub overflow_mul-image : goal.overflow_mul-image
overflow_mul-image c =
    record {
      fits =
          omega (arith, image_words c.args.image.now (sym c.image_fits.ensures ∙ c.if-not-image_fits.false));
    }

pub returns-then-page-image : goal.returns-then-page-image
returns-then-page-image c =
    let a = c.args in
    refused_41 a.image.now a.page.now (sym c.image_fits.ensures ∙ c.if-not-image_fits.false) (λ e. omega (arith, e, c.if-page-image.true))

pub returns : goal.returns
returns c =
    let a = c.args in
    let_in_lem a.image.now a.page.now (sym c.image_fits.ensures ∙ c.if-not-image_fits.false) (omega (arith, c.if-page-image.false)) c.lines.ensures
