-- `admission::admit` meets its contract: a law for each way out. Assumes nothing.
use mathlib.Core.Path.{refl}
use native.Mathlib.Omega.{arith}
use Rattle.emulator.proofs.Door.{image_some, image_words}
use Rattle.refusal.proofs.Laws.{some_refusal}
use Rattle.admission.proofs.Opening.{unswept, turned_away_lem, opened, least_held}
use Rattle.admission.proofs.admit.Goals as goal

pub returns-in-Err : goal.returns-in-Err
returns-in-Err c =
    let a = c.args in
    unswept a.image.now a.map.now a.table.now c.refused.ensures
    (turned_away_lem a.image.now a.map.now a.table.now c.in-Err.ensures.number (some_refusal c.in-Err.refusal))

pub fill-sweeps-requires : goal.fill-sweeps-requires
fill-sweeps-requires c =
    let a = c.args in
    let way = opened a.image.now a.map.now a.table.now c.in-Ok.ensures.number refl in
    (image_some a.image.now way.fits, image_words a.image.now way.fits, omega (arith, way.room))

pub mark-first-requires : goal.mark-first-requires
mark-first-requires c =
    let a = c.args in
    let way = opened a.image.now a.map.now a.table.now c.in-Ok.ensures.number refl in (
      least_held a.image.now _ (λ k. (c.type_inv.image k).fits) way.fits c.fill-sweeps.ensures.0,
      image_some a.image.now way.fits,
    )
