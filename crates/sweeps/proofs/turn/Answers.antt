-- `sweeps::turn` meets its contract. Assumes nothing.
use mathlib.Core.Path.{subst⁻¹}
use native.Mathlib.Omega.{arith}
use Rattle.facts.specs.Record.{FineCell}
use Rattle.sweeps.proofs.Turning.{place_of, begun_ready, own_laid, own_sited, own_hubs, one_down, turn_done}
use Rattle.sweeps.proofs.turn.Goals as goal

pub own_turn-on-requires : goal.own_turn-on-requires
own_turn-on-requires c =
    let start = c in
    let a = start.args in (
      begun_ready a.image.now (λ k. (c.type_inv.image k).fits) a.table.now a.marks.now a.hubs.now a.i start.requires.0 start.requires.1 start.requires.2 c.load-c.ensures c.begin-changed.ensures,
      place_of a.image.now a.i start.requires.0.words start.requires.2,
      subst⁻¹ FineCell c.load-c.ensures (start.requires.0.layout.fine a.i start.requires.2),
      record { shape = c.form_at-form.ensures.0; fits = c.form_at-form.ensures.1 },
    )

pub go_back-back-requires : goal.go_back-back-requires
go_back-back-requires c =
    let start = c in
    let a = start.args in
    let e = c.load-c.ensures in
    let b = c.begin-changed.ensures in
    let p = c.own_turn-on.ensures in (
      own_laid a.image.now (λ k. (c.type_inv.image k).fits) a.table.now a.marks.now a.hubs.now a.i start.requires.0 start.requires.1 start.requires.2 e b p,
      own_sited a.image.now (λ k. (c.type_inv.image k).fits) a.table.now a.marks.now a.hubs.now a.i start.requires.0 start.requires.1 start.requires.2 e b p,
      own_hubs a.image.now (λ k. (c.type_inv.image k).fits) a.table.now a.marks.now a.hubs.now a.i start.requires.0 start.requires.1 start.requires.2 e b p,
      one_down a.image.now (λ k. (c.type_inv.image k).fits) a.table.now a.marks.now a.hubs.now a.i start.requires.0 start.requires.1 start.requires.2 e b p,
      subst⁻¹ FineCell e (start.requires.0.layout.fine a.i start.requires.2),
      omega (arith, start.requires.2, start.requires.0.words),
    )

pub returns : goal.returns
returns c =
    let start = c in
    let a = start.args in
    turn_done a.image.now (λ k. (c.type_inv.image k).fits) a.table.now a.marks.now a.hubs.now a.i start.requires.0 start.requires.1 start.requires.2 c.load-c.ensures c.begin-changed.ensures c.own_turn-on.ensures c.go_back-back.ensures
