-- `filling::fill` meets its contract. Assumes nothing.
use mathlib.Core.Path.{◌∙◌, ap}
use Prim.Native.Nat.{ℕ}
use lib.ListN.{replicate}
use Rattle.filling.proofs.Starting.{ready, started, begun}
use Rattle.filling.proofs.fill.Goals as goal

pub start-requires : goal.start-requires
start-requires c =
    let start = c in
    let e = c.fill.ensures.after (λ y h. h) ∙ ap (λ (n : ℕ). replicate n 0) start.requires.2 in
    ready start.args.image.now start.requires.1 e

pub sweep_all-requires : goal.sweep_all-requires
sweep_all-requires c =
    let start = c in
    let image = start.args.image.now in
    let e = c.fill.ensures.after (λ y h. h) ∙ ap (λ (n : ℕ). replicate n 0) start.requires.2 in
    let made = begun image start.requires.1 e (λ k. (c.type_inv.image k).fits) start.requires.0 c.start.ensures in
    (start.requires.0, made.0, started image start.requires.1 e (λ k. (c.type_inv.image k).fits) start.requires.0 c.start.ensures, made.1)
