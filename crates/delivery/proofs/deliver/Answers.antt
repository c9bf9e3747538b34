use borrow.Author.Tests.{lt-leb, le-leb}
use Rattle.machine.proofs.Masks.{unmasked}
use Rattle.machine.specs.Parts.{operation_number}
use Rattle.delivery.proofs.deliver.Goals as goal

pub returns-then-d-lt-FIRST_BANK : goal.returns-then-d-lt-FIRST_BANK
returns-then-d-lt-FIRST_BANK c = λ s.
    let a = c.args in
    let low = c.if-d-lt-FIRST_BANK.true in
    rw (unmasked (operation_number a.op) a.l a.d a.x low, lt-leb 16 a.d low, ← c.slot_of-k.ensures.0) (c.to_slot.ensures a.latches.now s)

pub returns : goal.returns
returns c = λ s.
    let high = le-leb 16 c.args.d c.if-d-lt-FIRST_BANK.false in
    rw high (rw high at (c.to_latch.ensures s))
