-- A source that is taken whole and then masked is the source of the definition. Assumes nothing.
use mathlib.Core.Path.{◌≡◌, refl}
use mathlib.Core.Bool.{Bool, true, false}
use mathlib.Core.List.{List}
use Prim.Native.Nat.{ℕ, ◌-◌, ◌<◌}
use lib.Dec.{leb, eqb}
use borrow.Author.Tests.{lt-leb}
use Rattle.choice.specs.Choice.{pick}
use Rattle.choice.proofs.Laws.{pick_both, pick_beside}
use Rattle.field.specs.Field.{rotate_right, low_bits, field_of}
use Rattle.field.proofs.Laws.{low_low, low_of_all}
use Rattle.machine.specs.declared.act.Argument.{Argument}
use Rattle.machine.specs.declared.act.Argument.TheVariants.{Number, Constant}
use Rattle.machine.specs.declared.act.Delivery.{Delivery}
use Rattle.machine.specs.Shape.{Source, kept_of}
use Rattle.machine.specs.Step.{value_of}
use Rattle.machine.specs.Parts.{masked_into, operation_number, argument_source, taken_argument, taken_source, delivery_source}

-- into a register or a bus address: no mask
pub unmasked : (op l d x : ℕ) → d < 16 → masked_into op l d x ≡ x
unmasked op l d x h = rw (lt-leb 16 d h) (pick_both (λ (y : ℕ). y ≡ x) (eqb op 1) refl refl)

-- a source that is taken whole and then masked is the source with its kept length
pub kept_value : (op l d y : ℕ) → l < 8 → masked_into op l d (low_bits 0 y) ≡ low_bits (kept_of op l d) y
kept_value op l d y h = go (eqb op 1) (leb 16 d)
  where
    go : (b c : Bool) → pick b (pick c (low_bits l (low_bits 0 y)) (low_bits 0 y)) (low_bits 0 y) ≡ low_bits (pick b (pick c l 0) 0) y
    go true true = low_of_all l y h
    go true false = refl
    go false c = refl

field_value : (op l d p y : ℕ) → masked_into op l d (field_of p l y) ≡ field_of p l y
unfolding field_of
field_value op l d p y =
    pick_both Same (eqb op 1) (pick_both Same (leb 16 d) (low_low l (rotate_right (7 - p) y)) refl) refl
  where
    Same : ℕ → Type 0
    Same x = x ≡ low_bits l (rotate_right (7 - p) y)

pub taken_value : (a : Delivery) (v bus : List ℕ) → a.l < 8
    → masked_into (operation_number a.op) a.l a.d (value_of (taken_source a) v bus) ≡ value_of (delivery_source a) v bus
taken_value a v bus h = go a.from
  where
    op : ℕ
    op = operation_number a.op

    Masked : Source → Source → Type 0
    Masked s t = masked_into op a.l a.d (value_of s v bus) ≡ value_of t v bus

    go : (from : Argument) → Masked (taken_argument from a.l a.d) (argument_source from op a.l a.d)
    go (Number s) = pick_beside Masked (leb 16 s) (λ _. field_value op a.l a.d _ _) (λ _. kept_value op a.l a.d _ h)
    go (Constant i) = refl
