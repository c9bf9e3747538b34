-- What a word makes of facts, as the code reads them from eleven: laws over plain numbers and lists.
use mathlib.Core.Path.{◌≡◌, refl, ◌∙◌, ap, sym, subst}
use mathlib.Core.List.{List}
use Prim.Native.Nat.{ℕ, ◌<◌}
use native.Mathlib.Omega.{arith}
use lib.ListN.{get_or}
use lib.Dec.{leb}
use borrow.Author.Tests.{ne_eqb}
use Rattle.choice.specs.Choice.{pick}
use Rattle.choice.proofs.Laws.{pick_beside}
use Rattle.field.proofs.Laws.{low_byte}
use Rattle.machine.specs.declared.act.Argument.{Argument}
use Rattle.machine.specs.declared.act.Argument.TheVariants.{Number, Constant}
use Rattle.machine.specs.declared.act.Delivery.{Delivery}
use Rattle.machine.specs.Shape.{Source, slot_of, source_of, places_of, kept_of}
use Rattle.machine.specs.Parts.{masked_into, operation_number, argument_source, taken_argument, taken_source, delivery_source}
use Rattle.machine.proofs.Masks.{kept_value}
use Rattle.facts.specs.Facts.{unknown, is_known, source_fact}

-- the fact of a source that is taken whole and then masked is that of the source with its kept length
module _ (a : Delivery) (fs : List ℕ) (short : a.l < 8) where
  abbrev op : ℕ
  op = operation_number a.op

  abbrev masks : ℕ → ℕ
  masks x = pick (is_known x) (masked_into op a.l a.d x) unknown

  abbrev Masked : Source → Source → Type 0
  Masked s t = masks (source_fact s fs) ≡ source_fact t fs

  abbrev taken_from : Argument → ℕ
  taken_from from = source_fact (taken_argument from a.l a.d) fs

  known : {x : ℕ} → x < 256 → masks x ≡ masked_into op a.l a.d x
  known {x} h = rw (ne_eqb x unknown (λ e. omega arith))

  -- a register or a bank
  numbered : (s : ℕ) → Masked (source_of s (places_of a.l a.d) 0 a.l) (source_of s (places_of a.l a.d) (kept_of op a.l a.d) a.l)
  numbered s =
      pick_beside Masked (leb 16 s) (λ _. refl)
      (λ _. pick_beside (λ (x y : ℕ). masks x ≡ y) (is_known (get_or fs (slot_of s) unknown))
      (λ _. known (low_byte _) ∙ kept_value op a.l a.d _ short) (λ _. refl))

  pub masked_fact : ((i : ℕ) → a.from ≡ Constant i → i < 256) → Masked (taken_source a) (delivery_source a)
  masked_fact byte = go a.from byte
    where
      go : (from : Argument) → ((i : ℕ) → from ≡ Constant i → i < 256) → Masked (taken_argument from a.l a.d) (argument_source from op a.l a.d)
      go (Number s) h = numbered s
      go (Constant i) h = known (h i refl)

  -- the same as the code takes and masks it: a register or bank, XMIT's constant
  pub masked_number : {s places taken r : ℕ} → a.from ≡ Number s → places ≡ places_of a.l a.d → taken ≡ source_fact (source_of s places 0 a.l) fs
      → r ≡ masks taken → r ≡ source_fact (delivery_source a) fs
  masked_number {s} hs hp ht hr =
      hr
      ∙ ap masks (ht ∙ ap (λ (p : ℕ). source_fact (source_of s p 0 a.l) fs) hp ∙ ap taken_from (sym hs))
      ∙ masked_fact (λ i e. absurd (subst IsNumber (sym hs ∙ e) tt))
    where
      IsNumber : Argument → Type 0
      IsNumber (Number n) = Unit
      IsNumber (Constant i) = ⊥

  pub masked_constant : {i r : ℕ} → a.from ≡ Constant i → i < 256 → r ≡ masked_into op a.l a.d i → r ≡ source_fact (delivery_source a) fs
  masked_constant {i} hi byte hr =
      hr
      ∙ sym (known byte)
      ∙ ap (λ (from : Argument). masks (taken_from from)) (sym hi)
      ∙ masked_fact (λ j e. subst IsByte (sym hi ∙ e) byte)
    where
      IsByte : Argument → Type 0
      IsByte (Number n) = Unit
      IsByte (Constant j) = j < 256
