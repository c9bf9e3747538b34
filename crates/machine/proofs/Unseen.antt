-- A step does not see a bank that is not granted. Assumes nothing.
use mathlib.Core.Bool.{true, false≢true}
use mathlib.Core.List.{List, [], ◌∷◌}
use mathlib.Core.Path.{◌≡◌, refl, sym, ap, subst, ◌∙◌}
use Prim.Native.Nat.{ℕ, ◌<◌}
use native.Mathlib.Decide.{ℕ_discrete}
use lib.Dec.{ltb}
use lib.ListN.{get_or}
use Rattle.choice.specs.Choice.{pick, ask, asked}
use Rattle.choice.proofs.Laws.{pick_beside}
use Rattle.field.specs.Field.{field_of}
use Rattle.map.specs.Map.{readable, NothingReadable}
use Rattle.map.proofs.Laws.{nothing_readable}
use Rattle.state.specs.declared.State.{State}
use Rattle.state.specs.State.{address_slot}
use Rattle.machine.specs.Shape.{Source, register, bank, constant, Shape, act, go, invalid}
use Rattle.machine.specs.Step.{word_count, shape_at, value_of, go_state, may_read, may_call, may_return, fetch_address, Outcome, went_on, came_to_stop, word_step, step_from, stepped}
use Rattle.machine.specs.Parts.{delivered}
use Rattle.machine.specs.Unseen.{EqualBut, StepUnseen}

module _ (b : ℕ) (map bus other : List ℕ) (s : State) (nothing : NothingReadable map b) (equal : EqualBut b bus other) (byte : get_or s.values (address_slot b) 0 < 256) where
  -- a source that may be read has one value
  value_unseen : (source : Source) → may_read map source s.values ≡ true → value_of source s.values bus ≡ value_of source s.values other
  value_unseen (register k places kept) h = refl
  value_unseen (bank c p l) h = by (ℕ_discrete c b)
    where
      by : Dec (c ≡ b) → field_of p l (get_or bus c 0) ≡ field_of p l (get_or other c 0)
      by (yes e) =
          absurd (false≢true (sym (nothing_readable map b nothing _ byte)
          ∙ subst (λ (n : ℕ). readable map n (get_or s.values (address_slot n) 0) ≡ true) e h))
      by (no n) = ap (field_of p l) (equal c n)
  value_unseen (constant x) h = refl

  -- question 23 comes before everything that a word makes of its source
  word_unseen : (shape : Shape) → word_step map shape bus s ≡ word_step map shape other s
  word_unseen (act source op target) =
      pick_beside ◌≡◌ (may_read map source s.values) (λ h. ap (λ (x : ℕ). delivered map op x target s) (value_unseen source h)) (λ _. refl)
  word_unseen (go source control) =
      pick_beside ◌≡◌ (may_read map source s.values)
      (λ h. ap (λ (x : ℕ).
      asked (ask 26 (may_call control s.depth) ∷ ask 27 (may_return control s.depth) ∷ [])
      (went_on (go source control) (go_state control x s)) (came_to_stop s)) (value_unseen source h))
      (λ _. refl)
  word_unseen invalid = refl

pub step_unseen : StepUnseen
unfolding stepped
step_unseen b image map bus other s nothing equal byte =
    ap (λ (o : Outcome). step_from s (pick (ltb (fetch_address s) (word_count image)) o (came_to_stop s 21)))
    (word_unseen b map bus other s nothing equal byte (shape_at image (fetch_address s)))
