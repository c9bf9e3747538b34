-- A step from plain numbers is that of their sequencer. Assumes nothing.
use Rattle.std.specs.Prelude.{Some, None}
use mathlib.Core.Bool.{Bool, true, false}
use mathlib.Core.List.{List, [], ◌∷◌}
use mathlib.Core.Path.{◌≡◌, refl, ap, ◌∙◌}
use Prim.Native.Nat.{ℕ}
use lib.Dec.{ltb, eqb}
use lib.ListN.{get_or}
use Rattle.choice.specs.Choice.{pick}
use Rattle.choice.proofs.Laws.{pick_beside}
use Rattle.state.specs.declared.State.{State}
use Rattle.machine.specs.Shape.{Shape, act, go, invalid, Source, Control, jump, branch, defer, call, return}
use Rattle.machine.specs.Step.{Outcome, Step, word_count, shape_at, value_of, result_of, act_state, go_state, may_read, may_write, may_choose, may_call, may_return}
use Rattle.machine.specs.Step.{came_to_stop, word_step, stepped}
use Rattle.machine.specs.Parts.{whole}
use Rattle.machine.specs.Numbers.{numbered, left_by}

module _ (image map bus : List ℕ) (pc flag pending depth : ℕ) (values latches returns : List ℕ) where
  -- the state of another flag and address, and what is fetched at an address from there
  abbrev other : ℕ → ℕ → State
  other f p = numbered pc f p depth values latches returns

  abbrev step_at : ℕ → Outcome → Step
  step_at a o = record { state = o.state; event = o.event; pc = pc; fetch = a }

  module _ (f p a : ℕ) where
    -- what a step with the fetch address a leaves of both
    abbrev Alike : Outcome → Outcome → Type 0
    Alike o u = step_at a o ≡ left_by flag pending (step_at a u)

    directed : (source : Source) (control : Control) → Alike (word_step map (go source control) bus (other flag pending)) (word_step map (go source control) bus (other f p))
    unfolding go_state
    directed source control =
        pick_beside Alike (may_read map source values)
        (λ _. pick_beside Alike (may_call control depth)
        (λ _. pick_beside Alike (may_return control depth) (λ _. gone control) (λ _. refl)) (λ _. refl)) (λ _. refl)
      where
        gone : (control : Control)
            → Alike (record { state = go_state control (value_of source values bus) (other flag pending); event = 0 ∷ 0 ∷ 0 ∷ 0 ∷ [] })
            (record { state = go_state control (value_of source values bus) (other f p); event = 0 ∷ 0 ∷ 0 ∷ 0 ∷ [] })
        gone (jump i) = refl
        gone (branch page i) = refl
        gone (defer page i) = refl
        gone (call i) = refl
        gone return = refl

    alike : (shape : Shape) → Alike (word_step map shape bus (other flag pending)) (word_step map shape bus (other f p))
    unfolding act_state
    alike (act source op target) =
        pick_beside Alike (may_read map source values)
        (λ _. pick_beside Alike (may_write map target values)
        (λ _. pick_beside Alike (may_choose map target (result_of op (get_or values 0 0) (value_of source values bus))) (λ _. refl) (λ _. refl))
        (λ _. refl)) (λ _. refl)
    alike (go source control) = directed source control
    alike invalid = refl

    fetched : Alike (pick (ltb a (word_count image)) (word_step map (shape_at image a) bus (other flag pending)) (came_to_stop (other flag pending) 21))
        (pick (ltb a (word_count image)) (word_step map (shape_at image a) bus (other f p)) (came_to_stop (other f p) 21))
    fetched = pick_beside Alike (ltb a (word_count image)) (λ _. alike (shape_at image a)) (λ _. refl)

  abbrev step_from_at : ℕ → ℕ → ℕ → Step
  step_from_at f p a =
      step_at a (pick (ltb a (word_count image)) (word_step map (shape_at image a) bus (other f p)) (came_to_stop (other f p) 21))

  -- with a flag of 1 the address is fetched, without it PC
  pub step_numbers : (b : Bool) → eqb flag 1 ≡ b → stepped image map bus (numbered pc flag pending depth values latches returns)
      ≡ left_by flag pending (stepped image map bus (whole (record { pc = pc; pending = pick b (Some pending) None; depth = depth }) values latches returns))
  unfolding stepped
  step_numbers true e = ap (λ (c : Bool). step_from_at flag pending (pick c pending pc)) e ∙ fetched 1 pending pending
  step_numbers false e = ap (λ (c : Bool). step_from_at flag pending (pick c pending pc)) e ∙ fetched 0 0 pc
