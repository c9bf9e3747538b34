-- The bytes of a step are those of document 01 but for OVF's. Assumes nothing.
use mathlib.Core.List.{List, [], ◌∷◌}
use mathlib.Core.Path.{◌≡◌, refl, sym, ap, ◌∙◌}
use Prim.Native.Nat.{ℕ, zero, suc}
use native.Mathlib.Omega.{arith}
use lib.Dec.{eqb}
use lib.ListN.{get_or, set}
use lib.Seq.{get_or-set_other}
use Rattle.choice.proofs.Laws.{pick_beside, asked_beside}
use Rattle.state.specs.declared.State.{State}
use Rattle.state.specs.State.{overflow_slot, loaded, stored}
use Rattle.machine.specs.Step.{Step, stepped}
use Rattle.machine.specs.Overflow.{stepped_whole, but_overflow, step_but_overflow}
use Rattle.machine.proofs.Overflow.{only_overflow}
use Rattle.emulator.specs.Run.{Ran, no_step, after, door_questions, RunResult, refused, ended, ran_over, run_result}
use Rattle.emulator.specs.Overflow.{overflow_byte, result_but_overflow, OnlyOverflowByte}

-- a place that was zeroed holds 0, also where there is none
zeroed : (xs : List ℕ) (i : ℕ) → get_or (set xs i 0) i 0 ≡ 0
zeroed [] i = refl
zeroed (x ∷ xs) zero = refl
zeroed (x ∷ xs) (suc i) = zeroed xs i

stored_but : (s : State) → set (stored s) overflow_byte 0 ≡ stored (but_overflow s)
unfolding stored
stored_but s =
    rw (
      zeroed s.values overflow_slot,
      other 0 (omega arith),
      other 1 (omega arith),
      other 2 (omega arith),
      other 3 (omega arith),
      other 4 (omega arith),
      other 5 (omega arith),
      other 6 (omega arith),
      other 7 (omega arith),
      other 9 (omega arith),
      other 10 (omega arith),
    )
  where
    other : (k : ℕ) → (k ≡ overflow_slot → ⊥) → get_or (set s.values overflow_slot 0) k 0 ≡ get_or s.values k 0
    other k h = get_or-set_other s.values overflow_slot k 0 0 h

-- what a run of one step yields, from the step of which OVF is not looked at
yields : List ℕ → Step → RunResult
yields trace o = ended trace (after o (no_step o.state))

yields_but : (trace : List ℕ) (o : Step) → result_but_overflow (yields trace o) ≡ yields trace (step_but_overflow o)
unfolding yields
yields_but trace o = rw (stored_but o.state)

pub only_overflow_byte : OnlyOverflowByte
unfolding run_result ran_over yields
only_overflow_byte image map state trace left right =
    asked_beside (λ (r q : RunResult). result_but_overflow r ≡ result_but_overflow q) (door_questions image map state (left ∷ right ∷ []) trace)
    {refuse = refused state trace} {deny = refused state trace}
    (pick_beside (λ (r q : Ran). result_but_overflow (ended trace r) ≡ result_but_overflow (ended trace q)) (eqb (loaded state).stop 0)
    (λ _. yields_but trace (stepped image map (left ∷ right ∷ []) (loaded state))
    ∙ ap (yields trace) (only_overflow image map (left ∷ right ∷ []) (loaded state))
    ∙ sym (yields_but trace (stepped_whole image map (left ∷ right ∷ []) (loaded state))))
    (λ _. refl))
    (λ n. refl)
