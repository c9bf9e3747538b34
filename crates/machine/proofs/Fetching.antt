-- The step from a fetched word on: one law for each way out.
use Rattle.std.specs.Prelude.{Option, Some, None, unwrap_or, IfSome}
use mathlib.Core.Path.{◌≡◌, refl, ap, ◌∙◌, sym}
use mathlib.Core.Bool.{Bool, true, false}
use mathlib.Core.List.{List}
use Prim.Native.Nat.{ℕ, ◌≤◌, ◌<◌}
use lib.Dec.{eqb}
use borrow.Author.Tests.{lt-ltb, le-ltb, eqb-true}
use Rattle.choice.specs.Choice.{pick}
use Rattle.word.specs.declared.Word.{Word}
use Rattle.word.specs.declared.Word.TheVariants.{Invalid}
use Rattle.word.specs.Word.{decoded}
use Rattle.state.specs.declared.State.{State}
use Rattle.machine.specs.Shape.{Shape, invalid, shape_of}
use Rattle.machine.specs.Parts.{flag_of, pending_of}
use Rattle.machine.specs.Step.{Outcome, word_count, word_at, shape_at, fetch_address, came_to_stop, word_step, step_from, stepped}

-- PC is near where the fetch address is
pub pc_near : (flag pending pc : ℕ) → pick (eqb flag 1) pending pc < 8192 → (flag ≡ 1 → pc < 8192) → pc < 8192
pc_near flag pending pc h near = go (eqb flag 1) refl h
  where
    go : (b : Bool) → eqb flag 1 ≡ b → pick b pending pc < 8192 → pc < 8192
    go true e h = near (eqb-true flag 1 e)
    go false e h = h

-- the same of a sequencer, and what a well-formed state says there
pub near_fetched : (pending : Option ℕ) (pc : ℕ) → unwrap_or pending pc < 8192 → IfSome pending (λ a. pc < 8192) → pc < 8192
near_fetched None pc h near = h
near_fetched (Some a) pc h near = near

pub near_pending : (pending : Option ℕ) (pc : ℕ) → (flag_of pending ≡ 1 → pc < 8192) → IfSome pending (λ a. pc < 8192)
near_pending None pc near = tt
near_pending (Some a) pc near = near refl

-- where a sequencer fetches is the fetch address of its state
pub fetch_numbers : (pending : Option ℕ) (pc : ℕ) → unwrap_or pending pc ≡ pick (eqb (flag_of pending) 1) (pending_of pending) pc
fetch_numbers None pc = refl
fetch_numbers (Some a) pc = refl

-- an invalid word has no shape
pub no_shape : (image : List ℕ) (a : ℕ) {w : Word} → w ≡ decoded (word_at image a) → w ≡ Invalid → shape_at image a ≡ invalid
unfolding shape_of
no_shape image a e n = ap shape_of (sym e ∙ n)

module _ (image map bus : List ℕ) (s : State) (a : ℕ) (ha : a ≡ fetch_address s) where
  pub outside : word_count image ≤ a → step_from s (came_to_stop s 21) ≡ stepped image map bus s
  unfolding stepped
  outside h = rw (← ha, le-ltb a (word_count image) h)

  pub inside : (o : Outcome) (shape : Shape) → a < word_count image → shape ≡ shape_at image a → o ≡ word_step map shape bus s → step_from s o ≡ stepped image map bus s
  unfolding stepped
  inside o shape h e ho = rw (← ha, lt-ltb a (word_count image) h, ← e, ho)

  pub nothing : a < word_count image → shape_at image a ≡ invalid → step_from s (came_to_stop s 22) ≡ stepped image map bus s
  unfolding stepped
  nothing h e = rw (← ha, lt-ltb a (word_count image) h, e)
