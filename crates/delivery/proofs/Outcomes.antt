-- What the code of an act leaves is the definition's outcome: over plain variables, one law for each way out.
use mathlib.Core.Path.{◌≡◌}
use mathlib.Core.Bool.{true, false}
use mathlib.Core.List.{List}
use Prim.Native.Nat.{ℕ, ◌+◌, ◌-◌, ◌<◌, ◌≤◌}
use lib.ListN.{get_or, set}
use borrow.Author.Tests.{le-leb, lt-leb}
use Rattle.field.specs.Field.{merge_into}
use Rattle.map.specs.Map.{writable, listed}
use Rattle.machine.specs.declared.Sequencer.{Sequencer}
use Rattle.machine.specs.declared.Event.TheVariants.{Quiet, Address, Data}
use Rattle.machine.specs.declared.Effect.{Effect}
use Rattle.machine.specs.Shape.{Source, Target, slot, latch, act}
use Rattle.machine.specs.Step.{Outcome, value_of, may_read, result_of, with_overflow, act_state, came_to_stop, word_step}
use Rattle.machine.specs.Parts.{whole, outcome, act_effect, delivered}

module _ (map : List ℕ) (op x : ℕ) (q : Sequencer) (v l s w : List ℕ) (y : ℕ) (e : Effect) where
  pub to_register : (k : ℕ) → k < 9 → y ≡ result_of op (get_or v 0 0) x → w ≡ with_overflow op (get_or v 0 0) x v → e ≡ act_effect q Quiet
      → outcome e (set w k y) l s ≡ delivered map op x (slot k) (whole q v l s)
  unfolding act_state
  to_register k h hy hw he = rw (he, hw, hy, lt-leb 9 k h)

  pub to_address : (k b : ℕ) → 9 ≤ k → y ≡ result_of op (get_or v 0 0) x → listed map (k - 9) y ≡ true → w ≡ with_overflow op (get_or v 0 0) x v
      → 1 + b ≡ k - 8 → e ≡ act_effect q (Address b (get_or (set w k y) k 0))
      → outcome e (set w k y) l s ≡ delivered map op x (slot k) (whole q v l s)
  unfolding act_state
  to_address k b h hy hm hw hk he = rw (he, hk, hw, le-leb 9 k h, ← hy, hm)

  pub to_bank : (b p n m : ℕ) → writable map b (get_or v (9 + b) 0) ≡ true → y ≡ result_of op (get_or v 0 0) x → w ≡ with_overflow op (get_or v 0 0) x v
      → m ≡ merge_into p n y (get_or l b 0) → e ≡ act_effect q (Data b (get_or w (9 + b) 0) (get_or (set l b m) b 0))
      → outcome e w (set l b m) s ≡ delivered map op x (latch b p n) (whole q v l s)
  unfolding act_state
  to_bank b p n m hm hy hw hl he = rw (he, hl, hw, hm, hy)

module _ (map : List ℕ) (op x : ℕ) (q : Sequencer) (v l s : List ℕ) where
  pub unlisted : (k y : ℕ) → 9 ≤ k → y ≡ result_of op (get_or v 0 0) x → listed map (k - 9) y ≡ false
      → came_to_stop (whole q v l s) 25 ≡ delivered map op x (slot k) (whole q v l s)
  unlisted k y h hy hm = rw (le-leb 9 k h, ← hy, hm)

  pub unwritable : (b p n : ℕ) → writable map b (get_or v (9 + b) 0) ≡ false
      → came_to_stop (whole q v l s) 24 ≡ delivered map op x (latch b p n) (whole q v l s)
  unwritable b p n hm = rw hm

module _ (map bus : List ℕ) (op : ℕ) (source : Source) (target : Target) (q : Sequencer) (v l s : List ℕ) where
  -- a source that may be read, delivered
  pub read_then : (x : ℕ) (o : Outcome) → may_read map source v ≡ true → x ≡ value_of source v bus → o ≡ delivered map op x target (whole q v l s)
      → o ≡ word_step map (act source op target) bus (whole q v l s)
  read_then x o hr hx ho = rw hr (rw hx at ho)

  pub unreadable : may_read map source v ≡ false → came_to_stop (whole q v l s) 23 ≡ word_step map (act source op target) bus (whole q v l s)
  unreadable hr = rw hr
