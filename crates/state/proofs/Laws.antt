-- Laws of the state and its bytes. Assumes nothing.
use mathlib.Core.Path.{◌≡◌, refl, ◌∙◌}
use mathlib.Core.Bool.{Bool, ◌&&◌}
use mathlib.Core.List.{List, ◌∷◌, ◌++◌, append-nil}
use Prim.Native.Nat.{ℕ, ◌%◌}
use native.Mathlib.Nat.{le_of_eq}
use native.Mathlib.Omega.{arith}
use mir.Syntax.{w8}
use mir.Val.{Fits}
use lib.Dec.{leb, ltb}
use lib.ListN.{length, get_or, take, drop, drop_of_length-le}
use lib.Seq.{take-length}
use Rattle.state.specs.declared.State.{State}
use Rattle.state.specs.State.{state_length, stack_places, overflow_slot, stored, flag_fits, stack_fits, is_stop, well_formed}

-- lists are equal by their heads and tails
pub cons_eq : {x y : ℕ} {xs ys : List ℕ} → x ≡ y → xs ≡ ys → x ∷ xs ≡ y ∷ ys
cons_eq p q = cc

-- states are equal by their fields
pub by_fields : {s t : State} → s.pc ≡ t.pc → s.flag ≡ t.flag → s.pending ≡ t.pending → s.values ≡ t.values
    → s.latches ≡ t.latches → s.depth ≡ t.depth → s.returns ≡ t.returns → s.stop ≡ t.stop → s ≡ t
by_fields a b c d e f g h =
    λ i. record { pc = a i; flag = b i; pending = c i; values = d i; latches = e i; depth = f i; returns = g i; stop = h i }

-- a copy of a list over one of its length is the list
pub copied : (src dst last : List ℕ) → length dst ≡ length src → last ≡ take (length src) src ++ drop (length src) dst → last ≡ src
copied src dst last same e =
    e ∙ rw (take-length, drop_of_length-le dst {i = length src} (le_of_eq same)) (append-nil src)

pub stored_length : (s : State) → length (stored s) ≡ state_length
unfolding stored
stored_length s = refl
