-- A step is that of document 01 but for OVF. Assumes nothing.
use mathlib.Core.Bool.{Bool, true, false}
use mathlib.Core.List.{List, [], ◌∷◌}
use mathlib.Core.Path.{◌≡◌, refl, sym, ap, ◌∙◌}
use Prim.Native.Nat.{ℕ, zero, suc}
use native.Mathlib.Nat.{add-mod-mod}
use native.Mathlib.Omega.{arith}
use lib.Dec.{leb}
use lib.ListN.{get_or, set}
use lib.Seq.{get_or-set_other}
use Rattle.choice.specs.Choice.{pick}
use Rattle.choice.proofs.Laws.{pick_both, asked_beside}
use Rattle.field.specs.Field.{low_bits, rotate_right, merge_into, sum_of, carry_of}
use Rattle.field.proofs.Laws.{merge_sum}
use Rattle.word.specs.declared.Word.{Word}
use Rattle.word.specs.declared.Word.TheVariants.{Move, Add, And, Xor, XecRegister, XecBank, NztRegister, NztBank, Call, Ret, XmitRegister, XmitBank, Jmp, Invalid}
use Rattle.word.specs.Word.{decoded}
use Rattle.state.specs.declared.State.{State}
use Rattle.state.specs.State.{overflow_slot, address_slot}
use Rattle.machine.specs.Shape.{Source, bank, register, Target, slot, latch, Control, branch, defer, Shape, act, go, bank_of, position_of, source_of, slot_of, target_of, places_of, act_shape, shape_of}
use Rattle.machine.specs.Step.{Outcome, word_at, fetch_address, shape_questions, went_on, came_to_stop, step_from, shape_stepped, stepped, result_of, with_overflow, act_state}
use Rattle.machine.specs.Overflow.{whole_source, whole_shape, step_but_overflow, SameMerged, OnlyOverflow}

pub same_merged : SameMerged
same_merged = merge_sum

-- of two values stored at one place the second stays
set_twice : (xs : List ℕ) (i a b : ℕ) → set (set xs i a) i b ≡ set xs i b
set_twice [] i a b = refl
set_twice (x ∷ xs) zero a b = refl
set_twice (x ∷ xs) (suc i) a b = ap (λ (ys : List ℕ). x ∷ ys) (set_twice xs i a b)

module _ (s : State) where
  -- outcomes that differ at most in OVF
  abbrev Alike : Outcome → Outcome → Type 0
  Alike o p = step_but_overflow (step_from s o) ≡ step_but_overflow (step_from s p)

  -- ADD to a bank of two sources whose sums merge alike
  added : (source other : Source) (x y b p l : ℕ) → ((aux byte : ℕ) → merge_into p l (sum_of aux x) byte ≡ merge_into p l (sum_of aux y) byte)
      → Alike (went_on (act source 1 (latch b p l)) (act_state 1 x (latch b p l) s)) (went_on (act other 1 (latch b p l)) (act_state 1 y (latch b p l) s))
  unfolding act_state result_of with_overflow
  added source other x y b p l same =
      let v = s.values in
      let aux = get_or v 0 0 in
      rw (
        set_twice v overflow_slot (carry_of aux x) 0,
        set_twice v overflow_slot (carry_of aux y) 0,
        get_or-set_other v overflow_slot (address_slot b) (carry_of aux x) 0 (λ e. omega arith),
        get_or-set_other v overflow_slot (address_slot b) (carry_of aux y) 0 (λ e. omega arith),
        same aux (get_or s.latches b 0),
      )

-- a sum of a byte's eight bits
sum_whole : (aux x : ℕ) → sum_of aux (low_bits 0 x) ≡ sum_of aux x
unfolding low_bits
sum_whole aux x = add-mod-mod aux x 256

-- a source of which all eight bits are kept is whole
kept_whole : (s places l : ℕ) → source_of s places 0 l ≡ whole_source (source_of s places 0 l)
kept_whole s places l = pick_both (λ (source : Source). source ≡ whole_source source) (leb 16 s) refl refl

module _ (image map bus : List ℕ) (s : State) where
  abbrev Agree : Shape → Shape → Type 0
  Agree a b = step_but_overflow (shape_stepped a image map bus s) ≡ step_but_overflow (shape_stepped b image map bus s)

  -- ADD of a register to a bank, with and without the mask
  masked : (k b p l : ℕ) → Agree (act (register k 0 l) 1 (latch b p l)) (act (register k 0 0) 1 (latch b p l))
  masked k b p l =
      asked_beside (Alike s) (shape_questions (act (register k 0 l) 1 (latch b p l)) image map bus s) {refuse = came_to_stop s} {deny = came_to_stop s}
      (added s (register k 0 l) (register k 0 0) _ _ b p l alike) (λ n. refl)
    where
      alike : (aux byte : ℕ) → merge_into p l (sum_of aux (low_bits l (rotate_right 0 (get_or s.values k 0)))) byte ≡ merge_into p l (sum_of aux (low_bits 0 (rotate_right 0 (get_or s.values k 0)))) byte
      alike aux byte =
          let x = rotate_right 0 (get_or s.values k 0) in
          merge_sum p l aux x byte ∙ sym (ap (λ (n : ℕ). merge_into p l n byte) (sum_whole aux x))

  add_agrees : (r rl d : ℕ) → Agree (act_shape 1 r rl d) (whole_shape (act_shape 1 r rl d))
  add_agrees r rl d = go (leb 16 r) (leb 16 d)
    where
      shape : Bool → Bool → Shape
      shape b c = act (pick b (bank (bank_of r) (position_of r) rl) (register (slot_of r) (pick c 0 rl) (pick c rl 0))) 1 (pick c (latch (bank_of d) (position_of d) rl) (slot (slot_of d)))

      go : (b c : Bool) → Agree (shape b c) (whole_shape (shape b c))
      go true c = refl
      go false true = masked (slot_of r) (bank_of d) (position_of d) rl
      go false false = refl

  act_agrees : (op r places l : ℕ) (target : Target) → Agree (act (source_of r places 0 l) op target) (whole_shape (act (source_of r places 0 l) op target))
  act_agrees op r places l target = ap (λ (source : Source). step_but_overflow (shape_stepped (act source op target) image map bus s)) (kept_whole r places l)

  go_agrees : (r l : ℕ) (control : Control) → Agree (go (source_of r 0 0 l) control) (whole_shape (go (source_of r 0 0 l) control))
  go_agrees r l control = ap (λ (source : Source). step_but_overflow (shape_stepped (go source control) image map bus s)) (kept_whole r 0 l)

  word_agrees : (w : Word) → Agree (shape_of w) (whole_shape (shape_of w))
  unfolding shape_of
  word_agrees (Move r rl d) = act_agrees 0 r (places_of rl d) rl (target_of d rl)
  word_agrees (Add r rl d) = add_agrees r rl d
  word_agrees (And r rl d) = act_agrees 2 r (places_of rl d) rl (target_of d rl)
  word_agrees (Xor r rl d) = act_agrees 3 r (places_of rl d) rl (target_of d rl)
  word_agrees (XecRegister r i) = go_agrees r 0 (defer 256 i)
  word_agrees (XecBank r l i) = go_agrees r l (defer 32 i)
  word_agrees (NztRegister r i) = go_agrees r 0 (branch 256 i)
  word_agrees (NztBank r l i) = go_agrees r l (branch 32 i)
  word_agrees (Call i) = refl
  word_agrees (Ret i) = refl
  word_agrees (XmitRegister d i) = refl
  word_agrees (XmitBank d l i) = refl
  word_agrees (Jmp a) = refl
  word_agrees Invalid = refl

pub only_overflow : OnlyOverflow
unfolding stepped
only_overflow image map bus s = word_agrees image map bus s (decoded (word_at image (fetch_address s)))
