-- The starred values of "Values to hold against" in document 01, as one list over the definitions; 0x2993 "now writes 0
-- with OVF 0" (2026-04 of document 02).
-- State not named is as after reset, and every map bit is one. Each word is the last of an image whose other words are
-- 0xE3FF, so that byte order, fetch and question 1 are in it.
use mathlib.Core.Path.{◌≡◌, refl}
use mathlib.Core.List.{List, [], ◌∷◌, ◌++◌}
use Prim.Native.Nat.{ℕ, zero, suc, ◌/◌, ◌%◌}
use lib.ListN.{get_or, set, replicate}
use Rattle.field.specs.Field.{rotate_right, low_bits, field_of, merge_into}
use Rattle.word.specs.Word.{decoded}
use Rattle.map.specs.Map.{in_set}
use Rattle.state.specs.declared.State.{State}
use Rattle.machine.specs.Shape.{shape_of, slot_of}
use Rattle.machine.specs.Step.{Step, result_of, with_overflow, act_state, go_state, stepped}
use Rattle.machine.specs.Overflow.{stepped_whole}

-- a state after reset but for PC, values and latches
at : ℕ → List ℕ → List ℕ → State
at pc values latches =
    record {
      pc = pc;
      flag = 0;
      pending = 0;
      values = values;
      latches = latches;
      depth = 0;
      returns = replicate 8 0;
      stop = 0;
    }

-- eleven zeros but for some slots
zeros : List ℕ
zeros = replicate 11 0

none : List ℕ
none = 0 ∷ 0 ∷ []

open_map : List ℕ
open_map = replicate 128 255

-- n times the bytes of a jump
jumps : ℕ → List ℕ
jumps zero = []
jumps (suc n) = 0xE3 ∷ 0xFF ∷ jumps n

-- an image with the word at PC, and a step with it
image_of : ℕ → State → List ℕ
image_of w s = jumps s.pc ++ w / 256 ∷ w % 256 ∷ []

step_of : ℕ → List ℕ → State → Step
step_of w bus s = stepped (image_of w s) open_map bus s

-- AUX and OVF afterwards
aux : Step → ℕ
aux o = get_or o.state.values 0 0

overflow : Step → ℕ
overflow o = get_or o.state.values 8 0

-- "writes": the left latch, and the trace's kind and data byte
writes : Step → List ℕ
writes o = get_or o.state.latches 0 0 ∷ get_or o.event 0 0 ∷ get_or o.event 2 0 ∷ []

-- PC, pending flag and pending address; depth and the oldest return address
directs : Step → List ℕ
directs o = o.state.pc ∷ o.state.flag ∷ o.state.pending ∷ o.state.depth ∷ get_or o.state.returns 0 0 ∷ []

-- AUX 1 and R11 255
sum_of_256 : State
sum_of_256 = at 0 (set (set zeros 0 1) 7 255) none

pub starred : List (List ℕ)
starred =
    (aux (step_of 0x0140 none (at 0 (set zeros 1 0x96) none)) ∷ []) ∷
    writes (step_of 0x0975 none (at 0 (set zeros 7 0xD8) (0xEF ∷ 0 ∷ []))) ∷
    (let o = step_of 0x2000 none (at 0 (set zeros 0 200) none) in aux o ∷ overflow o ∷ []) ∷
    (let o = step_of 0x2993 none sum_of_256 in overflow o ∷ writes o) ∷
    directs (step_of 0x9476 (0x38 ∷ 0 ∷ []) (at 64 zeros none)) ∷
    directs (step_of 0xA734 none (at 3 (set zeros 0 0x12) none)) ∷
    writes (step_of 0xD586 none (at 0 zeros (0xFF ∷ 0 ∷ []))) ∷
    writes (step_of 0xD71F none (at 0 zeros (0xFF ∷ 0 ∷ []))) ∷
    writes (step_of 0xD1BF none (at 0 zeros (0x3F ∷ 0 ∷ []))) ∷
    directs (step_of 0xA632 none (at 1108 (set zeros 6 1) none)) ∷
    ((step_of 0x0008 none (at 0 zeros none)).state.stop ∷ []) ∷ []

pub starred_values : starred ≡
    (0xA5 ∷ []) ∷ (0xE3 ∷ 3 ∷ 0xE3 ∷ []) ∷ (144 ∷ 1 ∷ []) ∷ (0 ∷ 0 ∷ 3 ∷ 0 ∷ []) ∷ (64 ∷ 1 ∷ 93 ∷ 0 ∷ 0 ∷ []) ∷ (4660 ∷ 0 ∷ 0 ∷ 1 ∷ 4 ∷ []) ∷
    (0xDB ∷ 3 ∷ 0xDB ∷ []) ∷ (0x1F ∷ 3 ∷ 0x1F ∷ []) ∷ (0xFF ∷ 3 ∷ 0xFF ∷ []) ∷ (1074 ∷ 0 ∷ 0 ∷ 0 ∷ 0 ∷ []) ∷ (22 ∷ []) ∷ []
unfolding starred step_of image_of sum_of_256 jumps at zeros none open_map aux overflow writes directs stepped rotate_right low_bits field_of merge_into decoded in_set shape_of slot_of result_of with_overflow act_state go_state
starred_values = refl

-- Document 01 had OVF 1 there: the mask does change OVF.
overflow_before : overflow (stepped_whole (image_of 0x2993 sum_of_256) open_map none sum_of_256) ≡ 1
unfolding image_of sum_of_256 jumps at zeros none open_map overflow rotate_right low_bits merge_into decoded in_set shape_of slot_of result_of with_overflow act_state
overflow_before = refl
