-- The image of "The bench program" in document 01, run from reset over six pairs: with its map, without address 5
-- writable, and from the stopped state that this leaves. Then a trace through an XEC.
use mathlib.Core.List.{List, [], ◌∷◌, ◌++◌}
use mathlib.Core.Path.{◌≡◌, refl}
use Prim.Native.Nat.{ℕ}
use lib.ListN.{replicate}
use Rattle.field.specs.Field.{rotate_right, low_bits, field_of, merge_into}
use Rattle.word.specs.Word.{decoded}
use Rattle.map.specs.Map.{in_set}
use Rattle.state.specs.State.{reset_bytes, loaded, stored, well_formed}
use Rattle.machine.specs.Shape.{slot_of, shape_of}
use Rattle.machine.specs.Step.{result_of, with_overflow, act_state, go_state, stepped}
use Rattle.emulator.specs.Run.{Ended}
use Rattle.emulator.specs.Run.{ran_over, image_fits, state_fits, RunResult, run_result, yielded}

image : List ℕ
image = 0xC7 ∷ 0x05 ∷ 0xB7 ∷ 0x23 ∷ 0xE0 ∷ 0x01 ∷ 0xD7 ∷ 0x21 ∷ 0xE0 ∷ 0x01 ∷ []

-- address 5, with weight 32, left readable, and left writable where the second byte has it
map : ℕ → List ℕ
map writable = 32 ∷ replicate 31 0 ++ writable ∷ replicate 95 0

-- the left bit is one at the fourth step
recording : List ℕ
recording = 0 ∷ 0 ∷ 0 ∷ 0 ∷ 0 ∷ 0 ∷ 1 ∷ 0 ∷ 0 ∷ 0 ∷ 0 ∷ 0 ∷ []

-- the state afterwards: PC, left address 5, left latch, stop
afterwards : ℕ → ℕ → ℕ → List ℕ
afterwards pc latch stop = pc ∷ replicate 13 0 ++ 5 ∷ 0 ∷ latch ∷ replicate 18 0 ++ stop ∷ []

run_of : List ℕ → List ℕ → RunResult
run_of map state = run_result image map state recording (replicate 48 9)

-- a record: what the word does, PC and the fetch address
told : List ℕ → ℕ → ℕ → List ℕ
told event pc fetch = event ++ (pc ∷ 0 ∷ fetch ∷ 0 ∷ [])

nothing : List ℕ
nothing = replicate 4 0

-- address 5 chosen; NZT falls through; JMP; NZT branches
four : List ℕ
four = told (1 ∷ 5 ∷ 0 ∷ 0 ∷ []) 0 0 ++ told nothing 1 1 ++ told nothing 2 2 ++ told nothing 1 1

-- to the end; stopped at the write, the last record untouched; stopped before the first step
example_runs : run_of (map 32) reset_bytes ∷ run_of (map 0) reset_bytes ∷ run_of (map 0) (afterwards 3 0 24) ∷ []
    ≡ yielded (Ended 6 0) (afterwards 1 1 0) (four ++ told (3 ∷ 5 ∷ 1 ∷ 0 ∷ []) 3 3 ++ told nothing 4 4)
    ∷ yielded (Ended 5 24) (afterwards 3 0 24) (four ++ told (5 ∷ 0 ∷ 0 ∷ 24 ∷ []) 3 3 ++ replicate 8 9)
    ∷ yielded (Ended 0 24) (afterwards 3 0 24) (replicate 48 9) ∷ []
unfolding image map recording afterwards run_of told nothing four run_result ran_over image_fits state_fits loaded stored well_formed stepped decoded shape_of slot_of result_of with_overflow act_state go_state rotate_right low_bits field_of merge_into in_set
example_runs = refl

-- ---- a trace through an XEC

-- samples/chooser.bin: left address 5 and right address 9 chosen; XEC of a left bit, from 4 on; JMP to it; the two words
-- that it executes. Left 5 is readable, right 9 writable.
chooser : List ℕ
chooser = 0xC7 ∷ 0x05 ∷ 0xCF ∷ 0x09 ∷ 0x97 ∷ 0x24 ∷ 0xE0 ∷ 0x02 ∷ 0xDF ∷ 0x20 ∷ 0xDF ∷ 0x21 ∷ []

chooser_map : List ℕ
chooser_map = 32 ∷ replicate 96 0 ++ 2 ∷ replicate 30 0

-- a bit of one at the XEC, PC 2: the word at 5 is executed there
example_trace : (run_result chooser chooser_map reset_bytes (replicate 4 0 ++ 1 ∷ 0 ∷ replicate 4 0) (replicate 40 9)).trace
    ≡ told (1 ∷ 5 ∷ 0 ∷ 0 ∷ []) 0 0 ++ told (2 ∷ 9 ∷ 0 ∷ 0 ∷ []) 1 1 ++ told nothing 2 2 ++ told (4 ∷ 9 ∷ 1 ∷ 0 ∷ []) 2 5 ++ told nothing 3 3
unfolding chooser chooser_map told nothing run_result ran_over image_fits state_fits loaded stored well_formed stepped decoded shape_of slot_of result_of with_overflow act_state go_state rotate_right low_bits field_of merge_into in_set
example_trace = refl
