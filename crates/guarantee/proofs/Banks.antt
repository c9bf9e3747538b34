-- The law of a bank that is not seen has programs to speak of, and its condition is needed: a program that reads both banks
-- sees both.
use mathlib.Core.Path.{◌≡◌, refl, ap}
use mathlib.Core.Logic.{◌≢◌}
use mathlib.Core.Bool.{true, false}
use mathlib.Core.List.{List, [], ◌∷◌, ◌++◌}
use Prim.Native.Nat.{ℕ, zero, suc, ◌*◌, ◌%◌, ◌<◌}
use native.Mathlib.Omega.{arith}
use lib.Dec.{ltb, eqb}
use lib.ListN.{length, get_or, replicate}
use Rattle.field.specs.Field.{rotate_right, low_bits, field_of, merge_into}
use Rattle.word.specs.Word.{decoded}
use Rattle.map.specs.Map.{in_set, count_below, NothingReadable}
use Rattle.machine.specs.Shape.{shape_of, slot_of}
use Rattle.machine.specs.Step.{word_count, result_of, with_overflow, act_state, go_state, stepped}
use Rattle.state.specs.State.{state_length, EachBelow, reset_bytes, reset_state, loaded, stored, well_formed}
use Rattle.emulator.specs.Run.{pair_length, image_fits, state_fits, ran_over, run_result}
use Rattle.flow.specs.Flow.{join_all, changes_all, sweep_from, sweep_changes_from, sweep_changes, sweeps}
use Rattle.facts.specs.Facts.{all_know_no_more, join_facts, result_fact, with_carry_fact}
use Rattle.facts.specs.Record.{depths, reset_cell, holds_cell, join_cell, record_of, mask_of, read_cell, cell_at, put_record, put_cell}
use Rattle.transfer.specs.Passes.{over, over_down, gives, words_at, some, word_passes, all_passes, table_space, table_length, start_table}
use Rattle.transfer.specs.Findings.{all_below, finding_at}
use Rattle.admission.specs.Admission.{Admitted}
use Rattle.admission.specs.Admission.{admit_result}
use Rattle.guarantee.specs.Demand.{Job}
use Rattle.guarantee.specs.Unseen.{SameBut, Twins, job_result, Unseen, Ungranted, Seen}
use Rattle.guarantee.proofs.Computed.{every, all_bytes, all_clean, computed_admitted}
use Rattle.guarantee.proofs.Unseen.{lists_unseen}
use Rattle.guarantee.proofs.Witness.{image as calling, map as leftMap, witness_bytes, witness_admitted}

-- ---- a program that is admitted with an empty right set

nothing_right : NothingReadable leftMap 1
unfolding count_below in_set
nothing_right = refl

witness_ungranted : (lent : List ℕ) → length lent ≡ table_length calling → Ungranted 1 calling leftMap lent
witness_ungranted lent room = record { bytes = witness_bytes; admitted = witness_admitted lent room; nothing = nothing_right }

-- whatever the right bank has, its runs are the same
pub witness_unseen : (lent given its : List ℕ) → length lent ≡ table_length calling → length given ≡ state_length → length its ≡ state_length
    → (list : List (Twins 1)) → Unseen calling leftMap (reset_state given) (reset_state its) list
witness_unseen lent given its room = lists_unseen calling leftMap lent 1 (witness_ungranted lent room) given its

-- ---- a program that reads both banks

-- 0: MOVE the right byte to the left bank. 1: MOVE the left byte to the right bank. 2: JMP 0
abbrev image : List ℕ
image = 0x1F ∷ 0x17 ∷ 0x17 ∷ 0x1F ∷ 0xE0 ∷ 0x00 ∷ []

-- address 0 is in all four sets
abbrev map : List ℕ
map = 1 ∷ replicate 31 0 ++ 1 ∷ replicate 31 0 ++ 1 ∷ replicate 31 0 ++ 1 ∷ replicate 31 0

-- its words are reached at depth 0, with the facts of reset
table : List ℕ
table = put_cell (put_cell (start_table image) 1 reset_cell) 2 reset_cell

settled : sweep_changes (table_space image) (sweeps (table_space image) 1 (start_table image)) ≡ false
unfolding join_all changes_all sweep_from sweep_changes_from sweeps join_facts join_cell all_know_no_more holds_cell record_of mask_of read_cell cell_at put_record over over_down gives words_at some word_passes all_passes decoded shape_of slot_of rotate_right low_bits result_of result_fact with_carry_fact in_set
settled = refl

swept : sweeps (table_space image) 1 (start_table image) ≡ table
unfolding table join_all sweep_from sweeps join_facts join_cell record_of mask_of read_cell cell_at put_record over over_down gives words_at some word_passes all_passes decoded shape_of slot_of rotate_right low_bits result_of result_fact with_carry_fact in_set
swept = refl

none_found : every (depths * word_count image) (λ i. eqb (finding_at image map table i) 0) ≡ true
unfolding every table all_know_no_more holds_cell record_of mask_of read_cell cell_at put_record over over_down gives words_at some word_passes all_passes all_below finding_at decoded shape_of slot_of rotate_right low_bits result_of result_fact with_carry_fact in_set
none_found = refl

image_bytes : every 6 (λ k. ltb (get_or image k 0) 256) ≡ true
unfolding every
image_bytes = refl

image_fits_lem : image_fits image ≡ true
unfolding image_fits
image_fits_lem = refl

lent : List ℕ
lent = replicate 432 0

copier_admitted : (admit_result image map lent).answer ≡ Admitted
unfolding lent
copier_admitted =
    computed_admitted image table 1 (all_bytes image image_bytes) image_fits_lem (omega arith) settled swept map refl (all_clean image map table none_found) lent refl

-- two pairs, of which the right byte of the first is taken, and the left byte of the second
abbrev recorded : ℕ → ℕ → List ℕ
recorded right left = 0 ∷ right ∷ left ∷ 0 ∷ []

recorded_bytes : (right left : ℕ) → right < 256 → left < 256 → EachBelow 256 (recorded right left)
recorded_bytes right left r l zero = omega arith
recorded_bytes right left r l (suc zero) = r
recorded_bytes right left r l (suc (suc zero)) = l
recorded_bytes right left r l (suc (suc (suc zero))) = omega arith
recorded_bytes right left r l (suc (suc (suc (suc k)))) = omega arith

abbrev job : (right left : ℕ) → right < 256 → left < 256 → Job
job right left r l = record { recording = recorded right left; trace = replicate 16 0; bytes = recorded_bytes right left r l }

abbrev quiet : Job
quiet = job 0 0 (omega arith) (omega arith)

-- a byte of bank b in the place of a 0, which the trace and the state tell
copies : (b : ℕ) (right left : ℕ) (r : right < 256) (l : left < 256) → SameBut b (recorded 0 0) (recorded right left)
    → (job_result image map reset_bytes quiet).trace ≢ (job_result image map reset_bytes (job right left r l)).trace
    → (job_result image map reset_bytes quiet).state ≢ (job_result image map reset_bytes (job right left r l)).state → Seen b
unfolding image_fits state_fits loaded well_formed
copies b right left r l same traces states =
    record {
      image = image;
      map = map;
      lent = lent;
      twins = record { one = quiet; other = job right left r l; recordings = same; traces = refl };
      bytes = all_bytes image image_bytes;
      admitted = copier_admitted;
      let_in = refl;
      its_let_in = refl;
      traces = traces;
      states = states;
    }

right_same : SameBut 1 (recorded 0 0) (recorded 1 0)
right_same = record { long = refl; equal = equal }
  where
    equal : (k : ℕ) → k % pair_length ≢ 1 → get_or (recorded 0 0) k 0 ≡ get_or (recorded 1 0) k 0
    equal zero n = refl
    equal (suc zero) n = absurd (n refl)
    equal (suc (suc k)) n = refl

left_same : SameBut 0 (recorded 0 0) (recorded 0 1)
left_same = record { long = refl; equal = equal }
  where
    equal : (k : ℕ) → k % pair_length ≢ 0 → get_or (recorded 0 0) k 0 ≡ get_or (recorded 0 1) k 0
    equal zero n = refl
    equal (suc zero) n = refl
    equal (suc (suc zero)) n = absurd (n refl)
    equal (suc (suc (suc k))) n = refl

-- a byte that is 0 in one list and 1 in another
differ : (k : ℕ) {one other : List ℕ} → get_or one k 0 ≡ 0 → get_or other k 0 ≡ 1 → one ≢ other
differ k zero-there one-there e = let same = ap (λ (t : List ℕ). get_or t k 0) e in omega arith

-- the data that the first word writes, and the left latch
pub right_seen : Seen 1
unfolding run_result ran_over image_fits state_fits loaded stored well_formed stepped decoded shape_of slot_of result_of with_overflow act_state go_state rotate_right low_bits field_of merge_into in_set
right_seen = copies 1 1 0 (omega arith) (omega arith) right_same (differ 2 refl refl) (differ 16 refl refl)

-- the data that the second word writes, and the right latch
pub left_seen : Seen 0
unfolding run_result ran_over image_fits state_fits loaded stored well_formed stepped decoded shape_of slot_of result_of with_overflow act_state go_state rotate_right low_bits field_of merge_into in_set
left_seen = copies 0 0 1 (omega arith) (omega arith) left_same (differ 10 refl refl) (differ 17 refl refl)
