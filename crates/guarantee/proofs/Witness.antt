-- The assumptions of the theorems can be met: a program that chooses an address and then for ever calls a routine, which
-- reads and writes there and executes its RET by an XEC; what it read is not known.
use mathlib.Core.Path.{◌≡◌, refl}
use mathlib.Core.Bool.{true, false}
use mathlib.Core.List.{List, [], ◌∷◌, ◌++◌}
use Prim.Native.Nat.{ℕ, ◌*◌}
use native.Mathlib.Omega.{arith}
use lib.Dec.{ltb, eqb}
use lib.ListN.{length, get_or, set, replicate}
use Rattle.field.specs.Field.{rotate_right, low_bits}
use Rattle.word.specs.Word.{decoded}
use Rattle.map.specs.Map.{in_set}
use Rattle.machine.specs.Shape.{shape_of, slot_of}
use Rattle.machine.specs.Step.{word_count, result_of}
use Rattle.state.specs.State.{EachBelow, reset_bytes}
use Rattle.emulator.specs.Run.{image_fits}
use Rattle.flow.specs.Flow.{join_all, changes_all, sweep_from, sweep_changes_from, sweep_changes, sweeps, Closed, all_covered}
use Rattle.facts.specs.declared.Cell.{Cell}
use Rattle.facts.specs.Facts.{unknown, reset_facts, all_know_no_more, join_facts, result_fact, with_carry_fact}
use Rattle.facts.specs.Record.{depths, cell_of, reset_cell, holds_cell, join_cell, record_of, mask_of, read_cell, cell_at, put_record, put_cell}
use Rattle.transfer.specs.Passes.{over, over_down, gives, words_at, some, word_passes, all_passes, passes_from, table_space, table_length, start_table, least_table}
use Rattle.transfer.specs.Findings.{all_below, finding_at, NoFinding}
use Rattle.admission.specs.Admission.{Admitted}
use Rattle.admission.specs.Admission.{admit_result}
use Rattle.guarantee.specs.Demand.{Job, Flawless}
use Rattle.guarantee.proofs.Admitted.{admitted_demand}
use Rattle.guarantee.proofs.Computed.{every, every_at, all_bytes, all_clean, computed_least, computed_admitted}

-- 0: XMIT 5 to the left address. 1: CALL 3. 2: JMP 1. 3: MOVE the left byte to R1. 4: MOVE R1 to the left byte. 5: XEC R2
-- with I 6. 6: RET
abbrev pub image : List ℕ
image = 0xC7 ∷ 0x05 ∷ 0xA7 ∷ 0x03 ∷ 0xE0 ∷ 0x01 ∷ 0x17 ∷ 0x01 ∷ 0x01 ∷ 0x17 ∷ 0x82 ∷ 0x06 ∷ 0xAF ∷ 0x00 ∷ []

-- left address 5, with weight 32, is readable and writable
abbrev pub map : List ℕ
map = 32 ∷ replicate 31 0 ++ 32 ∷ replicate 95 0

-- after the first word: left address 5, and R1, which holds data or 0, is not known
unfoldable pub looping : Cell
looping = cell_of true (set (set reset_facts 1 unknown) 9 5)

-- cells (0, 0) to (0, 2) and (1, 3) to (1, 5) are reached
unfoldable pub table : List ℕ
table = put_cell (put_cell (put_cell (put_cell (put_cell (start_table image) 1 looping) 2 looping) 10 looping) 11 looping) 12 looping

all_passed : every (depths * word_count image) (λ i. all_covered (table_space image) table (passes_from image table i)) ≡ true
unfolding every table looping all_know_no_more holds_cell record_of mask_of read_cell cell_at put_record over over_down gives words_at some word_passes all_passes all_covered decoded shape_of slot_of rotate_right low_bits result_of result_fact with_carry_fact in_set
all_passed = refl

none_found : every (depths * word_count image) (λ i. eqb (finding_at image map table i) 0) ≡ true
unfolding every table looping all_know_no_more holds_cell record_of mask_of read_cell cell_at put_record over over_down gives words_at some word_passes all_passes all_below finding_at decoded shape_of slot_of rotate_right low_bits result_of result_fact with_carry_fact in_set
none_found = refl

pub witness_closed : Closed (table_space image) reset_cell table
unfolding table looping all_know_no_more holds_cell record_of mask_of read_cell cell_at put_record
witness_closed = record { starts = refl; passed = every_at (depths * word_count image) _ all_passed }

pub witness_clean : NoFinding image map table
witness_clean = all_clean image map table none_found

-- its bytes are bytes
image_bytes : every 14 (λ k. ltb (get_or image k 0) 256) ≡ true
unfolding every
image_bytes = refl

pub witness_bytes : EachBelow 256 image
witness_bytes = all_bytes image image_bytes

-- ---- and admission admits it: three sweeps fill the table, and the next changes nothing

settled : sweep_changes (table_space image) (sweeps (table_space image) 3 (start_table image)) ≡ false
unfolding join_all changes_all sweep_from sweep_changes_from sweeps join_facts join_cell all_know_no_more holds_cell record_of mask_of read_cell cell_at put_record over over_down gives words_at some word_passes all_passes decoded shape_of slot_of rotate_right low_bits result_of result_fact with_carry_fact in_set
settled = refl

swept : sweeps (table_space image) 3 (start_table image) ≡ table
unfolding table looping join_all sweep_from sweeps join_facts join_cell record_of mask_of read_cell cell_at put_record over over_down gives words_at some word_passes all_passes decoded shape_of slot_of rotate_right low_bits result_of result_fact with_carry_fact in_set
swept = refl

pub witness_fits : image_fits image ≡ true
unfolding image_fits
witness_fits = refl

pub witness_least : least_table image ≡ table
witness_least = computed_least image table 3 witness_bytes witness_fits (omega arith) settled swept

pub witness_admitted : (lent : List ℕ) → length lent ≡ table_length image → (admit_result image map lent).answer ≡ Admitted
witness_admitted = computed_admitted image table 3 witness_bytes witness_fits (omega arith) settled swept map refl witness_clean

-- so every list of its runs from reset is flawless
pub witness_runs : (lent : List ℕ) → length lent ≡ table_length image → (jobs : List Job) → Flawless image map (admit_result image map lent).table reset_bytes jobs
witness_runs lent long = admitted_demand image map lent witness_bytes (witness_admitted lent long)
