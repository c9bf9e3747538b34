-- The definitions at small programs: does one more sweep change the table, and the lowest cell with a finding.
use mathlib.Core.Path.{◌≡◌, refl}
use mathlib.Core.List.{List, [], ◌∷◌}
use Prim.Native.Nat.{ℕ, ◌*◌}
use lib.ListN.{replicate, set}
use Rattle.choice.specs.Choice.{pick}
use Rattle.field.specs.Field.{rotate_right, low_bits}
use Rattle.word.specs.Word.{decoded}
use Rattle.map.specs.Map.{in_set}
use Rattle.machine.specs.Shape.{shape_of, slot_of}
use Rattle.machine.specs.Step.{word_count, result_of}
use Rattle.flow.specs.Flow.{join_all, changes_all, sweep_from, sweep_changes_from, sweeps, sweep_changes}
use Rattle.facts.specs.Facts.{all_know_no_more, join_facts, result_fact, carry_fact, with_carry_fact}
use Rattle.facts.specs.Record.{depths, holds_cell, join_cell, mask_of, record_of, read_cell, cell_at, put_record}
use Rattle.transfer.specs.Passes.{over, over_down, gives, words_at, some, word_passes, all_passes, table_space, start_table}
use Rattle.transfer.specs.Findings.{all_below, finding_at, first_of, first_finding}

-- 1 where one more sweep changes the table; the lowest cell with a finding, and the finding, or the number of cells and 0
told : List ℕ → List ℕ → List ℕ → List ℕ
told image map table =
    pick (sweep_changes (table_space image) table) 1 0 ∷ first_finding image map table 0 (depths * word_count image) ∷
    finding_at image map table (first_finding image map table 0 (depths * word_count image)) ∷ []

-- after k sweeps
after_sweeps : ℕ → List ℕ → List ℕ → List ℕ
after_sweeps k image map = told image map (sweeps (table_space image) k (start_table image))

-- every address is listed; only these bytes of the map have a bit
open_map : List ℕ
open_map = replicate 128 255

only : ℕ → ℕ → List ℕ
only at byte = set (replicate 128 0) at byte

-- the image of the paper's bench example: XMIT 5 to the left address, NZT of left bit 3, a write at address 5
panel : List ℕ
panel = 0xC7 ∷ 0x05 ∷ 0xB7 ∷ 0x23 ∷ 0xE0 ∷ 0x01 ∷ 0xD7 ∷ 0x21 ∷ 0xE0 ∷ 0x01 ∷ []

-- XMIT 1 to AUX, XMIT 255 to R11, ADD of R11 to a left field of 4 bits: OVF is 0, with the whole register it was 1
summed : List ℕ → List ℕ
summed rest = 0xC0 ∷ 0x01 ∷ 0xC9 ∷ 0xFF ∷ 0x29 ∷ 0x93 ∷ rest

examples : List (List ℕ)
examples =
    -- one JMP to itself
    after_sweeps 0 (0xE0 ∷ 0x00 ∷ []) open_map ∷
    -- the panel, with left 5 readable and writable, and readable alone
    after_sweeps 1 panel (set (only 0 32) 32 32) ∷
    after_sweeps 1 panel (only 0 32) ∷
    -- 21: a MOVE at the end; a CALL that would return outside; an NZT whose other branch is not taken, and one that is
    after_sweeps 0 (0x00 ∷ 0x00 ∷ []) open_map ∷
    after_sweeps 1 (0xA7 ∷ 0x00 ∷ []) open_map ∷
    after_sweeps 1 (0xA0 ∷ 0x09 ∷ 0xE0 ∷ 0x00 ∷ []) open_map ∷
    after_sweeps 1 (0xB7 ∷ 0x29 ∷ 0xE0 ∷ 0x00 ∷ []) open_map ∷
    -- 22: MOVE to OVF
    after_sweeps 0 (0x00 ∷ 0x08 ∷ 0xE0 ∷ 0x00 ∷ []) open_map ∷
    -- 23: a read at left 5, writable alone
    after_sweeps 1 (0xC7 ∷ 0x05 ∷ 0x17 ∷ 0x00 ∷ 0xE0 ∷ 0x01 ∷ []) (only 32 32) ∷
    -- 25: right 10 chosen, right 9 listed
    after_sweeps 1 (0xCF ∷ 0x0A ∷ 0xE0 ∷ 0x00 ∷ []) (only 65 2) ∷
    -- 26: a CALL of itself
    after_sweeps 1 (0xA7 ∷ 0x00 ∷ 0xE0 ∷ 0x01 ∷ []) open_map ∷
    -- 27: a RET at depth 0; and one level down, back to behind the CALL
    after_sweeps 0 (0xAF ∷ 0x00 ∷ 0xE0 ∷ 0x00 ∷ []) open_map ∷
    after_sweeps 1 (0xA7 ∷ 0x02 ∷ 0xE0 ∷ 0x01 ∷ 0xAF ∷ 0x00 ∷ []) open_map ∷
    -- the same with low bytes that are not zero (2026-01)
    after_sweeps 0 (0xAF ∷ 0x01 ∷ 0xE0 ∷ 0x00 ∷ []) open_map ∷
    after_sweeps 1 (0xA7 ∷ 0x02 ∷ 0xE0 ∷ 0x01 ∷ 0xAF ∷ 0xFF ∷ []) open_map ∷
    -- 28: a left address from data
    after_sweeps 1 (0x17 ∷ 0x07 ∷ 0xE0 ∷ 0x01 ∷ []) open_map ∷
    -- 29: XEC of itself; 25: of the fourth word, which a field of one bit may give
    after_sweeps 0 (0x80 ∷ 0x00 ∷ 0xE0 ∷ 0x00 ∷ []) open_map ∷
    after_sweeps 1 (0x97 ∷ 0x22 ∷ 0xE0 ∷ 0x00 ∷ 0x00 ∷ 0x00 ∷ 0xCF ∷ 0x0A ∷ []) (set (only 0 1) 65 2) ∷
    -- 28 at depth 1, address 1, in a routine, and 22 at depth 0, address 4, where it returns: the lower depth (2026-02)
    after_sweeps 1 (0xE0 ∷ 0x03 ∷ 0x17 ∷ 0x07 ∷ 0xAF ∷ 0x00 ∷ 0xA7 ∷ 0x01 ∷ 0x00 ∷ 0x08 ∷ []) open_map ∷
    -- NZT of OVF after a sum that the mask keeps below 256 (2026-04): it goes on and does not branch to 9, which lies
    -- outside; and it does not branch back to 0, but goes on past the last word
    after_sweeps 1 (summed (0xA8 ∷ 0x09 ∷ 0xE0 ∷ 0x04 ∷ [])) open_map ∷
    after_sweeps 1 (summed (0xA8 ∷ 0x00 ∷ [])) open_map ∷
    -- XEC of that OVF: the word at 4 is executed and not the one at 5, of which one is invalid
    after_sweeps 1 (summed (0x88 ∷ 0x04 ∷ 0xE0 ∷ 0x03 ∷ 0x00 ∷ 0x08 ∷ [])) open_map ∷
    after_sweeps 1 (summed (0x88 ∷ 0x04 ∷ 0x00 ∷ 0x08 ∷ 0xE0 ∷ 0x03 ∷ [])) open_map ∷ []

told_examples : examples ≡
    (0 ∷ 9 ∷ 0 ∷ []) ∷ (0 ∷ 45 ∷ 0 ∷ []) ∷ (0 ∷ 3 ∷ 24 ∷ []) ∷
    (0 ∷ 0 ∷ 21 ∷ []) ∷ (0 ∷ 0 ∷ 21 ∷ []) ∷ (0 ∷ 18 ∷ 0 ∷ []) ∷ (0 ∷ 0 ∷ 21 ∷ []) ∷
    (0 ∷ 0 ∷ 22 ∷ []) ∷ (0 ∷ 1 ∷ 23 ∷ []) ∷ (0 ∷ 0 ∷ 25 ∷ []) ∷ (0 ∷ 16 ∷ 26 ∷ []) ∷
    (0 ∷ 0 ∷ 27 ∷ []) ∷ (0 ∷ 27 ∷ 0 ∷ []) ∷ (0 ∷ 0 ∷ 27 ∷ []) ∷ (0 ∷ 27 ∷ 0 ∷ []) ∷ (0 ∷ 0 ∷ 28 ∷ []) ∷ (0 ∷ 0 ∷ 29 ∷ []) ∷ (0 ∷ 0 ∷ 25 ∷ []) ∷ (0 ∷ 4 ∷ 22 ∷ []) ∷
    (0 ∷ 45 ∷ 0 ∷ []) ∷ (0 ∷ 3 ∷ 21 ∷ []) ∷ (0 ∷ 54 ∷ 0 ∷ []) ∷ (0 ∷ 3 ∷ 22 ∷ []) ∷ []
unfolding examples after_sweeps told open_map only panel summed first_of in_set all_below finding_at rotate_right low_bits decoded shape_of slot_of result_of join_all changes_all sweep_from sweep_changes_from sweeps all_know_no_more join_facts result_fact carry_fact with_carry_fact holds_cell join_cell mask_of record_of read_cell cell_at put_record over over_down gives words_at some word_passes all_passes
told_examples = refl
