-- The two lines that the paper prints ("The bench program" of document 01), computed by the definitions.
use mathlib.Core.Path.{◌≡◌, refl, ap, ◌∙◌}
use mathlib.Core.Bool.{Bool, true, false, ◌&&◌}
use mathlib.Core.List.{List, [], ◌∷◌, ◌++◌}
use Prim.Native.Nat.{ℕ, zero, suc, ◌<◌}
use native.Mathlib.Omega.{arith}
use lib.Dec.{ltb}
use lib.ListN.{get_or, replicate, set}
use borrow.Author.Tests.{ltb-true}
use Rattle.choice.proofs.Laws.{and_first, and_second}
use Rattle.field.specs.Field.{rotate_right, low_bits}
use Rattle.word.specs.Word.{decoded}
use Rattle.map.specs.Map.{in_set, count_below}
use Rattle.machine.specs.Shape.{shape_of, slot_of}
use Rattle.machine.specs.Step.{word_count, result_of}
use Rattle.emulator.specs.Run.{image_fits}
use Rattle.flow.specs.Flow.{join_all, changes_all, sweep_from, sweep_changes_from, sweep_changes, sweeps}
use Rattle.flow.proofs.Filling.{sweeps_rest}
use Rattle.facts.specs.Facts.{all_know_no_more, join_facts, result_fact, carry_fact, with_carry_fact}
use Rattle.facts.specs.Record.{holds_cell, join_cell, mask_of, record_of, read_cell, cell_at, put_record}
use Rattle.transfer.specs.Passes.{over, over_down, gives, words_at, some, word_passes, all_passes, table_space, start_table, least_table}
use Rattle.transfer.specs.Findings.{all_below, finding_at, first_of}
use Rattle.transfer.proofs.TableLaws.{table_laws, start_begins}
use Rattle.admission.specs.Admission.{filled_table, verdict_of}
use Rattle.admission.specs.Lowest.{finding_in, Lowest}
use Rattle.text.specs.Text.{decimal, end_text}
use Rattle.report.specs.Report.{answer_line}
use Rattle.line.specs.Line.{line_of}
use Rattle.line.proofs.Lowest.{line_names}

-- "The image 0xC705 0xB723 0xE001 0xD721 0xE001"
abbrev image : List ℕ
image = 0xC7 ∷ 0x05 ∷ 0xB7 ∷ 0x23 ∷ 0xE0 ∷ 0x01 ∷ 0xD7 ∷ 0x21 ∷ 0xE0 ∷ 0x01 ∷ []

-- "with address 5 left readable and writable", and "Without 5 writable"
abbrev readable_map : List ℕ
readable_map = set (replicate 128 0) 0 32

abbrev writable_map : List ℕ
writable_map = set readable_map 32 32

all_bytes : List ℕ → Bool
all_bytes [] = true
all_bytes (x ∷ xs) = ltb x 256 && all_bytes xs

each_byte : (xs : List ℕ) → all_bytes xs ≡ true → (k : ℕ) → get_or xs k 0 < 256
unfolding all_bytes
each_byte [] h k = omega arith
each_byte (x ∷ xs) h zero = ltb-true x 256 (and_first (ltb x 256) (all_bytes xs) h)
each_byte (x ∷ xs) h (suc k) = each_byte xs (and_second (ltb x 256) (all_bytes xs) h) k

image_bytes : all_bytes image ≡ true
unfolding all_bytes
image_bytes = refl

input_bytes : all_bytes (readable_map ++ image) ≡ true
unfolding all_bytes
input_bytes = refl

-- after one sweep the table is the least one
abbrev filled : List ℕ
filled = sweeps (table_space image) 1 (start_table image)

settled : sweep_changes (table_space image) filled ≡ false
unfolding join_all changes_all sweep_from sweep_changes_from sweeps all_know_no_more join_facts result_fact carry_fact with_carry_fact holds_cell join_cell mask_of record_of read_cell cell_at put_record over over_down gives words_at some word_passes all_passes decoded shape_of slot_of rotate_right low_bits result_of
settled = refl

least : least_table image ≡ filled
unfolding least_table
least =
    let bytes = each_byte image image_bytes in
    sweeps_rest (table_laws image bytes) (start_table image) 1 540 (start_begins image bytes (omega arith)).good settled (omega arith)

abbrev line_of_lem : List ℕ → List ℕ → List ℕ
line_of_lem map table = answer_line image map (verdict_of image map table) ++ end_text

-- `admitted words 5 left 1 1 right 0 0`
admitted_line_lem : line_of_lem writable_map filled ≡ 97 ∷ 100 ∷ 109 ∷ 105 ∷ 116 ∷ 116 ∷ 101 ∷ 100 ∷ 32 ∷ 119 ∷ 111 ∷ 114 ∷ 100 ∷ 115 ∷ 32 ∷ 53 ∷ 32 ∷ 108 ∷ 101 ∷ 102 ∷ 116 ∷ 32 ∷ 49 ∷ 32 ∷ 49 ∷ 32 ∷ 114 ∷ 105 ∷ 103 ∷ 104 ∷ 116 ∷ 32 ∷ 48 ∷ 32 ∷ 48 ∷ 10 ∷ []
unfolding verdict_of decimal count_below in_set all_below finding_at first_of join_all changes_all sweep_from sweep_changes_from sweeps all_know_no_more join_facts result_fact carry_fact with_carry_fact holds_cell join_cell mask_of record_of read_cell cell_at put_record over over_down gives words_at some word_passes all_passes decoded shape_of slot_of rotate_right low_bits result_of
admitted_line_lem = refl

-- `refused 24 depth 0 address 3`
refused_line : line_of_lem readable_map filled ≡ 114 ∷ 101 ∷ 102 ∷ 117 ∷ 115 ∷ 101 ∷ 100 ∷ 32 ∷ 50 ∷ 52 ∷ 32 ∷ 100 ∷ 101 ∷ 112 ∷ 116 ∷ 104 ∷ 32 ∷ 48 ∷ 32 ∷ 97 ∷ 100 ∷ 100 ∷ 114 ∷ 101 ∷ 115 ∷ 115 ∷ 32 ∷ 51 ∷ 10 ∷ []
unfolding verdict_of decimal count_below in_set all_below finding_at first_of join_all changes_all sweep_from sweep_changes_from sweeps all_know_no_more join_facts result_fact carry_fact with_carry_fact holds_cell join_cell mask_of record_of read_cell cell_at put_record over over_down gives words_at some word_passes all_passes decoded shape_of slot_of rotate_right low_bits result_of
refused_line = refl

pub prints_admitted : line_of (writable_map ++ image) ≡ 97 ∷ 100 ∷ 109 ∷ 105 ∷ 116 ∷ 116 ∷ 101 ∷ 100 ∷ 32 ∷ 119 ∷ 111 ∷ 114 ∷ 100 ∷ 115 ∷ 32 ∷ 53 ∷ 32 ∷ 108 ∷ 101 ∷ 102 ∷ 116 ∷ 32 ∷ 49 ∷ 32 ∷ 49 ∷ 32 ∷ 114 ∷ 105 ∷ 103 ∷ 104 ∷ 116 ∷ 32 ∷ 48 ∷ 32 ∷ 48 ∷ 10 ∷ []
unfolding line_of image_fits
prints_admitted = ap (line_of_lem writable_map) least ∙ admitted_line_lem

pub prints_refused : line_of (readable_map ++ image) ≡ 114 ∷ 101 ∷ 102 ∷ 117 ∷ 115 ∷ 101 ∷ 100 ∷ 32 ∷ 50 ∷ 52 ∷ 32 ∷ 100 ∷ 101 ∷ 112 ∷ 116 ∷ 104 ∷ 32 ∷ 48 ∷ 32 ∷ 97 ∷ 100 ∷ 100 ∷ 114 ∷ 101 ∷ 115 ∷ 115 ∷ 32 ∷ 51 ∷ 10 ∷ []
unfolding line_of image_fits
prints_refused = ap (line_of_lem readable_map) least ∙ refused_line

-- so that is the lowest finding in the table that admission fills
pub refused_lowest : Lowest (word_count image) (finding_in image (filled_table image readable_map)) 24 0 3
unfolding decimal
refused_lowest = ((line_names (readable_map ++ image) (each_byte (readable_map ++ image) input_bytes) 24 0 3).0 prints_refused).1
