-- A table that is accepted and is not the least: that of the program of `Witness`, with those facts alone on which its
-- questions rest. Assumes nothing.
use mathlib.Core.Path.{◌≡◌, refl, sym, ◌∙◌, ap}
use mathlib.Core.Bool.{true}
use mathlib.Core.List.{List}
use Prim.Native.Nat.{ℕ, ◌*◌}
use native.Mathlib.Omega.{arith}
use lib.Dec.{eqb}
use lib.ListN.{length, get_or, take, drop}
use Rattle.field.specs.Field.{rotate_right, low_bits}
use Rattle.word.specs.Word.{decoded}
use Rattle.map.specs.Map.{in_set}
use Rattle.machine.specs.Shape.{shape_of, slot_of}
use Rattle.machine.specs.Step.{word_count, result_of}
use Rattle.flow.specs.Flow.{Closed, all_covered}
use Rattle.facts.specs.Facts.{all_know_no_more, result_fact, with_carry_fact}
use Rattle.facts.specs.Record.{record_size, depths, reset_cell, holds_cell, record_of, mask_of, read_cell, cell_at, put_record}
use Rattle.records.specs.Records.{values_fit, reached_fits, all_zero, record_fits}
use Rattle.transfer.specs.Passes.{over, over_down, gives, words_at, some, word_passes, all_passes, passes_from, table_space, table_length}
use Rattle.transfer.specs.Findings.{all_below, finding_at}
use Rattle.checking.proofs.Accepting.{acceptable_accepted}
use Rattle.guarantee.specs.Accepted.{Wider}
use Rattle.guarantee.proofs.Computed.{every, every_at, all_clean}
use Rattle.guarantee.proofs.Wide.{begins, goes_on, wide}
use Rattle.guarantee.proofs.Witness.{image, map, table, looping, witness_bytes, witness_fits, witness_least}

all_laid : every (depths * word_count image) (λ i. record_fits (take record_size (drop (record_size * i) wide))) ≡ true
unfolding every wide begins goes_on record_of mask_of put_record values_fit reached_fits all_zero
all_laid = refl

all_passed : every (depths * word_count image) (λ i. all_covered (table_space image) wide (passes_from image wide i)) ≡ true
unfolding every wide begins goes_on all_know_no_more holds_cell record_of mask_of read_cell cell_at put_record over over_down gives words_at some word_passes all_passes all_covered decoded shape_of slot_of rotate_right low_bits result_of result_fact with_carry_fact in_set
all_passed = refl

none_found : every (depths * word_count image) (λ i. eqb (finding_at image map wide i) 0) ≡ true
unfolding every wide begins goes_on all_know_no_more holds_cell record_of mask_of read_cell cell_at put_record over over_down gives words_at some word_passes all_passes all_below finding_at decoded shape_of slot_of rotate_right low_bits result_of result_fact with_carry_fact in_set
none_found = refl

closed : Closed (table_space image) reset_cell wide
unfolding wide begins goes_on all_know_no_more holds_cell record_of mask_of read_cell cell_at put_record
closed = record { starts = refl; passed = every_at (depths * word_count image) _ all_passed }

wide_long : length wide ≡ table_length image
unfolding wide begins goes_on record_of mask_of put_record
wide_long = refl

-- its first record knows two facts; that of the least table knows all
wide_mask : get_or wide 2 0 ≡ 5
unfolding wide begins goes_on record_of mask_of put_record
wide_mask = refl

least_mask : get_or table 2 0 ≡ 255
unfolding table looping record_of mask_of put_record
least_mask = refl

pub witness_wider : Wider
witness_wider =
    record {
      image = image;
      map = map;
      table = wide;
      bytes = witness_bytes;
      accepted =
          acceptable_accepted image map wide
          (record {
            fits = witness_fits;
            long = refl;
            room = wide_long;
            laid = every_at (depths * word_count image) _ all_laid;
            closed = closed;
            clear = all_clean image map wide none_found;
          });
      other = λ e. let same : ◌≡◌ {A = ℕ} 5 255 = sym wide_mask ∙ ap (λ (t : List ℕ). get_or t 2 0) (e ∙ witness_least) ∙ least_mask in omega arith;
    }
