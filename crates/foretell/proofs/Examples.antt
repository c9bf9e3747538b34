-- The definitions compute: the sweeps of two small images. Assumes nothing.
use mathlib.Core.Path.{◌≡◌, refl}
use mathlib.Core.Bool.{Bool, true, false}
use mathlib.Core.List.{List, [], ◌∷◌}
use Prim.Native.Nat.{ℕ}
use Rattle.word.specs.Word.{decoded}
use Rattle.machine.specs.Shape.{shape_of}
use Rattle.flow.specs.Flow.{join_all, changes_all, sweep_from, sweep_changes_from, sweep_changes, sweeps, sweep_count}
use Rattle.facts.specs.Facts.{join_facts, all_know_no_more}
use Rattle.facts.specs.Record.{holds_cell, join_cell, record_of, mask_of, read_cell, cell_at, put_record}
use Rattle.transfer.specs.Passes.{words_at, some, word_passes, all_passes, table_space, start_table, sweeps_of}

-- A jump to itself: placing the reset cell is no change, and nothing else changes.
abbrev stays : List ℕ
stays = 0xE0 ∷ 0x00 ∷ []

pub none_counted : sweeps_of stays ≡ 0
unfolding join_all changes_all sweep_from sweep_changes_from sweep_count join_facts join_cell all_know_no_more holds_cell record_of mask_of read_cell cell_at put_record words_at some word_passes all_passes sweeps_of decoded shape_of
none_counted = refl

-- 0: JMP 3. 1: JMP 1. 2: JMP 1. 3: JMP 2. The first sweep reaches 3 and, in its turn, 2; the second, 1; the third, nothing more.
abbrev backwards : List ℕ
backwards = 0xE0 ∷ 0x03 ∷ 0xE0 ∷ 0x01 ∷ 0xE0 ∷ 0x01 ∷ 0xE0 ∷ 0x02 ∷ []

abbrev changes_after : ℕ → Bool
changes_after k = sweep_changes (table_space backwards) (sweeps (table_space backwards) k (start_table backwards))

pub two_change : changes_after 0 ∷ changes_after 1 ∷ changes_after 2 ∷ [] ≡ true ∷ true ∷ false ∷ []
unfolding join_all changes_all sweep_from sweep_changes_from sweeps join_facts join_cell all_know_no_more holds_cell record_of mask_of read_cell cell_at put_record words_at some word_passes all_passes decoded shape_of
two_change = refl
