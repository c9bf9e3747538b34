-- The answers of counting, admission, checking, foretelling, run and listing as one number each, for C and Rust; those of
-- words are in `numbers`.
use Rattle.std.specs.Prelude.{Bool, ◌&&◌, ℕ, ◌+◌, ◌*◌, ◌%◌, ◌^◌, ltb, eqb}
use Rattle.choice.specs.Choice.{pick}
use Rattle.map.specs.Map.{Counts}
use Rattle.map.specs.Map.{Sets, Refused as NotCounted}
use Rattle.admission.specs.Admission.{AdmitAnswer}
use Rattle.admission.specs.Admission.{Refused as NotAdmitted, Admitted, Found}
use Rattle.checking.specs.Check.{CheckAnswer}
use Rattle.checking.specs.Check.{Refused as NotChecked, Accepted, Failed}
use Rattle.foretell.specs.Foretell.{ForetellAnswer}
use Rattle.foretell.specs.Foretell.{Refused as NotForetold, Foretold}
use Rattle.emulator.specs.Run.{RunAnswer}
use Rattle.emulator.specs.Run.{Refused, Ended}
use Rattle.listing.specs.Answer.{ListAnswer}
use Rattle.listing.specs.Answer.{Listed, Refused as NotListed}
use Rattle.numbers.specs.Words.{bits_from, number_in}

-- riptide_count_sets: the four counts, each in 12 bits from bit 8 on; or 12
abbrev pub sets_number : ℕ → ℕ → ℕ → ℕ → ℕ
sets_number a b c d = a * 256 + b * 1048576 + c * 4294967296 + d * 17592186044416

abbrev pub count_number : Counts → ℕ
count_number (Sets a b c d) = sets_number a b c d
count_number NotCounted = 12

-- riptide_admit, its low 32 bits: number + depth × 256 + address × 65,536, the number being 0 for admitted, the refusal or
-- the finding
abbrev pub found_number : ℕ → ℕ → ℕ → ℕ
found_number number depth address = number + depth * 256 + address * 65536

abbrev pub verdict_number : AdmitAnswer → ℕ
verdict_number (NotAdmitted number) = number
verdict_number Admitted = 0
verdict_number (Found number depth address) = found_number number depth address

-- and above them the count of sweeps
abbrev pub admit_number : AdmitAnswer → ℕ → ℕ
admit_number answer sweeps = verdict_number answer + sweeps * 4294967296

-- riptide_check: number + depth × 256 + address × 65,536, the number being 0 for accepted, the refusal, or what a cell fails
-- with
abbrev pub check_number : CheckAnswer → ℕ
check_number (NotChecked number) = number
check_number Accepted = 0
check_number (Failed number depth address) = found_number number depth address

-- riptide_foretell: number + length × 256 + bound × 2^32, the number being 0, or 11 alone
abbrev pub foretell_number : ForetellAnswer → ℕ
foretell_number NotForetold = 11
foretell_number (Foretold length bound) = length * 256 + bound * 4294967296

-- riptide_run: count × 256 + number, the number being the stop number or 0, or with count 0 the refusal. Both are kept to
-- their places, 56 and 8 bits, which every recording of fewer than 2^56 pairs and every stop number fits.
abbrev pub run_number : RunAnswer → ℕ
run_number (Refused number) = number
run_number (Ended count stop) = count % 2 ^ 56 * 256 + stop % 256

-- riptide_is_refusal, of a RIPTIDE_NUMBER that admission, a check or a run gives; 41 is listing's alone
abbrev pub is_refusal : ℕ → Bool
is_refusal number = ltb 0 number && ltb number 21

-- The answers that the numbers stand for: the four counts; RIPTIDE_DEPTH, RIPTIDE_ADDRESS and RIPTIDE_SWEEPS;
-- RIPTIDE_TABLE_LENGTH and RIPTIDE_SWEEP_BOUND; RIPTIDE_COUNT; a listing's.
abbrev pub counts_in : ℕ → Counts
counts_in n =
    pick (eqb (number_in n) 0) (Sets (bits_from 8 12 n) (bits_from 20 12 n) (bits_from 32 12 n) (bits_from 44 12 n)) NotCounted

module _ {A : Type 0} where
  -- 0 is one answer, a refusal has its number, and every other number names a cell
  abbrev pub answer_in : A → (ℕ → A) → (ℕ → ℕ → ℕ → A) → ℕ → A
  answer_in none refused names n =
      pick (eqb (number_in n) 0) none
      (pick (is_refusal (number_in n)) (refused (number_in n)) (names (number_in n) (bits_from 8 8 n) (bits_from 16 16 n)))

abbrev pub admit_answer_in : ℕ → AdmitAnswer
admit_answer_in = answer_in Admitted NotAdmitted Found

abbrev pub check_answer_in : ℕ → CheckAnswer
check_answer_in = answer_in Accepted NotChecked Failed

abbrev pub sweeps_in : ℕ → ℕ
sweeps_in n = bits_from 32 32 n

abbrev pub foretell_answer_in : ℕ → ForetellAnswer
foretell_answer_in n = pick (eqb (number_in n) 0) (Foretold (bits_from 8 24 n) (bits_from 32 32 n)) NotForetold

abbrev pub run_answer_in : ℕ → RunAnswer
run_answer_in n = pick (is_refusal (number_in n)) (Refused (number_in n)) (Ended (bits_from 8 56 n) (number_in n))

abbrev pub list_answer_in : ℕ → ListAnswer
list_answer_in n = pick (eqb n 0) Listed (NotListed n)
