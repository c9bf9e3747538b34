-- What the calls answer fits the places of a number. Assumes nothing.
use mathlib.Core.List.{List}
use Prim.Native.Nat.{ℕ, ◌<◌}
use native.Mathlib.Omega.{arith}
use lib.Dec.{eqb}
use lib.ListN.{length}
use Rattle.choice.proofs.Laws.{pick_both, pick_cases}
use Rattle.state.specs.State.{EachBelow}
use Rattle.map.specs.Map.{map_length, counted}
use Rattle.map.proofs.Laws.{count_le}
use Rattle.emulator.specs.Run.{image_fits}
use Rattle.emulator.proofs.Door.{image_words}
use Rattle.admission.specs.Admission.{AdmitAnswer}
use Rattle.admission.specs.Admission.{Refused, Admitted, Found}
use Rattle.admission.specs.Admission.{admit_result}
use Rattle.admission.proofs.Range.{Ranged, answer_ranged}
use Rattle.checking.specs.Check.{CheckAnswer}
use Rattle.checking.specs.Check.{Refused as NotChecked, Accepted, Failed}
use Rattle.checking.specs.Check.{check_result}
use Rattle.checking.proofs.Range.{Ranged as RangedCheck, answer_ranged as check-ranged}
use Rattle.foretell.specs.Foretell.{ForetellAnswer}
use Rattle.foretell.specs.Foretell.{foretold, bound_of}
use Rattle.foretell.proofs.Counting.{counts_foretold}
use Rattle.answers.specs.Fits.{CountsFit, VerdictFits, CheckFits, ForetoldFits}

pub counts_fit : (map : List ℕ) → CountsFit (counted map)
unfolding counted
counts_fit map =
    pick_both CountsFit (eqb (length map) map_length) (count_le map 0 256, count_le map 1 256, count_le map 2 256, count_le map 3 256) tt

pub ranged_fits : (answer : AdmitAnswer) → Ranged answer → VerdictFits answer
ranged_fits (Refused number) r = omega (arith, r.1)
ranged_fits Admitted r = tt
ranged_fits (Found number depth address) r = (omega (arith, r.1), omega (arith, r.2), omega (arith, r.3))

pub verdict_fits : (image map table : List ℕ) → VerdictFits (admit_result image map table).answer
verdict_fits image map table = ranged_fits (admit_result image map table).answer (answer_ranged image map table)

pub check_answer_fits : (answer : CheckAnswer) → RangedCheck answer → CheckFits answer
check_answer_fits (NotChecked number) r = omega (arith, r.1)
check_answer_fits Accepted r = tt
check_answer_fits (Failed number depth address) r = (omega (arith, r.1), omega (arith, r.2), omega (arith, r.3))

pub check_fits : (image map table : List ℕ) → CheckFits (check_result image map table).answer
check_fits image map table = check_answer_fits (check_result image map table).answer (check-ranged image map table)

pub foretold_fits : (image : List ℕ) → ForetoldFits (foretold image) × (bound_of (foretold image) < 4294967296)
unfolding foretold
foretold_fits image =
    pick_cases (λ (f : ForetellAnswer). ForetoldFits f × (bound_of f < 4294967296)) (image_fits image)
    (λ fits.
    let most = image_words image fits in
    ((omega arith, omega arith), omega arith))
    (λ _. (tt, omega arith))

pub sweeps_fit : (image map table : List ℕ) → EachBelow 256 image → (admit_result image map table).sweeps < 4294967296
sweeps_fit image map table bytes = omega (arith, (counts_foretold image map table bytes).bounded, (foretold_fits image).1)
