-- Demand 3 in admission's words: what admission admits runs flawlessly from reset, within the facts of the table that it
-- has filled. Assumes nothing.
use mathlib.Core.Path.{◌≡◌, ap, subst⁻¹}
use mathlib.Core.List.{List}
use Prim.Native.Nat.{ℕ}
use Rattle.state.specs.State.{reset_bytes}
use Rattle.admission.specs.Admission.{Admitted}
use Rattle.admission.specs.Admission.{filled_table, AdmitResult, admit_result, Cleared}
use Rattle.emulator.proofs.Door.{image_some}
use Rattle.admission.proofs.Filled.{filled_clear, clear_filled, cleared_admitted, admitted_cleared, admitted_table}
use Rattle.guarantee.specs.Demand.{Flawless, Demand, AdmittedRuns}
use Rattle.guarantee.proofs.Demand3.{demand_3}

-- the demand for the table that admission fills
pub demand_filled : (image map : List ℕ) → Demand image map (filled_table image map)
demand_filled image map bytes fits long clear jobs =
    let some = image_some image fits in
    let least = filled_clear image map bytes some clear in
    subst⁻¹ (λ (t : List ℕ). Flawless image map t reset_bytes jobs) (clear_filled image map bytes some least)
    (demand_3 image map bytes fits long least jobs)

-- admission admits exactly where the door questions get yes and no cell of the least table has a finding
pub admitted_when : (image map table : List ℕ) → Cleared image map table → (admit_result image map table).answer ≡ Admitted
admitted_when image map table c = ap (λ (r : AdmitResult). r.answer) (cleared_admitted image map table c)

pub admitted_only_when : (image map table : List ℕ) → (admit_result image map table).answer ≡ Admitted → Cleared image map table
admitted_only_when = admitted_cleared

-- and what it admits: every list of runs from reset is flawless, with the facts of the table's bytes as admission leaves them
pub admitted_demand : (image map table : List ℕ) → AdmittedRuns image map table
admitted_demand image map table bytes h jobs =
    let c = admitted_cleared image map table h in
    subst⁻¹ (λ (t : List ℕ). Flawless image map t reset_bytes jobs) (admitted_table image map table bytes h)
    (demand_3 image map bytes c.fits c.long c.clear jobs)
