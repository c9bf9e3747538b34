-- A table that came along: what is accepted runs flawlessly within it, what admission admits is accepted, and no accepted table
-- knows more than the least one. Assumes nothing.
use mathlib.Core.Path.{◌≡◌, subst⁻¹}
use mathlib.Core.List.{List}
use Prim.Native.Nat.{ℕ, ◌*◌}
use native.Mathlib.Omega.{arith}
use Rattle.machine.specs.Step.{word_count}
use Rattle.emulator.proofs.Door.{image_some}
use Rattle.facts.specs.Record.{depths}
use Rattle.records.proofs.Fits.{fits_layout, layout_fits}
use Rattle.transfer.specs.Passes.{least_table}
use Rattle.transfer.proofs.TableLaws.{least_table_lem}
use Rattle.transfer.proofs.Overflow.{least_overflow}
use Rattle.admission.proofs.Filled.{admitted_cleared, admitted_table}
use Rattle.checking.specs.Check.{Accepted}
use Rattle.checking.specs.Check.{check_result}
use Rattle.checking.proofs.Accepting.{accepted_acceptable, acceptable_accepted}
use Rattle.guarantee.specs.Accepted.{AcceptedRuns, AdmittedAccepted, AcceptedCovers}
use Rattle.guarantee.proofs.Demand3.{demand_closed}

pub accepted_runs : (image map table : List ℕ) → AcceptedRuns image map table
accepted_runs image map table bytes h jobs =
    let a = accepted_acceptable image map table h in
    demand_closed image map table a.closed bytes a.fits a.long a.clear jobs

pub admitted_accepted : (image map table : List ℕ) → AdmittedAccepted image map table
admitted_accepted image map table bytes h =
    let c = admitted_cleared image map table h in
    let some = image_some image c.fits in
    let least = least_table_lem image bytes some in
    subst⁻¹ (λ (t : List ℕ). (check_result image map t).answer ≡ Accepted) (admitted_table image map table bytes h)
    (acceptable_accepted image map (least_table image)
    (record {
      fits = c.fits;
      long = c.long;
      room = let long = least.good.long in omega arith;
      laid = layout_fits (depths * word_count image) (least_table image) least.good (least_overflow image bytes some);
      closed = least.closed;
      clear = c.clear;
    }))

pub accepted_covers : (image map table : List ℕ) → AcceptedCovers image map table
accepted_covers image map table bytes its h =
    let a = accepted_acceptable image map table h in
    let room = a.room in
    (least_table_lem image bytes (image_some image a.fits)).lowest table
    (fits_layout (depths * word_count image) table (omega arith) its a.laid) a.closed
