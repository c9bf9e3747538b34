-- What a table that came along is good for (2026-09 of document 02).
use Rattle.std.specs.Prelude.{◌≡◌, ◌≢◌, List, ℕ}
use Rattle.state.specs.State.{EachBelow, reset_bytes}
use Rattle.flow.specs.Flow.{Below}
use Rattle.transfer.specs.Passes.{table_space, least_table}
use Rattle.admission.specs.Admission.{Admitted}
use Rattle.admission.specs.Admission.{admit_result}
use Rattle.checking.specs.Check.{Accepted}
use Rattle.checking.specs.Check.{check_result}
use Rattle.guarantee.specs.Demand.{Job, Flawless}

-- "The guarantee of a run without stops covers every accepted image, with the table that came along", in one piece as demand 3
-- is: every list of runs, whatever bytes their recordings hold, is flawless from the state that reset makes, within the
-- facts of that table.
abbrev pub AcceptedRuns : List ℕ → List ℕ → List ℕ → Type 0
AcceptedRuns image map table =
    EachBelow 256 image → (check_result image map table).answer ≡ Accepted → (jobs : List Job) → Flawless image map table reset_bytes jobs

-- "An image that admission admits is accepted with its table", as admission leaves it, whatever it held before.
abbrev pub AdmittedAccepted : List ℕ → List ℕ → List ℕ → Type 0
AdmittedAccepted image map table =
    EachBelow 256 image → (admit_result image map table).answer ≡ Admitted
    → (check_result image map (admit_result image map table).table).answer ≡ Accepted

-- No accepted table knows more than the least one: each of its cells holds what the least table has there.
abbrev pub AcceptedCovers : List ℕ → List ℕ → List ℕ → Type 0
AcceptedCovers image map table =
    EachBelow 256 image → EachBelow 256 table → (check_result image map table).answer ≡ Accepted
    → Below (table_space image) (least_table image) table

-- "A table that is wider than the least one may be accepted": one that is accepted and is not the least.
pub record Wider : Type 0 where
  pub image : List ℕ
  pub map : List ℕ
  pub table : List ℕ
  pub bytes : EachBelow 256 image
  pub accepted : (check_result image map table).answer ≡ Accepted
  pub other : table ≢ least_table image
