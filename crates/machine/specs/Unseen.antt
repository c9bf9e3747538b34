-- A step does not see a bank that is not granted (2026-08 of document 02).
use Rattle.std.specs.Prelude.{List, ◌≢◌, ◌≡◌, ℕ, ◌<◌, get_or}
use Rattle.map.specs.Map.{NothingReadable}
use Rattle.state.specs.declared.State.{State}
use Rattle.state.specs.State.{address_slot}
use Rattle.machine.specs.Step.{stepped}

-- a step's left and right byte, twice, equal but for the byte of bank b
abbrev pub EqualBut : ℕ → List ℕ → List ℕ → Type 0
EqualBut b bus other = (k : ℕ) → k ≢ b → get_or bus k 0 ≡ get_or other k 0

-- The law: where bank b has no readable address, every step of every image, admitted or not, from every state whose address of
-- that bank is a byte, is the same whatever byte bank b has. A word that would take that byte stops before it does.
abbrev pub StepUnseen : Type 0
StepUnseen =
    (b : ℕ) (image map bus other : List ℕ) (s : State) → NothingReadable map b → EqualBut b bus other
    → get_or s.values (address_slot b) 0 < 256 → stepped image map bus s ≡ stepped image map other s
