-- What the addresses in a trace say ("Addresses in the trace", 2026-03 of document 02): a law over the bytes that a run
-- leaves.
use Rattle.std.specs.Prelude.{List, ◌≡◌, ℕ, zero, suc, ◌+◌, ◌*◌, ◌<◌, take}
use Rattle.state.specs.declared.State.{State}
use Rattle.state.specs.State.{number_at, EachBelow, loaded}
use Rattle.machine.specs.Shape.{Source, Shape, go, defer}
use Rattle.machine.specs.Step.{shape_at, fetch_address}
use Rattle.emulator.specs.Run.{Ended}
use Rattle.emulator.specs.Run.{pair_length, record_length, ran_over, run_result}

-- PC before step i, counted from 0, and its fetch address, read from the trace
abbrev pub pc_in : List ℕ → ℕ → ℕ
pc_in trace i = number_at trace (record_length * i + 4)

abbrev pub fetch_in : List ℕ → ℕ → ℕ
fetch_in trace i = number_at trace (record_length * i + 6)

-- the state before step i: what the run over the pairs before it leaves
abbrev pub state_before : List ℕ → List ℕ → List ℕ → State → ℕ → State
state_before image map recording s i = (ran_over image map (take (pair_length * i) recording) s).state

-- a word of this shape is an XEC
pub record IsXec (shape : Shape) : Type 0 where
  pub source : Source
  pub page : ℕ
  pub offset : ℕ
  pub is : shape ≡ go source (defer page offset)

-- An XEC is pending before step i of a run from the state s: it came with s, or the step before executed it.
abbrev pub Pending : List ℕ → State → List ℕ → ℕ → Type 0
Pending image s trace zero = s.flag ≡ 1
Pending image s trace (suc i) = IsXec (shape_at image (fetch_in trace i))

-- What the record of step i tells. Of the two addresses: "They differ only if an XEC was pending."
pub record Told (image map recording trace : List ℕ) (s : State) (i : ℕ) : Type 0 where
  pub pc : pc_in trace i ≡ (state_before image map recording s i).pc
  pub fetch : fetch_in trace i ≡ fetch_address (state_before image map recording s i)
  pub differ : (pc_in trace i ≡ fetch_in trace i → ⊥) → Pending image s trace i

-- The law: every record that a run counts, the stopping step's included.
abbrev pub AddressesTold : Type 0
AddressesTold =
    (image map state recording trace : List ℕ) → EachBelow 256 image → EachBelow 256 state → EachBelow 256 recording
    → (count stop : ℕ) → (run_result image map state recording trace).answer ≡ Ended count stop
    → (i : ℕ) → i < count
    → Told image map recording (run_result image map state recording trace).trace (loaded state) i
