-- The run as the code holds it: what a step's effect writes, what the steps of a run leave, and what they need.
use Rattle.std.specs.Prelude.{List, ◌++◌, ◌≡◌, ℕ, ◌*◌, ◌≤◌, length}
use Rattle.state.specs.declared.State.{State}
use Rattle.state.specs.State.{two_bytes, Formed, Sized}
use Rattle.machine.specs.declared.Sequencer.{Sequencer}
use Rattle.machine.specs.Parts.{flag_of, pending_of, fetch_of}
use Rattle.machine.specs.Step.{word_count}
use Rattle.emulator.specs.declared.Last.{Last}
use Rattle.emulator.specs.Run.{Ran, pair_count, record_length, written_over}

-- the two halves of a step's trace record: what its word does, and where
abbrev pub half_length : ℕ
half_length = 4

abbrev pub address_bytes : Sequencer → List ℕ
address_bytes q = two_bytes q.pc ++ two_bytes (fetch_of q)

-- the state that the steps of a run leave
abbrev pub last_state : Last → List ℕ → List ℕ → List ℕ → State
last_state last values latches returns =
    record {
      pc = last.q.pc;
      flag = flag_of last.q.pending;
      pending = pending_of last.q.pending;
      values = values;
      latches = latches;
      depth = last.q.depth;
      returns = returns;
      stop = last.stop;
    }

-- what the steps of a run leave: the last state, their count and the trace's bytes
abbrev pub ran_to : Last → List ℕ → List ℕ → List ℕ → List ℕ → Ran
ran_to last values latches returns trace = record { state = last_state last values latches returns; count = last.count; trace = trace }

-- a run's records laid over a trace's bytes
abbrev pub laid_over : Ran → List ℕ → Ran
laid_over r trace = record { state = r.state; count = r.count; trace = written_over r.trace trace }

-- What the steps of a run need: what the questions at the door ask.
pub record Accepted (image recording trace : List ℕ) (s : State) : Type 0 where
  pub words : word_count image ≤ 8192
  pub room : length trace ≡ pair_count recording * record_length
  pub formed : Formed s
  pub sized : Sized s
