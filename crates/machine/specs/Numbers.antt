-- What the code's parts are of plain numbers: of those, too, that no word and no well-formed state has.
use Rattle.std.specs.Prelude.{List, ℕ, eqb}
use Rattle.choice.specs.Choice.{pick}
use Rattle.state.specs.declared.State.{State}
use Rattle.machine.specs.Shape.{Source, constant, source_of, places_of, kept_of}
use Rattle.machine.specs.Step.{Step}
use Rattle.machine.specs.Parts.{masked_into}

-- the source of a delivery: of kind 1 the constant i, else the register or bank s
abbrev pub source_told : ℕ → ℕ → ℕ → ℕ → ℕ → ℕ → Source
source_told kind op s l d i =
    pick (eqb kind 1) (constant (masked_into op l d i)) (source_of s (places_of l d) (kept_of op l d) l)

-- the state of a machine that is not stopped: beside a flag that is not 1 any address may stand
abbrev pub numbered : ℕ → ℕ → ℕ → ℕ → List ℕ → List ℕ → List ℕ → State
numbered pc flag pending depth values latches returns =
    record {
      pc = pc;
      flag = flag;
      pending = pending;
      values = values;
      latches = latches;
      depth = depth;
      returns = returns;
      stop = 0;
    }

-- what a step leaves of such a state: a stop leaves flag and address as they were
abbrev pub left_by : ℕ → ℕ → Step → Step
left_by flag pending t =
    record {
      state =
          record {
            pc = t.state.pc;
            flag = pick (eqb t.state.stop 0) t.state.flag flag;
            pending = pick (eqb t.state.stop 0) t.state.pending pending;
            values = t.state.values;
            latches = t.state.latches;
            depth = t.state.depth;
            returns = t.state.returns;
            stop = t.state.stop;
          };
      event = t.event;
      pc = t.pc;
      fetch = t.fetch;
    }
