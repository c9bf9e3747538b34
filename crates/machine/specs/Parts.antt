-- The machine's parts as the code holds them, put together to a state, and what the code's parts of a step yield.
use Rattle.std.specs.Prelude.{List, [], ◌∷◌, ◌≡◌, ℕ, ◌+◌, ◌<◌, ◌≤◌, leb, eqb, get_or, Option, Some, None, unwrap_or}
use Rattle.choice.specs.Choice.{pick, ask, asked}
use Rattle.field.specs.Field.{low_bits}
use Rattle.state.specs.declared.State.{State}
use Rattle.state.specs.State.{stack_places}
use Rattle.machine.specs.declared.Sequencer.{Sequencer}
use Rattle.machine.specs.declared.Stop.{Stop}
use Rattle.machine.specs.declared.Stop.TheVariants.{Outside, Invalid, Unreadable, Unwritable, Unlisted, Full, Empty}
use Rattle.machine.specs.declared.Event.{Event}
use Rattle.machine.specs.declared.Event.TheVariants.{Quiet, Address, Data, Stopped}
use Rattle.machine.specs.declared.Effect.{Effect}
use Rattle.machine.specs.declared.act.Operation.{Operation}
use Rattle.machine.specs.declared.act.Operation.TheVariants.{Move, Add, And, Xor}
use Rattle.machine.specs.declared.act.Argument.{Argument}
use Rattle.machine.specs.declared.act.Argument.TheVariants.{Number, Constant}
use Rattle.machine.specs.declared.act.Delivery.{Delivery}
use Rattle.machine.specs.Shape.{Source, constant, Target, Shape, act, source_of, target_of, places_of, kept_of}
use Rattle.machine.specs.Step.{Outcome, result_of, act_state, target_event, may_write, may_choose, came_to_stop}

-- what is pending, as the two numbers of a state: the flag, and the address, which is 0 without it
abbrev pub flag_of : Option ℕ → ℕ
flag_of None = 0
flag_of (Some a) = 1

abbrev pub pending_of : Option ℕ → ℕ
pending_of pending = unwrap_or pending 0

-- the state of a machine that is not stopped, from its sequencer, values, latches and call stack
abbrev pub whole : Sequencer → List ℕ → List ℕ → List ℕ → State
whole q values latches returns =
    record {
      pc = q.pc;
      flag = flag_of q.pending;
      pending = pending_of q.pending;
      values = values;
      latches = latches;
      depth = q.depth;
      returns = returns;
      stop = 0;
    }

-- where the next word is fetched: at the pending address, or at PC
abbrev pub fetch_of : Sequencer → ℕ
fetch_of q = unwrap_or q.pending q.pc

-- the number of a stop: the step question that got the first no
abbrev pub stop_number : Stop → ℕ
stop_number Outside = 21
stop_number Invalid = 22
stop_number Unreadable = 23
stop_number Unwritable = 24
stop_number Unlisted = 25
stop_number Full = 26
stop_number Empty = 27

-- "The trace": the kind, the bank's address, the data byte and the stop number of what a word does
abbrev pub event_kind : Event → ℕ
event_kind Quiet = 0
event_kind (Address bank address) = 1 + bank
event_kind (Data bank address byte) = 3 + bank
event_kind (Stopped why) = 5

abbrev pub event_address : Event → ℕ
event_address Quiet = 0
event_address (Address bank address) = address
event_address (Data bank address byte) = address
event_address (Stopped why) = 0

abbrev pub event_written : Event → ℕ
event_written Quiet = 0
event_written (Address bank address) = 0
event_written (Data bank address byte) = byte
event_written (Stopped why) = 0

abbrev pub event_stop : Event → ℕ
event_stop Quiet = 0
event_stop (Address bank address) = 0
event_stop (Data bank address byte) = 0
event_stop (Stopped why) = stop_number why

abbrev pub event_bytes : Event → List ℕ
event_bytes e = event_kind e ∷ event_address e ∷ event_written e ∷ event_stop e ∷ []

-- the outcome of a word from what the code leaves
abbrev pub outcome : Effect → List ℕ → List ℕ → List ℕ → Outcome
outcome e values latches returns =
    record {
      state =
          record {
            pc = e.q.pc;
            flag = flag_of e.q.pending;
            pending = pending_of e.q.pending;
            values = values;
            latches = latches;
            depth = e.q.depth;
            returns = returns;
            stop = event_stop e.event;
          };
      event = event_bytes e.event;
    }

-- an act that has gone on to PC + 1
abbrev pub act_effect : Sequencer → Event → Effect
act_effect q event = record { q = record { pc = q.pc + 1; pending = None; depth = q.depth }; event = event }

-- a word that has directed PC
abbrev pub go_effect : ℕ → ℕ → Effect
go_effect pc depth = record { q = record { pc = pc; pending = None; depth = depth }; event = Quiet }

-- an XEC
abbrev pub defer_effect : Sequencer → ℕ → Effect
defer_effect q a = record { q = record { pc = q.pc; pending = Some a; depth = q.depth }; event = Quiet }

-- a page has 256 addresses or 32
abbrev pub IsPage : ℕ → Type 0
IsPage page = (page ≡ 256 → ⊥) → page ≡ 32

-- What an operation with the target d takes of its source x: ADD to a bank the low bits, every other all of it.
abbrev pub masked_into : ℕ → ℕ → ℕ → ℕ → ℕ
masked_into op l d x = pick (eqb op 1) (pick (leb 16 d) (low_bits l x) x) x

-- a step that delivers the source x to a target: questions 4 and 5, then the change
abbrev pub delivered : List ℕ → ℕ → ℕ → Target → State → Outcome
delivered map op x target s =
    asked (ask 24 (may_write map target s.values) ∷ ask 25 (may_choose map target (result_of op (get_or s.values 0 0) x)) ∷ [])
    (record { state = act_state op x target s; event = target_event target (act_state op x target s) })
    (came_to_stop s)

-- an operation's opcode
abbrev pub operation_number : Operation → ℕ
operation_number Move = 0
operation_number Add = 1
operation_number And = 2
operation_number Xor = 3

-- An act as the code holds it: of MOVE, ADD, AND, XOR, with a register or bank as its source; of XMIT, with its constant.
abbrev pub operation_of : Operation → ℕ → ℕ → ℕ → Delivery
operation_of op s rl d = record { op = op; from = Number s; l = rl; d = d }

abbrev pub transmission_of : ℕ → ℕ → ℕ → Delivery
transmission_of d l i = record { op = Move; from = Constant i; l = l; d = d }

-- the source of an act with length l and target d, and its source before ADD's mask
abbrev pub argument_source : Argument → ℕ → ℕ → ℕ → Source
argument_source (Number s) op l d = source_of s (places_of l d) (kept_of op l d) l
argument_source (Constant i) op l d = constant (masked_into op l d i)

abbrev pub taken_argument : Argument → ℕ → ℕ → Source
taken_argument (Number s) l d = source_of s (places_of l d) 0 l
taken_argument (Constant i) l d = constant i

abbrev pub delivery_source : Delivery → Source
delivery_source a = argument_source a.from (operation_number a.op) a.l a.d

abbrev pub taken_source : Delivery → Source
taken_source a = taken_argument a.from a.l a.d

abbrev pub shape_of_delivery : Delivery → Shape
shape_of_delivery a = act (delivery_source a) (operation_number a.op) (target_of a.d a.l)

-- What a word needs to be executed: a PC inside an image of at most 8,192 words, a depth within the stack.
pub record Ready (q : Sequencer) : Type 0 where
  pub near : q.pc < 8192
  pub shallow : q.depth ≤ stack_places
