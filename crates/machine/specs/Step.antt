-- One step ("One step" and the step questions of document 01).
use Rattle.std.specs.Prelude.{Bool, true, false, List, [], ◌∷◌, ℕ, ◌+◌, ◌-◌, ◌*◌, ◌/◌, ◌%◌, leb, ltb, eqb, length, get_or, set}
use Rattle.choice.specs.Choice.{pick, Question, ask, asked}
use Rattle.field.specs.Field.{rotate_right, low_bits, field_of, merge_into, sum_of, carry_of, and_of, xor_of}
use Rattle.word.specs.Word.{decoded}
use Rattle.map.specs.Map.{readable, writable, listed}
use Rattle.state.specs.declared.State.{State}
use Rattle.state.specs.State.{stack_places, overflow_slot, address_slot}
use Rattle.machine.specs.Shape.{Source, register, bank, constant, Target, slot, latch, Control, jump, branch, defer, call, return, Shape, act, go, invalid, shape_of}

-- "An image is records of 2 bytes, high byte first; it holds N words"
abbrev pub word_count : List ℕ → ℕ
word_count image = length image / 2

abbrev pub word_at : List ℕ → ℕ → ℕ
word_at image a = get_or image (2 * a) 0 * 256 + get_or image (2 * a + 1) 0

abbrev pub shape_at : List ℕ → ℕ → Shape
shape_at image a = shape_of (decoded (word_at image a))

-- Source: a byte rotated, then its low bits. The bus is a step's left and right byte.
abbrev pub value_of : Source → List ℕ → List ℕ → ℕ
value_of (register k places kept) values bus = low_bits kept (rotate_right places (get_or values k 0))
value_of (bank b p l) values bus = field_of p l (get_or bus b 0)
value_of (constant x) values bus = x

-- Result: the source, or AUX with the source added, ANDed or XORed, kept to 8 bits
unfoldable pub result_of : ℕ → ℕ → ℕ → ℕ
result_of op aux x = pick (eqb op 0) x (pick (eqb op 1) (sum_of aux x) (pick (eqb op 2) (and_of aux x) (xor_of aux x)))

-- "ADD alone sets OVF"
unfoldable pub with_overflow : ℕ → ℕ → ℕ → List ℕ → List ℕ
with_overflow op aux x values = pick (eqb op 1) (set values overflow_slot (carry_of aux x)) values

-- "A register or bus address takes all of it."
abbrev pub put_value : Target → ℕ → List ℕ → List ℕ
put_value (slot k) result values = set values k result
put_value (latch b p l) result values = values

-- To a bank: its low L bits, shifted left 7 - D0, replace their bits in that bank's latch.
abbrev pub put_latch : Target → ℕ → List ℕ → List ℕ
put_latch (slot k) result latches = latches
put_latch (latch b p l) result latches = set latches b (merge_into p l result (get_or latches b 0))

-- the low bits of PC, 8 for a page of 256 and 5 for 32, replaced by x, kept to that width
abbrev pub in_page : ℕ → ℕ → ℕ → ℕ
in_page page pc x = pc / page * page + x % page

-- What an act makes of a state: PC + 1; flag and pending address zero.
unfoldable pub act_state : ℕ → ℕ → Target → State → State
act_state op x target s =
    record {
      pc = s.pc + 1;
      flag = 0;
      pending = 0;
      values = put_value target (result_of op (get_or s.values 0 0) x) (with_overflow op (get_or s.values 0 0) x s.values);
      latches = put_latch target (result_of op (get_or s.values 0 0) x) s.latches;
      depth = s.depth;
      returns = s.returns;
      stop = s.stop;
    }

-- A state that goes on at another PC; flag and pending address zero.
abbrev pub go_to : ℕ → ℕ → List ℕ → State → State
go_to pc depth returns s =
    record {
      pc = pc;
      flag = 0;
      pending = 0;
      values = s.values;
      latches = s.latches;
      depth = depth;
      returns = returns;
      stop = s.stop;
    }

-- XEC: the pending address and the flag; nothing else changes.
abbrev pub defer_to : ℕ → State → State
defer_to a s =
    record {
      pc = s.pc;
      flag = 1;
      pending = a;
      values = s.values;
      latches = s.latches;
      depth = s.depth;
      returns = s.returns;
      stop = s.stop;
    }

-- What a word that directs PC makes of a state, x its source. CALL pushes PC + 1 and sets PC to AUX × 256 + I;
-- RET pops into PC and zeroes the popped place.
unfoldable pub go_state : Control → ℕ → State → State
go_state (jump a) x s = go_to a s.depth s.returns s
go_state (branch page i) x s = go_to (pick (eqb x 0) (s.pc + 1) (in_page page s.pc i)) s.depth s.returns s
go_state (defer page i) x s = defer_to (in_page page s.pc (i + x)) s
go_state (call i) x s = go_to (x * 256 + i) (s.depth + 1) (set s.returns s.depth (s.pc + 1)) s
go_state return x s = go_to (get_or s.returns (s.depth - 1) 0) (s.depth - 1) (set s.returns (s.depth - 1) 0) s

-- Execute a word of this shape at the state's PC.
abbrev pub executed : Shape → List ℕ → State → State
executed (act source op target) bus s = act_state op (value_of source s.values bus) target s
executed (go source control) bus s = go_state control (value_of source s.values bus) s
executed invalid bus s = s

-- "A word reads a bank when it has an S in 20-37": is that bank's address readable?
abbrev pub may_read : List ℕ → Source → List ℕ → Bool
may_read map (register k places kept) values = true
may_read map (bank b p l) values = readable map b (get_or values (address_slot b) 0)
may_read map (constant x) values = true

-- "and writes data when it has a D in 20-37": is that bank's address writable?
abbrev pub may_write : List ℕ → Target → List ℕ → Bool
may_write map (slot k) values = true
may_write map (latch b p l) values = writable map b (get_or values (address_slot b) 0)

-- "It chooses an address, which is its result, when its D is 07 or 17": is the new one listed?
abbrev pub may_choose : List ℕ → Target → ℕ → Bool
may_choose map (slot k) result = pick (leb (address_slot 0) k) (listed map (k - address_slot 0) result) true
may_choose map (latch b p l) result = true

abbrev pub may_call : Control → ℕ → Bool
may_call (jump a) depth = true
may_call (branch page i) depth = true
may_call (defer page i) depth = true
may_call (call i) depth = ltb depth stack_places
may_call return depth = true

abbrev pub may_return : Control → ℕ → Bool
may_return (jump a) depth = true
may_return (branch page i) depth = true
may_return (defer page i) depth = true
may_return (call i) depth = true
may_return return depth = ltb 0 depth

-- The step questions 2 to 7 of a word, in order: 22, 23, 24, 25, 26, 27.
abbrev pub word_questions : List ℕ → Shape → List ℕ → State → List Question
word_questions map (act source op target) bus s =
    ask 23 (may_read map source s.values) ∷ ask 24 (may_write map target s.values) ∷
    ask 25 (may_choose map target (result_of op (get_or s.values 0 0) (value_of source s.values bus))) ∷ []
word_questions map (go source control) bus s =
    ask 23 (may_read map source s.values) ∷ ask 26 (may_call control s.depth) ∷ ask 27 (may_return control s.depth) ∷ []
word_questions map invalid bus s = ask 22 false ∷ []

-- It fetches at the pending address if the flag is set, else at PC.
abbrev pub fetch_address : State → ℕ
fetch_address s = pick (eqb s.flag 1) s.pending s.pc

-- All seven of a word of this shape, question 1 being whether the fetch address is below N.
abbrev pub shape_questions : Shape → List ℕ → List ℕ → List ℕ → State → List Question
shape_questions shape image map bus s = ask 21 (ltb (fetch_address s) (word_count image)) ∷ word_questions map shape bus s

-- of the word that is fetched
abbrev pub step_questions : List ℕ → List ℕ → List ℕ → State → List Question
step_questions image map bus s = shape_questions (shape_at image (fetch_address s)) image map bus s

-- "A stop sets the stop number and changes nothing else."
abbrev pub stopped : State → ℕ → State
stopped s number =
    record {
      pc = s.pc;
      flag = s.flag;
      pending = s.pending;
      values = s.values;
      latches = s.latches;
      depth = s.depth;
      returns = s.returns;
      stop = number;
    }

-- What a word leaves: the state, and the four bytes that "The trace" of document 01 tells of it.
pub record Outcome : Type 0 where
  pub state : State
  pub event : List ℕ

-- "The trace": kind (0 nothing, 1 and 2 left and right address chosen, 3 and 4 left and right data written),
-- the bank's address register afterwards, the data byte, no stop number. s is the state afterwards.
abbrev pub target_event : Target → State → List ℕ
target_event (slot k) s =
    pick (leb (address_slot 0) k) ((k - 8) ∷ get_or s.values k 0 ∷ 0 ∷ 0 ∷ []) (0 ∷ 0 ∷ 0 ∷ 0 ∷ [])
target_event (latch b p l) s = (3 + b) ∷ get_or s.values (address_slot b) 0 ∷ get_or s.latches b 0 ∷ 0 ∷ []

abbrev pub event_of : Shape → State → List ℕ
event_of (act source op target) s = target_event target s
event_of (go source control) s = 0 ∷ 0 ∷ 0 ∷ 0 ∷ []
event_of invalid s = 0 ∷ 0 ∷ 0 ∷ 0 ∷ []

-- kind 5 stop
abbrev pub stop_event : ℕ → List ℕ
stop_event number = 5 ∷ 0 ∷ 0 ∷ number ∷ []

abbrev pub went_on : Shape → State → Outcome
went_on shape s = record { state = s; event = event_of shape s }

abbrev pub came_to_stop : State → ℕ → Outcome
came_to_stop s number = record { state = stopped s number; event = stop_event number }

-- Execute a word, or stop at its first no.
abbrev pub word_step : List ℕ → Shape → List ℕ → State → Outcome
word_step map shape bus s =
    asked (word_questions map shape bus s) (went_on shape (executed shape bus s)) (came_to_stop s)

-- What a step leaves: what its word does, and two addresses ("Addresses in the trace", 2026-03 of document 02).
pub record Step : Type 0 where
  pub state : State
  pub event : List ℕ
  pub pc : ℕ
  pub fetch : ℕ

-- "PC before the step and the fetch address": s is the state before it, whether the step stops or not.
abbrev pub step_from : State → Outcome → Step
step_from s o = record { state = o.state; event = o.event; pc = s.pc; fetch = fetch_address s }

-- One step of a machine that is not stopped, where the word has this shape.
abbrev pub shape_stepped : Shape → List ℕ → List ℕ → List ℕ → State → Step
shape_stepped shape image map bus s =
    step_from s (asked (shape_questions shape image map bus s) (went_on shape (executed shape bus s)) (came_to_stop s))

-- One step, with the word that is fetched.
unfoldable pub stepped : List ℕ → List ℕ → List ℕ → State → Step
stepped image map bus s = shape_stepped (shape_at image (fetch_address s)) image map bus s
