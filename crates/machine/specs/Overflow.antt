-- What ADD's mask changes ("Within one step only OVF can change", 2026-04 of document 02): the step of document 01, which
-- sums the whole register, beside the step.
use Rattle.std.specs.Prelude.{List, ◌≡◌, ℕ, set}
use Rattle.field.specs.Field.{low_bits, merge_into, sum_of}
use Rattle.state.specs.declared.State.{State}
use Rattle.state.specs.State.{overflow_slot}
use Rattle.machine.specs.Shape.{Source, register, bank, constant, Shape, act, go, invalid}
use Rattle.machine.specs.Step.{shape_at, fetch_address, Step, shape_stepped, stepped}

-- "Register to bank, XEC and NZT: the whole register": all eight bits are kept
abbrev pub whole_source : Source → Source
whole_source (register k places kept) = register k places 0
whole_source (bank b p l) = bank b p l
whole_source (constant x) = constant x

abbrev pub whole_shape : Shape → Shape
whole_shape (act source op target) = act (whole_source source) op target
whole_shape (go source control) = go (whole_source source) control
whole_shape invalid = invalid

-- the step of document 01
abbrev pub stepped_whole : List ℕ → List ℕ → List ℕ → State → Step
stepped_whole image map bus s = shape_stepped (whole_shape (shape_at image (fetch_address s))) image map bus s

-- a state and a step of which OVF is not looked at
abbrev pub but_overflow : State → State
but_overflow s =
    record {
      pc = s.pc;
      flag = s.flag;
      pending = s.pending;
      values = set s.values overflow_slot 0;
      latches = s.latches;
      depth = s.depth;
      returns = s.returns;
      stop = s.stop;
    }

abbrev pub step_but_overflow : Step → Step
step_but_overflow o = record { state = but_overflow o.state; event = o.event; pc = o.pc; fetch = o.fetch }

-- The byte that a sum merges into a latch is the same with and without the mask: for every position, length, AUX,
-- source and latch.
abbrev pub SameMerged : Type 0
SameMerged = (p l aux x latch : ℕ) → merge_into p l (sum_of aux (low_bits l x)) latch ≡ merge_into p l (sum_of aux x) latch

-- The law: every step of every image, under every map, with every bus and from every state, is that of document 01 but
-- for OVF.
abbrev pub OnlyOverflow : Type 0
OnlyOverflow = (image map bus : List ℕ) (s : State) → step_but_overflow (stepped image map bus s) ≡ step_but_overflow (stepped_whole image map bus s)
