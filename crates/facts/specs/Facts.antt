-- Facts ("The table of facts" of document 01): what is known of the eleven values at a point of the program.
-- Everything above uses them through what stands here: the facts of reset, which values a fact allows, the order, the
-- join, what a word makes of facts, and the span of values that a source may have.
use Rattle.std.specs.Prelude.{Bool, true, ◌&&◌, ◌||◌, not, List, [], ◌∷◌, ℕ, ◌+◌, ◌^◌, leb, ltb, eqb, get_or, set, replicate}
use Rattle.choice.specs.Choice.{pick}
use Rattle.field.specs.Field.{rotate_right, width_of, low_bits, carry_of}
use Rattle.state.specs.State.{overflow_slot}
use Rattle.machine.specs.Shape.{Source, register, bank, constant, Target, slot, latch}
use Rattle.machine.specs.Step.{result_of}

-- "which of 11 facts are known"
abbrev pub fact_count : ℕ
fact_count = 11

-- a fact of which nothing is known; a known fact is its value, below 256
abbrev pub unknown : ℕ
unknown = 256

abbrev pub is_known : ℕ → Bool
is_known f = not (eqb f unknown)

-- "the reset facts": every value is 0
abbrev pub reset_facts : List ℕ
reset_facts = replicate fact_count 0

-- a state's value agrees with a fact
abbrev pub allows : ℕ → ℕ → Bool
allows f value = eqb f unknown || eqb f value

-- "lies within the facts": each known fact has the value that the state holds for it
unfoldable pub within : List ℕ → List ℕ → Bool
within [] values = true
within (f ∷ fs) [] = allows f 0 && within fs []
within (f ∷ fs) (v ∷ vs) = allows f v && within fs vs

-- "knows no more": a fact that it knows is known there with the same value
abbrev pub knows_no_more : ℕ → ℕ → Bool
knows_no_more f g = eqb f unknown || eqb f g

unfoldable pub all_know_no_more : List ℕ → List ℕ → Bool
all_know_no_more [] gs = true
all_know_no_more (f ∷ fs) [] = knows_no_more f unknown && all_know_no_more fs []
all_know_no_more (f ∷ fs) (g ∷ gs) = knows_no_more f g && all_know_no_more fs gs

-- "Two differing values join to unknown."
abbrev pub join_fact : ℕ → ℕ → ℕ
join_fact f g = pick (eqb f g) f unknown

unfoldable pub join_facts : List ℕ → List ℕ → List ℕ
join_facts [] gs = []
join_facts (f ∷ fs) [] = join_fact f unknown ∷ join_facts fs []
join_facts (f ∷ fs) (g ∷ gs) = join_fact f g ∷ join_facts fs gs

-- how many facts are known
unfoldable pub known_count : List ℕ → ℕ
known_count [] = 0
known_count (f ∷ fs) = pick (is_known f) 1 0 + known_count fs

-- The fact of a source: known when its register is known; a bank is never known.
abbrev pub source_fact : Source → List ℕ → ℕ
source_fact (register k places kept) facts =
    pick (is_known (get_or facts k unknown)) (low_bits kept (rotate_right places (get_or facts k unknown))) unknown
source_fact (bank b p l) facts = unknown
source_fact (constant x) facts = x

-- "what it writes is known exactly when each register that it reads is known and it reads no bank": MOVE and XMIT
-- read the source alone, ADD, AND and XOR read AUX too
unfoldable pub result_fact : ℕ → ℕ → ℕ → ℕ
result_fact op aux x = pick (is_known x && (eqb op 0 || is_known aux)) (result_of op aux x) unknown

-- OVF after ADD
unfoldable pub carry_fact : ℕ → ℕ → ℕ
carry_fact aux x = pick (is_known x && is_known aux) (carry_of aux x) unknown

-- the facts after an act: OVF where it is ADD, then the target; a bank's latch is no fact
unfoldable pub with_carry_fact : ℕ → ℕ → ℕ → List ℕ → List ℕ
with_carry_fact op aux x facts = pick (eqb op 1) (set facts overflow_slot (carry_fact aux x)) facts

abbrev pub put_fact : Target → ℕ → List ℕ → List ℕ
put_fact (slot k) result facts = set facts k result
put_fact (latch b p l) result facts = facts

abbrev pub facts_after : Source → ℕ → Target → List ℕ → List ℕ
facts_after source op target facts =
    put_fact target (result_fact op (get_or facts 0 unknown) (source_fact source facts))
    (with_carry_fact op (get_or facts 0 unknown) (source_fact source facts) facts)

-- The values that a source may have: count of them from the lowest on.
pub record Span : Type 0 where
  pub low : ℕ
  pub count : ℕ

-- "one if known, else all 256, or 2^L for a bank"
abbrev pub fact_span : ℕ → Span
fact_span f = pick (is_known f) (record { low = f; count = 1 }) (record { low = 0; count = 256 })

abbrev pub span_of : Source → List ℕ → Span
span_of (register k places kept) facts = fact_span (source_fact (register k places kept) facts)
span_of (bank b p l) facts = record { low = 0; count = 2 ^ width_of l }
span_of (constant x) facts = record { low = x; count = 1 }

-- the span holds a value
abbrev pub holds : Span → ℕ → Bool
holds span v = leb span.low v && ltb v (span.low + span.count)

-- the span holds zero; it holds another value
abbrev pub may_be_zero : Span → Bool
may_be_zero span = eqb span.low 0

abbrev pub may_be_other : Span → Bool
may_be_other span = ltb 1 (span.low + span.count)
