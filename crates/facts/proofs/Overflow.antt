-- OVF's fact is unknown, 0 or 1, and what a word makes of facts, and a join, keep it so.
use mathlib.Core.Path.{◌≡◌, sym}
use mathlib.Core.Bool.{true, ◌&&◌, false≢true}
use mathlib.Core.List.{List}
use Prim.Native.Nat.{ℕ, ◌<◌}
use native.Mathlib.Omega.{arith}
use lib.Dec.{eqb}
use lib.ListN.{length, get_or, set}
use lib.Seq.{get_or-set_same, get_or-set_other}
use Rattle.choice.proofs.Laws.{pick_both, pick_cases, and_first, and_second}
use Rattle.field.proofs.Laws.{carry_lt}
use Rattle.state.specs.State.{overflow_slot}
use Rattle.machine.specs.Shape.{Source, Target, slot, latch}
use Rattle.machine.proofs.InRange.{SourceInRange, TargetInRange}
use Rattle.facts.specs.declared.Cell.{Cell}
use Rattle.facts.specs.Facts.{unknown, is_known, join_facts, result_fact, carry_fact, source_fact, with_carry_fact, facts_after}
use Rattle.facts.specs.Record.{join_cell}
use Rattle.facts.proofs.Order.{join_at_lem}
use Rattle.facts.proofs.Makes.{FineFacts, known_low, source_bound}

abbrev pub FlagFact : ℕ → Type 0
FlagFact f = is_known f ≡ true → f < 2

abbrev pub OverflowFits : List ℕ → Type 0
OverflowFits facts = FlagFact (get_or facts overflow_slot unknown)

pub unknown_flag : FlagFact unknown
unknown_flag e = absurd (false≢true e)

carry_flag : (aux x : ℕ) → (is_known aux ≡ true → aux < 256) → (is_known x ≡ true → x < 256) → FlagFact (carry_fact aux x)
unfolding carry_fact
carry_flag aux x ha hx =
    pick_cases FlagFact (is_known x && is_known aux)
    (λ e k. carry_lt (ha (and_second (is_known x) (is_known aux) e)) (hx (and_first (is_known x) (is_known aux) e))) (λ e. unknown_flag)

-- ADD writes the carry
carry_overflow : (op aux x : ℕ) (fs : List ℕ) → FineFacts fs → FlagFact (carry_fact aux x) → OverflowFits fs → OverflowFits (with_carry_fact op aux x fs)
unfolding with_carry_fact
carry_overflow op aux x fs fine new old =
    let inside : overflow_slot < length fs = rw fine.long (omega arith) in
    pick_both OverflowFits (eqb op 1) (rw (get_or-set_same fs overflow_slot (carry_fact aux x) unknown inside) new) old

-- OVF is no word's target
put_overflow : (k f : ℕ) (fs : List ℕ) → (k ≡ overflow_slot → ⊥) → OverflowFits fs → OverflowFits (set fs k f)
put_overflow k f fs other h = rw (get_or-set_other fs k overflow_slot f unknown (λ e. other (sym e))) h

pub after_overflow : (source : Source) (op : ℕ) (target : Target) (fs : List ℕ) → SourceInRange source → TargetInRange target → FineFacts fs
    → OverflowFits fs → OverflowFits (facts_after source op target fs)
after_overflow source op target fs fits goes fine h = put target goes
  where
    carried : OverflowFits (with_carry_fact op (get_or fs 0 unknown) (source_fact source fs) fs)
    carried =
        carry_overflow op (get_or fs 0 unknown) (source_fact source fs) fs fine
        (carry_flag (get_or fs 0 unknown) (source_fact source fs) (known_low (get_or fs 0 unknown) (fine.bounded 0))
        (known_low (source_fact source fs) (source_bound source fs fits fine)))
        h

    put : (target : Target) → TargetInRange target → OverflowFits (facts_after source op target fs)
    put (slot k) t =
        put_overflow k (result_fact op (get_or fs 0 unknown) (source_fact source fs)) (with_carry_fact op (get_or fs 0 unknown) (source_fact source fs) fs) t.1 carried
    put (latch b p l) t = carried

-- a join's fact is one of the two, or unknown
join_overflow : (fs gs : List ℕ) → OverflowFits fs → OverflowFits (join_facts fs gs)
join_overflow fs gs h =
    rw (join_at_lem fs gs overflow_slot)
    (pick_both FlagFact (eqb (get_or fs overflow_slot unknown) (get_or gs overflow_slot unknown)) h unknown_flag)

pub joined_overflow : (c d : Cell) → OverflowFits c.facts → OverflowFits d.facts → OverflowFits (join_cell c d).facts
unfolding join_cell
joined_overflow c d hc hd =
    pick_both Keeps d.reached (pick_both Keeps c.reached (join_overflow c.facts d.facts hc) hd) hc
  where
    Keeps : Cell → Type 0
    Keeps e = OverflowFits e.facts
