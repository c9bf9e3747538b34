-- Values and facts in pairs: what a word makes of values lies within what it makes of facts.
use mathlib.Core.Path.{◌≡◌, refl, sym, ap, ap₂, subst, ◌∙◌}
use mathlib.Core.Bool.{Bool, true, ◌&&◌, ◌||◌}
use mathlib.Core.List.{List}
use Prim.Native.Nat.{ℕ, ◌+◌, ◌≤◌, ◌<◌, ◌^◌}
use native.Mathlib.Omega.{arith}
use lib.Dec.{eqb}
use lib.ListN.{length, get_or, length-set}
use borrow.Author.Tests.{lt-ltb, le-leb}
use Rattle.choice.specs.Choice.{pick}
use Rattle.choice.proofs.Laws.{pick_cases, pick_beside, and_both, and_first, and_second, or_cases}
use Rattle.field.specs.Field.{rotate_right, width_of, low_bits, field_of, carry_of}
use Rattle.field.proofs.Laws.{rotate_lt, low_lt, field_width}
use Rattle.state.specs.State.{overflow_slot, EachBelow}
use Rattle.machine.specs.Shape.{Source, register, bank, constant, Target, slot, latch}
use Rattle.machine.specs.Step.{value_of, result_of, with_overflow, put_value}
use Rattle.facts.specs.Facts.{unknown, is_known, allows, within, source_fact, result_fact, carry_fact, with_carry_fact, put_fact, facts_after, Span, fact_span, span_of, holds}
use Rattle.machine.proofs.InRange.{SourceInRange}
use Rattle.guarantee.proofs.Within.{allows_same, known_same, within_at, within_set}

-- one value by a fact that may be unknown
allows_picked : (known : Bool) {f v : ℕ} → (known ≡ true → f ≡ v) → allows (pick known f unknown) v ≡ true
allows_picked known {v} h = pick_cases (λ f. allows f v ≡ true) known (λ k. allows_same (h k)) (λ k. refl)

pub source_allowed : (source : Source) (facts values bus : List ℕ) → within facts values ≡ true
    → allows (source_fact source facts) (value_of source values bus) ≡ true
source_allowed (register k places kept) facts values bus h =
    allows_picked (is_known (get_or facts k unknown))
    (λ known. ap (λ (x : ℕ). low_bits kept (rotate_right places x)) (known_same (get_or facts k unknown) (get_or values k 0) known (within_at facts values k h)))
source_allowed (bank b p l) facts values bus h = refl
source_allowed (constant x) facts values bus h = allows_same {f = x} refl

-- the span of values that a source may have
holds_one : (v : ℕ) → holds (record { low = v; count = 1 }) v ≡ true
holds_one v = and_both (le-leb v v (omega arith)) (lt-ltb v (v + 1) (omega arith))

fact_span_holds : (f v : ℕ) → allows f v ≡ true → v < 256 → holds (fact_span f) v ≡ true
fact_span_holds f v a h =
    pick_cases (λ (span : Span). holds span v ≡ true) (is_known f)
    (λ k. subst (λ n. holds (record { low = n; count = 1 }) v ≡ true) (sym (known_same f v k a)) (holds_one v))
    (λ k. and_both (le-leb 0 v (omega arith)) (lt-ltb v (0 + 256) (omega arith)))

pub span_holds : (source : Source) (facts values bus : List ℕ) → SourceInRange source → EachBelow 256 values → within facts values ≡ true
    → holds (span_of source facts) (value_of source values bus) ≡ true
span_holds (register k places kept) facts values bus fits below h =
    fact_span_holds (source_fact (register k places kept) facts) (low_bits kept (rotate_right places (get_or values k 0)))
    (source_allowed (register k places kept) facts values bus h)
    (low_lt kept (rotate_lt places fits.1 (below k)))
span_holds (bank b p l) facts values bus fits below h =
    let v = field_of p l (get_or bus b 0) in
    and_both (le-leb 0 v (omega arith)) (lt-ltb v (0 + 2 ^ width_of l) (omega (arith, field_width p l (get_or bus b 0))))
span_holds (constant x) facts values bus fits below h = holds_one x

-- ---- an act

result_known : (op a x : ℕ) (f : ℕ) → (eqb op 0 || is_known f) ≡ true → allows f a ≡ true → result_of op f x ≡ result_of op a x
unfolding result_of
result_known op a x f k h =
    or_cases (eqb op 0) (is_known f) k (λ e. simp e) (λ known. ap (λ n. result_of op n x) (known_same f a known h))

pub result_allowed : (op a x fa fx : ℕ) → allows fa a ≡ true → allows fx x ≡ true
    → allows (result_fact op fa fx) (result_of op a x) ≡ true
unfolding result_fact
result_allowed op a x fa fx ha hx =
    allows_picked (is_known fx && (eqb op 0 || is_known fa))
    (λ k.
    let same : fx ≡ x = known_same fx x (and_first (is_known fx) (eqb op 0 || is_known fa) k) hx in
    ap (result_of op fa) same ∙ result_known op a x fa (and_second (is_known fx) (eqb op 0 || is_known fa) k) ha)

pub carry_allowed : (a x fa fx : ℕ) → allows fa a ≡ true → allows fx x ≡ true → allows (carry_fact fa fx) (carry_of a x) ≡ true
unfolding carry_fact
carry_allowed a x fa fx ha hx =
    allows_picked (is_known fx && is_known fa)
    (λ k.
    ap₂ (λ m n. carry_of m n) (known_same fa a (and_second (is_known fx) (is_known fa) k) ha)
    (known_same fx x (and_first (is_known fx) (is_known fa) k) hx))

-- OVF and then the target
pub overflow_within : (op a x fa fx : ℕ) (facts values : List ℕ) → allows fa a ≡ true → allows fx x ≡ true
    → length facts ≤ length values → within facts values ≡ true
    → within (with_carry_fact op fa fx facts) (with_overflow op a x values) ≡ true
unfolding with_carry_fact with_overflow
overflow_within op a x fa fx facts values ha hx l h =
    pick_beside (λ fs vs. within fs vs ≡ true) (eqb op 1)
    (λ e. within_set facts values overflow_slot (carry_fact fa fx) (carry_of a x) l h (carry_allowed a x fa fx ha hx))
    (λ e. h)

overflow_length : (op a x fa fx : ℕ) (facts values : List ℕ) → length facts ≤ length values
    → length (with_carry_fact op fa fx facts) ≤ length (with_overflow op a x values)
unfolding with_carry_fact with_overflow
overflow_length op a x fa fx facts values l =
    pick_beside (λ (fs vs : List ℕ). length fs ≤ length vs) (eqb op 1)
    (λ e. omega (arith, length-set facts overflow_slot (carry_fact fa fx), length-set values overflow_slot (carry_of a x)))
    (λ e. l)

pub put_within : (target : Target) (f v : ℕ) (facts values : List ℕ) → allows f v ≡ true → length facts ≤ length values
    → within facts values ≡ true → within (put_fact target f facts) (put_value target v values) ≡ true
put_within (slot k) f v facts values a l h = within_set facts values k f v l h a
put_within (latch b p l') f v facts values a l h = h

pub act_within : (source : Source) (op : ℕ) (target : Target) (facts values bus : List ℕ) → length facts ≤ length values
    → within facts values ≡ true
    → within (facts_after source op target facts)
    (put_value target (result_of op (get_or values 0 0) (value_of source values bus))
    (with_overflow op (get_or values 0 0) (value_of source values bus) values))
    ≡ true
act_within source op target facts values bus l h =
    let aux = within_at facts values 0 h in
    let from = source_allowed source facts values bus h in
    let a = get_or values 0 0 in
    let x = value_of source values bus in
    let fa = get_or facts 0 unknown in
    let fx = source_fact source facts in
    put_within target _ _ _ _ (result_allowed op a x fa fx aux from) (overflow_length op a x fa fx facts values l)
    (overflow_within op a x fa fx facts values aux from l h)
