-- What a word makes of facts: it knows no more where the facts know no more, and keeps the layout.
use mathlib.Core.Path.{◌≡◌, refl, sym, ◌∙◌, ap, subst}
use mathlib.Core.Bool.{Bool, true, false, ◌&&◌, ◌||◌, and-false}
use mathlib.Core.List.{List}
use Prim.Native.Nat.{ℕ, ◌+◌, ◌^◌, ◌≤◌, ◌<◌}
use native.Mathlib.Omega.{arith}
use native.Mathlib.Decide.{ℕ_discrete}
use lib.Dec.{ltb, eqb}
use lib.ListN.{length, get_or, set, length-set}
use lib.Seq.{get_or-set_same, get_or-set_other, set_out}
use borrow.Author.Tests.{eqb-false, eq-eqb, ltb-true, ltb-false, not-true}
use Rattle.choice.specs.Choice.{pick}
use Rattle.choice.proofs.Laws.{pick_cases, and_first, and_second}
use lib.Pow.{pow_mono}
use Rattle.field.specs.Field.{rotate_right, width_of, low_bits, sum_of, and_of, xor_of}
use Rattle.field.proofs.Laws.{rotate_lt, low_lt, sum_lt, and_byte, xor_byte}
use Rattle.state.specs.State.{overflow_slot}
use Rattle.machine.specs.Shape.{Source, register, bank, constant, Target, slot, latch}
use Rattle.machine.specs.Step.{result_of}
use Rattle.machine.proofs.InRange.{SourceInRange, most_values}
use Rattle.facts.specs.Facts.{fact_count, unknown, is_known, knows_no_more, all_know_no_more, source_fact, result_fact, carry_fact, with_carry_fact, facts_after, Span, fact_span, span_of}
use Rattle.facts.proofs.Order.{no_more_unknown, no_more_same, no_more_cases, all_at, all_from}

-- eleven facts, each a value or unknown
pub record FineFacts (facts : List ℕ) : Type 0 where
  pub long : length facts ≡ fact_count
  pub bounded : (k : ℕ) → get_or facts k unknown ≤ unknown

pub known_low : (f : ℕ) → f ≤ unknown → is_known f ≡ true → f < 256
known_low f h k = let ne = eqb-false f unknown (not-true (eqb f unknown) k) in omega (arith, ne)

-- ---- knows no more

pub source_no_more : (source : Source) (gs fs : List ℕ) → all_know_no_more gs fs ≡ true → knows_no_more (source_fact source gs) (source_fact source fs) ≡ true
source_no_more (register k places kept) gs fs h =
    let g = get_or gs k unknown in
    let f = get_or fs k unknown in
    no_more_cases g f (all_at gs fs h k)
    (λ e. no_more_unknown (source_fact (register k places kept) gs) (source_fact (register k places kept) fs) (rw (eq-eqb g unknown e)))
    (λ e. no_more_same (source_fact (register k places kept) gs) (source_fact (register k places kept) fs) (ap (λ (x : ℕ). pick (is_known x) (low_bits kept (rotate_right places x)) unknown) e))
source_no_more (bank b p l) gs fs h = refl
source_no_more (constant x) gs fs h = no_more_same x x refl

result_unknown : (op a x : ℕ) → x ≡ unknown → result_fact op a x ≡ unknown
unfolding result_fact
result_unknown op a x e = rw (eq-eqb x unknown e)

result_no_aux : (op a a' x : ℕ) → a' ≡ unknown → knows_no_more (result_fact op a' x) (result_fact op a x) ≡ true
unfolding result_fact result_of
result_no_aux op a a' x e = go (eqb op 0) refl
  where
    go : (b : Bool) → eqb op 0 ≡ b → knows_no_more (result_fact op a' x) (result_fact op a x) ≡ true
    go true w = no_more_same (result_fact op a' x) (result_fact op a x) (rw w)
    go false w = no_more_unknown (result_fact op a' x) (result_fact op a x) (rw (w, eq-eqb a' unknown e, and-false (is_known x)))

pub result_no_more : (op a' a x' x : ℕ) → knows_no_more a' a ≡ true → knows_no_more x' x ≡ true → knows_no_more (result_fact op a' x') (result_fact op a x) ≡ true
result_no_more op a' a x' x ha hx =
    no_more_cases x' x hx (λ e. no_more_unknown (result_fact op a' x') (result_fact op a x) (result_unknown op a' x' e))
    (λ e. subst (λ (z : ℕ). knows_no_more (result_fact op a' z) (result_fact op a x) ≡ true) (sym e)
    (no_more_cases a' a ha (λ n. result_no_aux op a a' x n)
    (λ n. no_more_same (result_fact op a' x) (result_fact op a x) (ap (λ (z : ℕ). result_fact op z x) n))))

pub carry_no_more : (a' a x' x : ℕ) → knows_no_more a' a ≡ true → knows_no_more x' x ≡ true → knows_no_more (carry_fact a' x') (carry_fact a x) ≡ true
unfolding carry_fact
carry_no_more a' a x' x ha hx =
    no_more_cases x' x hx (λ e. no_more_unknown (carry_fact a' x') (carry_fact a x) (rw (eq-eqb x' unknown e)))
    (λ e. no_more_cases a' a ha
    (λ n. no_more_unknown (carry_fact a' x') (carry_fact a x) (rw (eq-eqb a' unknown n, and-false (is_known x'))))
    (λ n. no_more_same (carry_fact a' x') (carry_fact a x) (cc)))

pub set_no_more : (gs fs : List ℕ) (k g f : ℕ) → length gs ≡ length fs → all_know_no_more gs fs ≡ true → knows_no_more g f ≡ true → all_know_no_more (set gs k g) (set fs k f) ≡ true
set_no_more gs fs k g f same h one = all_from (set gs k g) (set fs k f) (λ j. at j (ℕ_discrete j k) (ltb k (length gs)) refl)
  where
    at : (j : ℕ) → Dec (j ≡ k) → (b : Bool) → ltb k (length gs) ≡ b → knows_no_more (get_or (set gs k g) j unknown) (get_or (set fs k f) j unknown) ≡ true
    at j (no ne) b w = rw (get_or-set_other gs k j g unknown ne, get_or-set_other fs k j f unknown ne) (all_at gs fs h j)
    at j (yes e) true w =
        let inside = ltb-true k (length gs) w in
        rw (e, get_or-set_same gs k g unknown inside, get_or-set_same fs k f unknown (omega arith)) one
    at j (yes e) false w =
        let out = ltb-false k (length gs) w in
        rw (set_out gs k g out, set_out fs k f (omega arith)) (all_at gs fs h j)

module _ (source : Source) (op : ℕ) (target : Target) (gs fs : List ℕ) (same : length gs ≡ length fs) (h : all_know_no_more gs fs ≡ true) where
  carried : all_know_no_more (with_carry_fact op (get_or gs 0 unknown) (source_fact source gs) gs) (with_carry_fact op (get_or fs 0 unknown) (source_fact source fs) fs) ≡ true
  unfolding with_carry_fact
  carried = go (eqb op 1)
    where
      go : (b : Bool) → all_know_no_more (pick b (set gs overflow_slot (carry_fact (get_or gs 0 unknown) (source_fact source gs))) gs) (pick b (set fs overflow_slot (carry_fact (get_or fs 0 unknown) (source_fact source fs))) fs) ≡ true
      go true =
          set_no_more gs fs overflow_slot (carry_fact (get_or gs 0 unknown) (source_fact source gs)) (carry_fact (get_or fs 0 unknown) (source_fact source fs)) same h
          (carry_no_more (get_or gs 0 unknown) (get_or fs 0 unknown) (source_fact source gs) (source_fact source fs) (all_at gs fs h 0) (source_no_more source gs fs h))
      go false = h

-- the length stays
pub carry_length : (op a x : ℕ) (fs : List ℕ) → length (with_carry_fact op a x fs) ≡ length fs
unfolding with_carry_fact
carry_length op a x fs = pick_cases (λ (l : List ℕ). length l ≡ length fs) (eqb op 1) (λ e. length-set fs overflow_slot (carry_fact a x)) (λ e. refl)

pub after_no_more : (source : Source) (op : ℕ) (target : Target) (gs fs : List ℕ) → length gs ≡ length fs → all_know_no_more gs fs ≡ true
    → all_know_no_more (facts_after source op target gs) (facts_after source op target fs) ≡ true
after_no_more source op (slot k) gs fs same h =
    let a' = get_or gs 0 unknown in
    let a = get_or fs 0 unknown in
    set_no_more (with_carry_fact op a' (source_fact source gs) gs) (with_carry_fact op a (source_fact source fs) fs) k
    (result_fact op a' (source_fact source gs)) (result_fact op a (source_fact source fs))
    (carry_length op a' (source_fact source gs) gs ∙ same ∙ sym (carry_length op a (source_fact source fs) fs))
    (carried source op (slot k) gs fs same h)
    (result_no_more op a' a (source_fact source gs) (source_fact source fs) (all_at gs fs h 0) (source_no_more source gs fs h))
after_no_more source op (latch b p l) gs fs same h = carried source op (latch b p l) gs fs same h

-- ---- the layout

pub source_bound : (source : Source) (fs : List ℕ) → SourceInRange source → FineFacts fs → source_fact source fs ≤ unknown
source_bound (register k places kept) fs fits fine =
    pick_cases (λ (x : ℕ). x ≤ unknown) (is_known (get_or fs k unknown))
    (λ e. let low = low_lt kept (rotate_lt places fits.1 (known_low (get_or fs k unknown) (fine.bounded k) e)) in omega arith)
    (λ e. omega arith)
source_bound (bank b p l) fs fits fine = omega arith
source_bound (constant x) fs fits fine = omega arith

result_byte : (op a x : ℕ) → x < 256 → (eqb op 0 || is_known a) ≡ true → a ≤ unknown → result_of op a x < 256
unfolding result_of
result_byte op a x hx known ha = go (eqb op 0) refl
  where
    go : (b : Bool) → eqb op 0 ≡ b → pick (eqb op 0) x (pick (eqb op 1) (sum_of a x) (pick (eqb op 2) (and_of a x) (xor_of a x))) < 256
    go true w = rw w hx
    go false w =
        let low : a < 256 = known_low a ha (rw w at known) in
        rw w
        (pick_cases (λ (y : ℕ). y < 256) (eqb op 1) (λ e. sum_lt a x)
        (λ e. pick_cases (λ (y : ℕ). y < 256) (eqb op 2) (λ e. and_byte a x low hx) (λ e. xor_byte a x low hx)))

pub result_bound : (op a x : ℕ) → x ≤ unknown → a ≤ unknown → result_fact op a x ≤ unknown
unfolding result_fact
result_bound op a x hx ha =
    pick_cases (λ (y : ℕ). y ≤ unknown) (is_known x && (eqb op 0 || is_known a))
    (λ e. let low = result_byte op a x (known_low x hx (and_first (is_known x) (eqb op 0 || is_known a) e)) (and_second (is_known x) (eqb op 0 || is_known a) e) ha in omega arith)
    (λ e. omega arith)

carry_bound : (a x : ℕ) → x ≤ unknown → a ≤ unknown → carry_fact a x ≤ unknown
unfolding carry_fact
carry_bound a x hx ha = pick_cases (λ (y : ℕ). y ≤ unknown) (is_known x && is_known a) (λ e. omega arith) (λ e. omega arith)

pub set_fine : (fs : List ℕ) (k f : ℕ) → FineFacts fs → f ≤ unknown → FineFacts (set fs k f)
set_fine fs k f fine h =
    record { long = length-set fs k f ∙ fine.long; bounded = λ j. at j (ℕ_discrete j k) (ltb k (length fs)) refl }
  where
    at : (j : ℕ) → Dec (j ≡ k) → (b : Bool) → ltb k (length fs) ≡ b → get_or (set fs k f) j unknown ≤ unknown
    at j (no ne) b w = rw (get_or-set_other fs k j f unknown ne) (fine.bounded j)
    at j (yes e) true w = rw (e, get_or-set_same fs k f unknown (ltb-true k (length fs) w)) h
    at j (yes e) false w = rw (set_out fs k f (ltb-false k (length fs) w)) (fine.bounded j)

carry_fine : (op a x : ℕ) (fs : List ℕ) → FineFacts fs → x ≤ unknown → a ≤ unknown → FineFacts (with_carry_fact op a x fs)
unfolding with_carry_fact
carry_fine op a x fs fine hx ha =
    pick_cases FineFacts (eqb op 1) (λ e. set_fine fs overflow_slot (carry_fact a x) fine (carry_bound a x hx ha)) (λ e. fine)

pub after_fine : (source : Source) (op : ℕ) (target : Target) (fs : List ℕ) → SourceInRange source → FineFacts fs → FineFacts (facts_after source op target fs)
after_fine source op (slot k) fs fits fine =
    let x = source_bound source fs fits fine in
    set_fine (with_carry_fact op (get_or fs 0 unknown) (source_fact source fs) fs) k (result_fact op (get_or fs 0 unknown) (source_fact source fs))
    (carry_fine op (get_or fs 0 unknown) (source_fact source fs) fs fine x (fine.bounded 0))
    (result_bound op (get_or fs 0 unknown) (source_fact source fs) x (fine.bounded 0))
after_fine source op (latch b p l) fs fits fine =
    carry_fine op (get_or fs 0 unknown) (source_fact source fs) fs fine (source_bound source fs fits fine) (fine.bounded 0)

-- ---- spans: with facts that know no more, a source has the same span, or all 256 values

abbrev pub whole_span : Span
whole_span = record { low = 0; count = 256 }

pub span_cases : {P : Type 0} (source : Source) (gs fs : List ℕ) → all_know_no_more gs fs ≡ true
    → (span_of source gs ≡ span_of source fs → P) → (span_of source gs ≡ whole_span → P) → P
span_cases (register k places kept) gs fs h p q =
    let g = source_fact (register k places kept) gs in
    let f = source_fact (register k places kept) fs in
    no_more_cases g f (source_no_more (register k places kept) gs fs h) (λ e. q (rw (eq-eqb g unknown e))) (λ e. p (ap fact_span e))
span_cases (bank b p l) gs fs h same whole = same refl
span_cases (constant x) gs fs h same whole = same refl

pub span_count : (source : Source) (fs : List ℕ) → (span_of source fs).count ≤ most_values source
span_count (register k places kept) fs =
    pick_cases (λ (span : Span). span.count ≤ 256) (is_known (source_fact (register k places kept) fs)) (λ e. omega arith) (λ e. omega arith)
span_count (bank b p l) fs = omega arith
span_count (constant x) fs = omega arith

bank_span : (l : ℕ) → l < 8 → 2 ^ width_of l ≤ 256
bank_span l h = pick_cases (λ (w : ℕ). 2 ^ w ≤ 256) (eqb l 0) (λ e. omega arith) (λ e. pow_mono {j = 8} (omega arith))

-- a known source's value is a byte, and an unknown one has 256
pub span_bytes : (source : Source) (fs : List ℕ) → SourceInRange source → FineFacts fs → (v : ℕ) → v < (span_of source fs).low + (span_of source fs).count → v < 256
span_bytes (register k places kept) fs fits fine v h =
    let f = source_fact (register k places kept) fs in
    span_low f (source_bound (register k places kept) fs fits fine) v h
  where
    span_low : (f : ℕ) → f ≤ unknown → (v : ℕ) → v < (fact_span f).low + (fact_span f).count → v < 256
    span_low f b v h = go (is_known f) refl h
      where
        go : (c : Bool) → is_known f ≡ c → v < (pick c (record { low = f; count = 1 }) whole_span).low + (pick c (record { low = f; count = 1 }) whole_span).count → v < 256
        go true w h = let low = known_low f b w in omega arith
        go false w h = omega arith
span_bytes (bank b p l) fs fits fine v h = let w = bank_span l fits.2 in omega arith
span_bytes (constant x) fs fits fine v h = omega arith
