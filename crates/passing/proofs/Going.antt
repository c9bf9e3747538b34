-- Words that direct PC: what the code has passed on is what they pass on.
use mathlib.Core.Path.{◌≡◌, sym, ◌∙◌, ap, subst}
use mathlib.Core.Bool.{Bool, true, false, ◌||◌}
use mathlib.Core.List.{List, [], ◌∷◌, ◌++◌}
use Prim.Native.Nat.{ℕ, ◌+◌, ◌*◌, ◌≤◌, ◌<◌}
use native.Mathlib.Omega.{arith}
use lib.Dec.{eqb, ltb}
use lib.ListN.{get_or}
use borrow.Author.Tests.{lt-ltb, le-ltb}
use Rattle.choice.specs.Choice.{pick}
use Rattle.state.specs.State.{stack_places}
use mathlib.Core.Logic.{◌⊎◌, inl, inr}
use Rattle.control.specs.declared.Paged.{Paged}
use Rattle.forms.specs.declared.Form.{Form}
use Rattle.forms.specs.declared.Form.TheVariants.{Defer, Return, Invalid}
use Rattle.machine.specs.Shape.{Source, Target, register, branch, call, act, go, source_of, slot_of}
use Rattle.machine.specs.Step.{word_count, in_page}
use Rattle.forms.specs.Forms.{shape_is}
use Rattle.flow.specs.Flow.{Pass}
use Rattle.facts.specs.declared.Cell.{Cell}
use Rattle.facts.specs.Facts.{unknown, source_fact, result_fact, with_carry_fact, put_fact, Span, span_of, may_be_zero, may_be_other}
use Rattle.facts.specs.Record.{cell_of}
use Rattle.transfer.specs.Passes.{over, point_at, toward, word_passes}
use Rattle.callers.specs.declared.Values.{Values}
use Rattle.callers.specs.Callers.{span_is}
use Rattle.passing.specs.Passing.{Ready, Passed}
use Rattle.transfer.proofs.Lists.{over_none, over_more, over_still}
use Rattle.passing.proofs.Passing.{passed_as, passed_none, passed_then, passed_higher}

-- NZT: on, and then away
pub branch_passed : (image asked : List ℕ) (depth pc : ℕ) (facts : List ℕ) (source : Source) (page i : ℕ) (v : Values) (a : ℕ) {t u w m n o : List ℕ} {r s : Bool}
    → span_is v ≡ span_of source facts → a ≡ in_page page pc i
    → Passed image asked depth t m (pick (eqb v.low 0) (toward (word_count image) depth (pc + 1) facts) []) u n r
    → Passed image asked depth u n (pick (ltb 1 (v.low + v.count)) (toward (word_count image) depth a facts) []) w o s
    → Passed image asked depth t m (word_passes (word_count image) depth pc facts (go source (branch page i))) w o (r || s)
unfolding word_passes
branch_passed image asked depth pc facts source page i v a {t = t} {w = w} {m = m} {o = o} {r = r} {s = s} e at p q =
    subst
    (λ (x : Span). Passed image asked depth t m
    (pick (may_be_zero x) (toward (word_count image) depth (pc + 1) facts) [] ++
    pick (may_be_other x) (toward (word_count image) depth (in_page page pc i) facts) [])
    w o (r || s))
    e
    (subst
    (λ (x : ℕ). Passed image asked depth t m
    (pick (eqb v.low 0) (toward (word_count image) depth (pc + 1) facts) [] ++
    pick (ltb 1 (v.low + v.count)) (toward (word_count image) depth x facts) [])
    w o (r || s))
    at (passed_then p q))

-- CALL: the first n values of AUX
abbrev pub called_to : ℕ → ℕ → List ℕ → ℕ → ℕ → ℕ → List (Pass Cell)
called_to words depth facts i low n = over low n (λ v. true) (λ v. toward words (depth + 1) (v * 256 + i) facts)

module _ (image asked : List ℕ) (depth : ℕ) (facts : List ℕ) (i : ℕ) (low : ℕ) where
  pub call_begins : {t m : List ℕ} → Ready image asked t m → Passed image asked depth t m (called_to (word_count image) depth facts i low 0) t m false
  call_begins g = passed_as (over_none (λ v. true) (λ v. toward (word_count image) (depth + 1) (v * 256 + i) facts) low) (passed_none g)

  pub call_next : (k : ℕ) {t u w m n o : List ℕ} {r s : Bool} → Passed image asked depth t m (called_to (word_count image) depth facts i low k) u n r
      → Passed image asked (depth + 1) u n (toward (word_count image) (depth + 1) ((low + k) * 256 + i) facts) w o s
      → Passed image asked depth t m (called_to (word_count image) depth facts i low (k + 1)) w o (r || s)
  call_next k p q =
      passed_as (over_more (λ v. true) (λ v. toward (word_count image) (depth + 1) (v * 256 + i) facts) low k)
      (passed_then p (passed_higher (omega arith) q))

  -- pages past the image get nothing
  pub call_still : (k n : ℕ) {t u m o : List ℕ} {r : Bool} → k ≤ n → word_count image ≤ (low + k) * 256 + i
      → Passed image asked depth t m (called_to (word_count image) depth facts i low k) u o r
      → Passed image asked depth t m (called_to (word_count image) depth facts i low n) u o r
  call_still k n l out p =
      passed_as
      (over_still (λ v. true) (λ v. toward (word_count image) (depth + 1) (v * 256 + i) facts) low k n l
      (λ j a b. ap (λ (x : Bool). pick x (record { target = point_at (word_count image) (depth + 1) ((low + j) * 256 + i); cell = cell_of true facts } ∷ []) []) (le-ltb ((low + j) * 256 + i) (word_count image) (omega (arith, a, out)))))
      p

-- all of them, at a depth below 8
pub call_passed : (image asked : List ℕ) (depth pc : ℕ) (facts : List ℕ) (i : ℕ) (v : Values) (k : ℕ) {t u m n : List ℕ} {r : Bool}
    → span_is v ≡ span_of (source_of 0 0 0 0) facts → depth < 8 → k ≡ v.count
    → Passed image asked depth t m (called_to (word_count image) depth facts i v.low k) u n r
    → Passed image asked depth t m (word_passes (word_count image) depth pc facts (go (register 0 0 0) (call i))) u n r
unfolding word_passes slot_of
call_passed image asked depth pc facts i v k {t = t} {u = u} {m = m} {n = n} {r = r} e h all p =
    rw (lt-ltb depth stack_places h)
    (subst (λ (x : Span). Passed image asked depth t m (called_to (word_count image) depth facts i x.low x.count) u n r) e
    (subst (λ (x : ℕ). Passed image asked depth t m (called_to (word_count image) depth facts i v.low x) u n r) all p))

-- none at depth 8
pub call_none : (image asked : List ℕ) (depth pc : ℕ) (facts : List ℕ) (i : ℕ) (t m : List ℕ) → depth ≡ 8 → Ready image asked t m
    → Passed image asked depth t m (word_passes (word_count image) depth pc facts (go (register 0 0 0) (call i))) t m false
unfolding word_passes
call_none image asked depth pc facts i t m e g = rw (le-ltb depth stack_places (omega arith)) (passed_none g)

-- ---- acts
pub act_passed : (image asked : List ℕ) (depth pc : ℕ) (facts : List ℕ) (source : Source) (op : ℕ) (target : Target) {x : ℕ} {after : List ℕ} {t u m n : List ℕ} {r : Bool}
    → x ≡ source_fact source facts → after ≡ put_fact target (result_fact op (get_or facts 0 unknown) x) (with_carry_fact op (get_or facts 0 unknown) x facts)
    → Passed image asked depth t m (toward (word_count image) depth (pc + 1) after) u n r
    → Passed image asked depth t m (word_passes (word_count image) depth pc facts (act source op target)) u n r
unfolding word_passes
act_passed image asked depth pc facts source op target {x = x} e h p =
    passed_as
    (ap (toward (word_count image) depth (pc + 1))
    (sym (h ∙ ap (λ (y : ℕ). put_fact target (result_fact op (get_or facts 0 unknown) y) (with_carry_fact op (get_or facts 0 unknown) y facts)) e))) p

-- ---- what a form's case passes on, the form does
pub retold : (image asked : List ℕ) (depth pc : ℕ) (facts : List ℕ) {t u m n : List ℕ} {r : Bool} {f g : Form} → f ≡ g
    → Passed image asked depth t m (word_passes (word_count image) depth pc facts (shape_is g)) u n r
    → Passed image asked depth t m (word_passes (word_count image) depth pc facts (shape_is f)) u n r
retold image asked depth pc facts e p = passed_as (ap (λ (f : Form). word_passes (word_count image) depth pc facts (shape_is f)) e) p

-- an XEC, a RET and an invalid word pass on nothing of their own
pub none_told : (image asked : List ℕ) (depth pc : ℕ) (facts : List ℕ) {t m : List ℕ} {f : Form}
    → ((w : Paged) × (f ≡ Defer w)) ⊎ ((f ≡ Return) ⊎ (f ≡ Invalid)) → Ready image asked t m
    → Passed image asked depth t m (word_passes (word_count image) depth pc facts (shape_is f)) t m false
unfolding word_passes
none_told image asked depth pc facts (inl (w, e)) g = retold image asked depth pc facts e (passed_none g)
none_told image asked depth pc facts (inr (inl e)) g = retold image asked depth pc facts e (passed_none g)
none_told image asked depth pc facts (inr (inr e)) g = retold image asked depth pc facts e (passed_none g)
