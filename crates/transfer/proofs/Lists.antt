-- Laws of the lists of passes: what is gathered at places in turn, and what the words of a cell pass on.
use mathlib.Core.Path.{◌≡◌, refl, sym, ◌∙◌, ap, ap₂}
use mathlib.Core.Bool.{Bool, true, false, not, false≢true}
use mathlib.Core.List.{List, [], ◌∷◌, ◌++◌, append_assoc, append-nil}
use Prim.Native.Nat.{ℕ, zero, suc, ◌+◌, ◌-◌, ◌≤◌, ◌<◌}
use native.Mathlib.Decide.{ℕ_discrete}
use native.Mathlib.Omega.{arith}
use Rattle.choice.specs.Choice.{pick}
use Rattle.machine.specs.Shape.{jump, branch, defer, call, return, Shape, act, go, invalid}
use Rattle.flow.specs.Flow.{Pass}
use Rattle.facts.specs.declared.Cell.{Cell}
use Rattle.transfer.specs.Passes.{over, over_down, is_defer, word_passes, all_passes}

module _ {A : Type 0} (test : ℕ → Bool) (f : ℕ → List A) where
  -- the last place stands apart
  over_suc : (from n : ℕ) → over from (suc n) test f ≡ over from n test f ++ pick (test (from + n)) (f (from + n)) []
  unfolding over
  over_suc from zero =
      let here : from ≡ from + 0 = omega arith in
      append-nil (pick (test from) (f from) []) ∙ ap (λ (k : ℕ). pick (test k) (f k) []) here
  over_suc from (suc n) =
      let here : suc from + n ≡ from + suc n = omega arith in
      ap (λ (l : List A). pick (test from) (f from) [] ++ l) (over_suc (suc from) n)
      ∙ sym (append_assoc (pick (test from) (f from) []) (over (suc from) n test f) (pick (test (suc from + n)) (f (suc from + n)) []))
      ∙ ap (λ (k : ℕ). (pick (test from) (f from) [] ++ over (suc from) n test f) ++ pick (test k) (f k) []) here

  pub over_more : (from n : ℕ) → over from (n + 1) test f ≡ over from n test f ++ pick (test (from + n)) (f (from + n)) []
  over_more from n =
      let next : n + 1 ≡ suc n = omega arith in
      ap (λ (k : ℕ). over from k test f) next ∙ over_suc from n

  -- from where on nothing is gathered, it may be left
  pub over_still : (from n k : ℕ) → n ≤ k → ((j : ℕ) → n ≤ j → j < k → pick (test (from + j)) (f (from + j)) [] ≡ []) → over from k test f ≡ over from n test f
  over_still from n zero l h = let none : n ≡ 0 = omega arith in ap (λ (j : ℕ). over from j test f) (sym none)
  over_still from n (suc k) l h = go (ℕ_discrete n (suc k)) (λ m. over_still from n k m (λ j a b. h j a (omega arith)))
    where
      go : Dec (n ≡ suc k) → (n ≤ k → over from k test f ≡ over from n test f) → over from (suc k) test f ≡ over from n test f
      go (yes e) later = ap (λ (j : ℕ). over from j test f) (sym e)
      go (no ne) later =
          over_suc from k ∙ ap (λ (l : List A). over from k test f ++ l) (h k (omega (arith, ne)) (omega arith))
          ∙ append-nil (over from k test f) ∙ later (omega (arith, ne))

  pub over_none : (from : ℕ) → over from 0 test f ≡ []
  unfolding over
  over_none from = refl

  -- going down, the first place is the highest
  pub down_none : over_down 0 test f ≡ []
  unfolding over_down
  down_none = refl

  pub down_more : (n : ℕ) → 0 < n → over_down n test f ≡ pick (test (n - 1)) (f (n - 1)) [] ++ over_down (n - 1) test f
  unfolding over_down
  down_more zero h = absurd (omega arith)
  down_more (suc n) h =
      let here : suc n - 1 ≡ n = omega arith in
      ap (λ (k : ℕ). pick (test k) (f k) [] ++ over_down k test f) (sym here)

  -- places that fail the test gather nothing
  pub down_skip : (n k : ℕ) → k ≤ n → ((j : ℕ) → k ≤ j → j < n → test j ≡ false) → over_down n test f ≡ over_down k test f
  unfolding over_down
  down_skip zero k l h = let none : k ≡ 0 = omega arith in ap (λ (j : ℕ). over_down j test f) (sym none)
  down_skip (suc n) k l h = go (ℕ_discrete k (suc n)) (λ m. down_skip n k m (λ j a b. h j a (omega arith)))
    where
      go : Dec (k ≡ suc n) → (k ≤ n → over_down n test f ≡ over_down k test f) → over_down (suc n) test f ≡ over_down k test f
      go (yes e) later = ap (λ (j : ℕ). over_down j test f) (sym e)
      go (no ne) later =
          ap (λ (b : Bool). pick b (f n) [] ++ over_down n test f) (h n (omega (arith, ne)) (omega arith)) ∙ later (omega (arith, ne))

-- tests that agree below n gather the same there
pub down_same : {A : Type 0} (test test' : ℕ → Bool) (f : ℕ → List A) (n : ℕ) → ((k : ℕ) → k < n → test k ≡ test' k) → over_down n test f ≡ over_down n test' f
unfolding over_down
down_same test test' f zero h = refl
down_same test test' f (suc n) h =
    ap₂ (λ (b : Bool) (l : List _). pick b (f n) [] ++ l) (h n (omega arith)) (down_same test test' f n (λ k l. h k (omega arith)))

module _ (words depth pc : ℕ) (facts : List ℕ) where
  pub all_none : all_passes words depth pc facts [] ≡ []
  unfolding all_passes
  all_none = refl

  pub all_one : (w : Shape) → all_passes words depth pc facts (w ∷ []) ≡ word_passes words depth pc facts w
  unfolding all_passes
  all_one w = append-nil (word_passes words depth pc facts w)

  pub all_append : (ws vs : List Shape) → all_passes words depth pc facts (ws ++ vs) ≡ all_passes words depth pc facts ws ++ all_passes words depth pc facts vs
  unfolding all_passes
  all_append [] vs = refl
  all_append (w ∷ ws) vs =
      ap (λ (l : List (Pass Cell)). word_passes words depth pc facts w ++ l) (all_append ws vs)
      ∙ sym (append_assoc (word_passes words depth pc facts w) (all_passes words depth pc facts ws) (all_passes words depth pc facts vs))

  -- an XEC passes nothing on by itself
  pub defer_none : (w : Shape) → is_defer w ≡ true → word_passes words depth pc facts w ≡ []
  unfolding word_passes
  defer_none (act source op target) h = absurd (false≢true h)
  defer_none (go source (jump a)) h = absurd (false≢true h)
  defer_none (go source (branch page i)) h = absurd (false≢true h)
  defer_none (go source (defer page i)) h = refl
  defer_none (go source (call i)) h = absurd (false≢true h)
  defer_none (go source return) h = absurd (false≢true h)
  defer_none invalid h = absurd (false≢true h)

  -- a word that is asked whether it is an XEC passes on the same
  pub not_defer : (w : Shape) → all_passes words depth pc facts (pick (not (is_defer w)) (w ∷ []) []) ≡ word_passes words depth pc facts w
  not_defer w = go (is_defer w) refl
    where
      go : (b : Bool) → is_defer w ≡ b → all_passes words depth pc facts (pick (not b) (w ∷ []) []) ≡ word_passes words depth pc facts w
      go true e = all_none ∙ sym (defer_none w e)
      go false e = all_one w
