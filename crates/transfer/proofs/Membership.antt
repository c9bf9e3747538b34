-- Members of lists: what holds of each element holds of a member, and what is told at a place is told of the whole.
use mathlib.Core.Path.{◌≡◌, refl, sym, ap, subst, ◌∙◌}
use mathlib.Core.Logic.{◌≢◌}
use mathlib.Core.Bool.{Bool, true, false, ◌||◌, false≢true, or-true}
use mathlib.Core.List.{List, [], ◌∷◌, ◌++◌}
use Prim.Native.Nat.{ℕ, zero, suc, ◌+◌, ◌≤◌, ◌<◌}
use native.Mathlib.Decide.{ℕ_discrete}
use native.Mathlib.Omega.{arith}
use lib.Dec.{ltb}
use Rattle.choice.specs.Choice.{pick}
use Rattle.choice.proofs.Laws.{and_first, and_second, or_cases}
use Rattle.flow.proofs.Each.{Each, none, also, each_append}
use Rattle.machine.specs.Shape.{Shape}
use Rattle.transfer.specs.Passes.{over, over_down, some}
use Rattle.transfer.specs.Findings.{all_below}

-- two numbers are the same or not
pub same_or : {P : Type 0} (j k : ℕ) → (j ≡ k → P) → (j ≢ k → P) → P
same_or {P} j k p q = told (ℕ_discrete j k)
  where
    told : Dec (j ≡ k) → P
    told (yes e) = p e
    told (no e) = q e

module _ {A : Type 0} where
  pub data In (x : A) : List A → Type 0 where
    first : {xs : List A} → In x (x ∷ xs)
    later : {y : A} {xs : List A} → In x xs → In x (y ∷ xs)

  pub each_at : {P : A → Type 0} {x : A} {xs : List A} → Each P xs → In x xs → P x
  each_at (also p e) first = p
  each_at (also p e) (later i) = each_at e i
  each_at {P = P} none x4 = elim x4 [ ]

  pub each_from : {P : A → Type 0} (xs : List A) → ((x : A) → In x xs → P x) → Each P xs
  each_from [] f = none
  each_from (x ∷ xs) f = also (f x first) (each_from xs (λ y i. f y (later i)))

  pub in_left : {x : A} {xs : List A} (ys : List A) → In x xs → In x (xs ++ ys)
  in_left ys first = first
  in_left ys (later i) = later (in_left ys i)

  pub in_right : {x : A} (xs : List A) {ys : List A} → In x ys → In x (xs ++ ys)
  in_right [] i = i
  in_right (y ∷ xs) i = later (in_right xs i)

  -- the list that a test chooses
  pub in_picked : {x : A} (b : Bool) {xs : List A} → b ≡ true → In x xs → In x (pick b xs [])
  in_picked true h i = i
  in_picked false h i = absurd (false≢true h)

  pub each_picked : {P : A → Type 0} (b : Bool) {xs : List A} → b ≡ true → Each P (pick b xs []) → Each P xs
  each_picked true h e = e
  each_picked false h e = absurd (false≢true h)

  -- the list of a place that passes the test
  in_place : {x : A} (test : ℕ → Bool) (f : ℕ → List A) {j k : ℕ} → j ≡ k → test k ≡ true → In x (f k)
      → In x (pick (test j) (f j) [])
  in_place {x} test f {k} e t i = subst (λ n. In x (pick (test n) (f n) [])) (sym e) (in_picked (test k) t i)

  -- a place that passes the test: ascending and descending
  pub in_over : {x : A} (from n : ℕ) (test : ℕ → Bool) (f : ℕ → List A) (k : ℕ)
      → from ≤ k → k < from + n → test k ≡ true → In x (f k) → In x (over from n test f)
  unfolding over
  in_over from zero test f k low high t i = absurd (omega arith)
  in_over from (suc n) test f k low high t i =
      same_or from k (λ e. in_left _ (in_place test f e t i))
      (λ e. in_right (pick (test from) (f from) []) (in_over (suc from) n test f k (omega arith) (omega arith) t i))

  pub in-over_down : {x : A} (n : ℕ) (test : ℕ → Bool) (f : ℕ → List A) (k : ℕ)
      → k < n → test k ≡ true → In x (f k) → In x (over_down n test f)
  unfolding over_down
  in-over_down zero test f k high t i = absurd (omega arith)
  in-over_down (suc n) test f k high t i =
      same_or n k (λ e. in_left _ (in_place test f e t i))
      (λ e. in_right (pick (test n) (f n) []) (in-over_down n test f k (omega arith) t i))

  pub each_over : {P : A → Type 0} (from n : ℕ) (test : ℕ → Bool) (f : ℕ → List A) (k : ℕ)
      → from ≤ k → k < from + n → test k ≡ true → Each P (over from n test f) → Each P (f k)
  each_over from n test f k low high t e = each_from (f k) (λ x i. each_at e (in_over from n test f k low high t i))

  pub each-over_down : {P : A → Type 0} (n : ℕ) (test : ℕ → Bool) (f : ℕ → List A) (k : ℕ)
      → k < n → test k ≡ true → Each P (over_down n test f) → Each P (f k)
  each-over_down n test f k high t e = each_from (f k) (λ x i. each_at e (in-over_down n test f k high t i))

-- a member that passes a test
pub some_in : (test : Shape → Bool) {w : Shape} {ws : List Shape} → In w ws → test w ≡ true → some test ws ≡ true
unfolding some
some_in test {w} (first {xs}) t = ap (λ b. b || some test xs) t
some_in test (later {y} {xs} i) t = ap (λ b. test y || b) (some_in test i t) ∙ or-true (test y)

chosen : (b : Bool) {c : Bool} → b ≡ true → pick b c true ≡ true → c ≡ true
chosen true e h = h
chosen false e h = absurd (false≢true e)

-- the address after each place that passes the test is below N
pub below_at : (words n : ℕ) (test : ℕ → Bool) (k : ℕ) → all_below words n test ≡ true → k < n → test k ≡ true
    → ltb (k + 1) words ≡ true
unfolding all_below
below_at words zero test k h high t = absurd (omega arith)
below_at words (suc n) test k h high t =
    let here = pick (test n) (ltb (n + 1) words) true in
    let rest = all_below words n test in
    same_or n k
    (λ e. chosen (test k) t (subst (λ j. pick (test j) (ltb (j + 1) words) true ≡ true) e (and_first here rest h)))
    (λ e. below_at words n test k (and_second here rest h) (omega arith) t)

-- ---- what is told of every place is told of the whole, and a member comes from a place
module _ {A : Type 0} where
  pub each_pick : {P : A → Type 0} (b : Bool) {xs : List A} → (b ≡ true → Each P xs) → Each P (pick b xs [])
  each_pick true f = f refl
  each_pick false f = none

  pub over_each : {P : A → Type 0} (from n : ℕ) (test : ℕ → Bool) (f : ℕ → List A)
      → ((k : ℕ) → from ≤ k → k < from + n → test k ≡ true → Each P (f k)) → Each P (over from n test f)
  unfolding over
  over_each from zero test f h = none
  over_each from (suc n) test f h =
      each_append (each_pick (test from) (λ t. h from (omega arith) (omega arith) t))
      (over_each (suc from) n test f (λ k low high t. h k (omega arith) (omega arith) t))

  pub down_each : {P : A → Type 0} (n : ℕ) (test : ℕ → Bool) (f : ℕ → List A)
      → ((k : ℕ) → k < n → test k ≡ true → Each P (f k)) → Each P (over_down n test f)
  unfolding over_down
  down_each zero test f h = none
  down_each (suc n) test f h =
      each_append (each_pick (test n) (λ t. h n (omega arith) t)) (down_each n test f (λ k high t. h k (omega arith) t))

  pub in_one : {x y : A} → In x (y ∷ []) → x ≡ y
  in_one first = refl
  in_one {y = y} (later x4) = elim x4 [ ]

  pub in_append : {P : Type 0} {x : A} (xs ys : List A) → In x (xs ++ ys) → (In x xs → P) → (In x ys → P) → P
  in_append [] ys i p q = q i
  in_append (y ∷ xs) ys first p q = p first
  in_append (y ∷ xs) ys (later i) p q = in_append xs ys i (λ j. p (later j)) q

  pub in_pick : {P : Type 0} {x : A} (b : Bool) {xs : List A} → In x (pick b xs []) → (b ≡ true → In x xs → P) → P
  in_pick true i p = p refl i
  in_pick {P = P} false {xs = xs} i p = elim i [ ]

  pub over_in : {P : Type 0} {x : A} (from n : ℕ) (test : ℕ → Bool) (f : ℕ → List A) → In x (over from n test f)
      → ((k : ℕ) → from ≤ k → k < from + n → test k ≡ true → In x (f k) → P) → P
  unfolding over
  over_in from (suc n) test f i p =
      in_append (pick (test from) (f from) []) (over (suc from) n test f) i
      (λ j. in_pick (test from) j (λ t m. p from (omega arith) (omega arith) t m))
      (λ j. over_in (suc from) n test f j (λ k low high t m. p k (omega arith) (omega arith) t m))
  over_in {P = P} from zero test f i p = elim i [ ]

pub some_out : {P : Type 0} (test : Shape → Bool) (ws : List Shape) → some test ws ≡ true → ((w : Shape) → In w ws → test w ≡ true → P) → P
unfolding some
some_out test [] h p = absurd (false≢true h)
some_out test (w ∷ ws) h p =
    or_cases (test w) (some test ws) h (λ t. p w first t) (λ s. some_out test ws s (λ v i t. p v (later i) t))
