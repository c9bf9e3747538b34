-- Laws of a choice by a test, of questions in order, and of tests joined by "and" and "or".
use mathlib.Core.Bool.{Bool, true, false, ◌&&◌, ◌||◌, false≢true}
use mathlib.Core.List.{List, [], ◌∷◌}
use mathlib.Core.Path.{◌≡◌, refl}
use Prim.Native.Nat.{ℕ}
use Rattle.choice.specs.Choice.{pick, Question, asked}

module _ {A : Type 0} (P : A → Type 0) where
  -- what holds of both values holds of the choice
  pub pick_both : (b : Bool) {x y : A} → P x → P y → P (pick b x y)
  pick_both true p q = p
  pick_both false p q = q

  -- the same, where each value has its test
  pub pick_cases : (b : Bool) {x y : A} → (b ≡ true → P x) → (b ≡ false → P y) → P (pick b x y)
  pick_cases true p q = p refl
  pick_cases false p q = q refl

module _ {A B : Type 0} (R : A → B → Type 0) where
  -- two choices by one test, side by side
  pub pick_beside : (b : Bool) {x y : A} {u v : B} → (b ≡ true → R x u) → (b ≡ false → R y v) → R (pick b x y) (pick b u v)
  pick_beside true p q = p refl
  pick_beside false p q = q refl

module _ {A : Type 0} (R : A → Bool → Type 0) where
  -- a choice beside its own test
  pub pick_test : (b : Bool) {x y : A} → (b ≡ true → R x true) → (b ≡ false → R y false) → R (pick b x y) b
  pick_test true p q = p refl
  pick_test false p q = q refl

  -- a choice beside its test or another
  pub pick_or : (b o : Bool) {x y : A} → (b ≡ true → R x true) → (b ≡ false → R y o) → R (pick b x y) (b || o)
  pick_or true o p q = p refl
  pick_or false o p q = q refl

-- what holds of the value and of each refusal holds of what the questions give
pub asked_holds : {A : Type 0} (P : A → Type 0) (qs : List Question) {value : A} {refuse : ℕ → A}
    → P value → ((n : ℕ) → P (refuse n)) → P (asked qs value refuse)
asked_holds P [] p r = p
asked_holds P (q ∷ qs) p r = pick_both P q.answer (asked_holds P qs p r) (r q.number)

-- the same questions put twice, side by side
pub asked_beside : {A B : Type 0} (R : A → B → Type 0) (qs : List Question) {value : A} {refuse : ℕ → A} {other : B} {deny : ℕ → B}
    → R value other → ((n : ℕ) → R (refuse n) (deny n)) → R (asked qs value refuse) (asked qs other deny)
asked_beside R [] p r = p
asked_beside R (q ∷ qs) p r = pick_beside R q.answer (λ _. asked_beside R qs p r) (λ _. r q.number)

pub and_both : {a b : Bool} → a ≡ true → b ≡ true → (a && b) ≡ true
and_both p q = simp (p, q)

pub and_first : (a b : Bool) → (a && b) ≡ true → a ≡ true
and_first true b h = refl
and_first false b h = h

pub and_second : (a b : Bool) → (a && b) ≡ true → b ≡ true
and_second true b h = h
and_second false b h = absurd (false≢true h)

pub or_cases : {P : Type 0} (a b : Bool) → (a || b) ≡ true → (a ≡ true → P) → (b ≡ true → P) → P
or_cases true b h p q = p refl
or_cases false b h p q = q h
