-- What changes the table lowers the sum of the weights, and nothing raises it.
use mathlib.Core.Path.{◌≡◌, refl, sym, ap, subst}
use mathlib.Core.Bool.{Bool, true, false, not, ◌||◌}
use mathlib.Core.List.{List, [], ◌∷◌}
use Prim.Native.Nat.{ℕ, zero, suc, ◌+◌, ◌*◌, ◌≤◌, ◌<◌}
use native.Mathlib.Decide.{ℕ_discrete}
use native.Mathlib.Omega.{arith}
use Rattle.choice.specs.Choice.{pick}
use Rattle.flow.specs.Flow.{Pass, Space, join_at, changes_at, join_all, changes_all, turn, turn_changes, sweep_from, sweep_changes_from, sweep, sweep_changes, weights, sum_weights}
use Rattle.flow.proofs.Each.{Each, none, also}
use Rattle.flow.proofs.Lawful.{Lawful, Fits}
use Rattle.flow.proofs.Grows.{join_at-good, join_at-cell, join_at-target, turn_good}
use Rattle.flow.proofs.Still.{join_covered}

-- 1 where something changed, else 0
abbrev pub bit : Bool → ℕ
bit b = pick b 1 0

bit_or_lem : (a b : Bool) → bit (a || b) ≤ bit a + bit b
bit_or_lem true true = omega arith
bit_or_lem true false = omega arith
bit_or_lem false b = omega arith

module _ {Tb C : Type 0} (S : Space Tb C) where
  -- where no cell weighs more the sum is no more, and where one of them weighs d less so does the sum
  pub weights_le : (t u : Tb) (n : ℕ) → ((i : ℕ) → i < n → S.weight (S.at u i) ≤ S.weight (S.at t i))
      → weights S u n ≤ weights S t n
  unfolding weights
  weights_le t u zero h = omega arith
  weights_le t u (suc n) h =
      let before : weights S u n ≤ weights S t n = weights_le t u n (λ i l. h i (omega arith)) in
      let last : S.weight (S.at u n) ≤ S.weight (S.at t n) = h n (omega arith) in
      omega arith

  pub weights_less : (t u : Tb) (d k n : ℕ) → k < n → d + S.weight (S.at u k) ≤ S.weight (S.at t k)
      → ((i : ℕ) → i < n → S.weight (S.at u i) ≤ S.weight (S.at t i)) → d + weights S u n ≤ weights S t n
  unfolding weights
  weights_less t u d k zero l s h = absurd (omega arith)
  weights_less t u d k (suc n) l s h = go (ℕ_discrete k n) (λ m. weights_less t u d k n m s (λ i j. h i (omega arith)))
    where
      go : Dec (k ≡ n) → (k < n → d + weights S u n ≤ weights S t n)
          → d + (weights S u n + S.weight (S.at u n)) ≤ weights S t n + S.weight (S.at t n)
      go (yes e) later =
          let before : weights S u n ≤ weights S t n = weights_le t u n (λ i j. h i (omega arith)) in
          let last : d + S.weight (S.at u n) ≤ S.weight (S.at t n) =
          subst (λ m. d + S.weight (S.at u m) ≤ S.weight (S.at t m)) e s in
          omega arith
      go (no ne) later =
          let before : d + weights S u n ≤ weights S t n = later (omega arith) in
          let last : S.weight (S.at u n) ≤ S.weight (S.at t n) = h n (omega arith) in
          omega arith

  -- the sum is at most the number of cells times the largest weight
  pub weights_bound : (t : Tb) (b n : ℕ) → ((i : ℕ) → i < n → S.weight (S.at t i) ≤ b) → weights S t n ≤ n * b
  unfolding weights
  weights_bound t b zero h = omega arith
  weights_bound t b (suc n) h =
      let before : weights S t n ≤ n * b = weights_bound t b n (λ i l. h i (omega arith)) in
      let last : S.weight (S.at t n) ≤ b = h n (omega arith) in
      omega arith

  pub sum_weights-bound : (t : Tb) (b : ℕ) → ((i : ℕ) → i < S.size → S.weight (S.at t i) ≤ b)
      → sum_weights S t ≤ S.size * b
  sum_weights-bound t b h = weights_bound t b S.size h

module _ {Tb C : Type 0} {S : Space Tb C} {Good : Tb → Type 0} {Fine : C → Type 0} (L : Lawful S Good Fine) where
  -- ---- each of join, passes, turn and sweep: 1 where it changes something, with the sum after it, is at most the sum before
  pub join_weight : (a b : C) → Fine a → Fine b → bit (not (S.covers a b)) + S.weight (S.join a b) ≤ S.weight a
  join_weight a b fa fb = go (S.covers a b) refl
    where
      go : (c : Bool) → S.covers a b ≡ c → bit (not (S.covers a b)) + S.weight (S.join a b) ≤ S.weight a
      go true e =
          let same : S.weight (S.join a b) ≡ S.weight a = ap S.weight (join_covered L a b fa fb e) in
          let none : bit (not (S.covers a b)) ≡ 0 = ap (λ c. bit (not c)) e in
          omega arith
      go false e =
          let falls : S.weight (S.join a b) < S.weight a = L.weight_falls a b fa fb e in
          let one : bit (not (S.covers a b)) ≡ 1 = ap (λ c. bit (not c)) e in
          omega arith

  pub join_at-weights : (t : Tb) (p : Pass C) → Good t → Fits S Fine p
      → bit (changes_at S t p) + sum_weights S (join_at S t p) ≤ sum_weights S t
  join_at-weights t p g f =
      weights_less S t (join_at S t p) (bit (changes_at S t p)) p.target S.size f.inside here
      (join_at-cell L t p g f (λ j c. S.weight c ≤ S.weight (S.at t j)) (omega (arith, falls)) (λ j l. omega arith))
    where
      falls : bit (changes_at S t p) + S.weight (S.join (S.at t p.target) p.cell) ≤ S.weight (S.at t p.target)
      falls = join_weight (S.at t p.target) p.cell (L.at_fine t p.target g f.inside) f.fine

      here : bit (changes_at S t p) + S.weight (S.at (join_at S t p) p.target) ≤ S.weight (S.at t p.target)
      here = subst (λ c. bit (changes_at S t p) + S.weight c ≤ S.weight (S.at t p.target))
          (sym (join_at-target L t p g f)) falls

  -- two changes one after the other
  chain : (a b : Bool) (w₀ w₁ w₂ : ℕ) → bit a + w₁ ≤ w₀ → bit b + w₂ ≤ w₁ → bit (a || b) + w₂ ≤ w₀
  chain a b w₀ w₁ w₂ g h = omega (arith, bit_or_lem a b)

  pub join_all-weights : (t : Tb) (ps : List (Pass C)) → Good t → Each (Fits S Fine) ps
      → bit (changes_all S t ps) + sum_weights S (join_all S t ps) ≤ sum_weights S t
  unfolding changes_all join_all
  join_all-weights t [] g none = omega arith
  join_all-weights t (p ∷ ps) g (also f fs) =
      chain (changes_at S t p) (changes_all S (join_at S t p) ps) (sum_weights S t) (sum_weights S (join_at S t p))
      (sum_weights S (join_all S (join_at S t p) ps)) (join_at-weights t p g f)
      (join_all-weights (join_at S t p) ps (join_at-good L t p f g) fs)

  pub turn_weights : (t : Tb) (i : ℕ) → Good t → i < S.size
      → bit (turn_changes S t i) + sum_weights S (turn S t i) ≤ sum_weights S t
  turn_weights t i g l = join_all-weights t (S.pass t i) g (L.pass_fits t i g l)

  pub sweep_from-weights : (t : Tb) (i n : ℕ) → i + n ≤ S.size → Good t
      → bit (sweep_changes_from S t i n) + sum_weights S (sweep_from S t i n) ≤ sum_weights S t
  unfolding sweep_from sweep_changes_from
  sweep_from-weights t i zero l g = omega arith
  sweep_from-weights t i (suc n) l g =
      let m : i < S.size = omega arith in
      chain (turn_changes S t i) (sweep_changes_from S (turn S t i) (suc i) n) (sum_weights S t) (sum_weights S (turn S t i))
      (sum_weights S (sweep_from S (turn S t i) (suc i) n)) (turn_weights t i g m)
      (sweep_from-weights (turn S t i) (suc i) n (omega arith) (turn_good L t i m g))

  pub sweep_weights : (t : Tb) → Good t → bit (sweep_changes S t) + sum_weights S (sweep S t) ≤ sum_weights S t
  sweep_weights t g = sweep_from-weights t 0 S.size (omega arith) g

  -- no sweep raises the sum, and one that changes something lowers it
  pub sweep_falls : (t : Tb) → Good t → sweep_changes S t ≡ true → sum_weights S (sweep S t) < sum_weights S t
  sweep_falls t g h =
      let one : bit (sweep_changes S t) ≡ 1 = ap bit h in
      omega (arith, sweep_weights t g)

  pub sweep_not_raised : (t : Tb) → Good t → sum_weights S (sweep S t) ≤ sum_weights S t
  sweep_not_raised t g = omega (arith, sweep_weights t g)

  -- a sweep that leaves the table as it is changed nothing
  pub fixed_still : (t : Tb) → Good t → sweep S t ≡ t → sweep_changes S t ≡ false
  fixed_still t g h = go (sweep_changes S t) refl
    where
      go : (b : Bool) → sweep_changes S t ≡ b → sweep_changes S t ≡ false
      go false e = e
      go true e =
          let same : sum_weights S (sweep S t) ≡ sum_weights S t = ap (sum_weights S) h in
          absurd (omega (arith, sweep_falls t g e))
