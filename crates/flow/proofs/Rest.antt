-- The clauses of the definitions as equations, and the forms in which a loop uses them: what is left to do now gives what
-- there was to do at first. A flag that a loop carries stands before the `||`.
use mathlib.Core.Path.{◌≡◌, refl, sym, ◌∙◌, ap, ap₂}
use mathlib.Core.Bool.{Bool, true, false, ◌&&◌, ◌||◌, and_assoc, and-true, or_assoc, or-false}
use mathlib.Core.List.{List, [], ◌∷◌, ◌++◌}
use Prim.Native.Nat.{ℕ, zero, suc, ◌+◌, ◌-◌, ◌≤◌, ◌<◌}
use native.Mathlib.Omega.{arith}
use Rattle.flow.specs.Flow.{Pass, Space, join_at, changes_at, join_all, changes_all, turn, turn_changes, sweep_from, sweep_changes_from, sweep, sweeps, all_covered, weights}

module _ {Tb C : Type 0} (S : Space Tb C) where
  -- ---- passes
  pub join_all-nil : (t : Tb) → join_all S t [] ≡ t
  unfolding join_all
  join_all-nil t = refl

  pub join_all-cons : (t : Tb) (p : Pass C) (ps : List (Pass C)) → join_all S t (p ∷ ps) ≡ join_all S (join_at S t p) ps
  unfolding join_all
  join_all-cons t p ps = refl

  pub join_all-one : (t : Tb) (p : Pass C) → join_all S t (p ∷ []) ≡ join_at S t p
  unfolding join_all
  join_all-one t p = refl

  pub join_all-append : (t : Tb) (ps qs : List (Pass C)) → join_all S t (ps ++ qs) ≡ join_all S (join_all S t ps) qs
  unfolding join_all
  join_all-append t [] qs = refl
  join_all-append t (p ∷ ps) qs = join_all-append (join_at S t p) ps qs

  pub changes_all-nil : (t : Tb) → changes_all S t [] ≡ false
  unfolding changes_all
  changes_all-nil t = refl

  pub changes_all-cons : (t : Tb) (p : Pass C) (ps : List (Pass C))
      → changes_all S t (p ∷ ps) ≡ changes_at S t p || changes_all S (join_at S t p) ps
  unfolding changes_all
  changes_all-cons t p ps = refl

  pub changes_all-one : (t : Tb) (p : Pass C) → changes_all S t (p ∷ []) ≡ changes_at S t p
  unfolding changes_all
  changes_all-one t p = or-false (changes_at S t p)

  pub changes_all-append : (t : Tb) (ps qs : List (Pass C))
      → changes_all S t (ps ++ qs) ≡ changes_all S t ps || changes_all S (join_all S t ps) qs
  unfolding changes_all join_all
  changes_all-append t [] qs = refl
  changes_all-append t (p ∷ ps) qs =
      ap (λ b. changes_at S t p || b) (changes_all-append (join_at S t p) ps qs)
      ∙ sym (or_assoc (changes_at S t p) (changes_all S (join_at S t p) ps) (changes_all S (join_all S (join_at S t p) ps) qs))

  pub changes_all-rest : (f : Bool) (t : Tb) (p : Pass C) (ps : List (Pass C))
      → f || changes_all S t (p ∷ ps) ≡ (f || changes_at S t p) || changes_all S (join_at S t p) ps
  unfolding changes_all
  changes_all-rest f t p ps = sym (or_assoc f (changes_at S t p) (changes_all S (join_at S t p) ps))

  pub changes_all-append-rest : (f : Bool) (t : Tb) (ps qs : List (Pass C))
      → f || changes_all S t (ps ++ qs) ≡ (f || changes_all S t ps) || changes_all S (join_all S t ps) qs
  changes_all-append-rest f t ps qs =
      ap (λ b. f || b) (changes_all-append t ps qs) ∙ sym (or_assoc f (changes_all S t ps) (changes_all S (join_all S t ps) qs))

  pub all_covered-nil : (t : Tb) → all_covered S t [] ≡ true
  unfolding all_covered
  all_covered-nil t = refl

  pub all_covered-cons : (t : Tb) (p : Pass C) (ps : List (Pass C))
      → all_covered S t (p ∷ ps) ≡ S.covers (S.at t p.target) p.cell && all_covered S t ps
  unfolding all_covered
  all_covered-cons t p ps = refl

  pub all_covered-one : (t : Tb) (p : Pass C) → all_covered S t (p ∷ []) ≡ S.covers (S.at t p.target) p.cell
  unfolding all_covered
  all_covered-one t p = and-true (S.covers (S.at t p.target) p.cell)

  pub all_covered-append : (t : Tb) (ps qs : List (Pass C)) → all_covered S t (ps ++ qs) ≡ all_covered S t ps && all_covered S t qs
  unfolding all_covered
  all_covered-append t [] qs = refl
  all_covered-append t (p ∷ ps) qs =
      let here = S.covers (S.at t p.target) p.cell in
      ap (λ b. here && b) (all_covered-append t ps qs) ∙ sym (and_assoc here (all_covered S t ps) (all_covered S t qs))

  -- ---- turns
  pub sweep_from-zero : (t : Tb) (i : ℕ) → sweep_from S t i 0 ≡ t
  unfolding sweep_from
  sweep_from-zero t i = refl

  pub sweep_from-suc : (t : Tb) (i n : ℕ) → sweep_from S t i (suc n) ≡ sweep_from S (turn S t i) (suc i) n
  unfolding sweep_from
  sweep_from-suc t i n = refl

  pub sweep_changes_from-zero : (t : Tb) (i : ℕ) → sweep_changes_from S t i 0 ≡ false
  unfolding sweep_changes_from
  sweep_changes_from-zero t i = refl

  pub sweep_changes_from-suc : (t : Tb) (i n : ℕ)
      → sweep_changes_from S t i (suc n) ≡ turn_changes S t i || sweep_changes_from S (turn S t i) (suc i) n
  unfolding sweep_changes_from
  sweep_changes_from-suc t i n = refl

  -- a cell that passes nothing on leaves the table
  pub turn_nothing : (t : Tb) (i : ℕ) → S.pass t i ≡ [] → turn S t i ≡ t
  turn_nothing t i h = ap (join_all S t) h ∙ join_all-nil t

  pub turn_changes-nothing : (t : Tb) (i : ℕ) → S.pass t i ≡ [] → turn_changes S t i ≡ false
  turn_changes-nothing t i h = ap (changes_all S t) h ∙ changes_all-nil t

  -- a loop from cell i up to the end e: no turn is left at the end, and before it the turn of cell i comes first
  pub sweep_from-end : (t : Tb) (i e : ℕ) → e ≤ i → sweep_from S t i (e - i) ≡ t
  sweep_from-end t i e h =
      let none : e - i ≡ 0 = omega arith in
      ap (sweep_from S t i) none ∙ sweep_from-zero t i

  pub sweep_from-rest : (t : Tb) (i e : ℕ) → i < e
      → sweep_from S t i (e - i) ≡ sweep_from S (turn S t i) (i + 1) (e - (i + 1))
  sweep_from-rest t i e h =
      let more : e - i ≡ suc (e - (i + 1)) = omega arith in
      let next : suc i ≡ i + 1 = omega arith in
      ap (sweep_from S t i) more ∙ sweep_from-suc t i (e - (i + 1))
      ∙ ap (λ j. sweep_from S (turn S t i) j (e - (i + 1))) next

  pub sweep_changes_from-end : (f : Bool) (t : Tb) (i e : ℕ) → e ≤ i → f || sweep_changes_from S t i (e - i) ≡ f
  sweep_changes_from-end f t i e h =
      let none : e - i ≡ 0 = omega arith in
      ap (λ n. f || sweep_changes_from S t i n) none ∙ ap (λ b. f || b) (sweep_changes_from-zero t i) ∙ or-false f

  pub sweep_changes_from-rest : (f : Bool) (t : Tb) (i e : ℕ) → i < e
      → f || sweep_changes_from S t i (e - i) ≡ (f || turn_changes S t i) || sweep_changes_from S (turn S t i) (i + 1) (e - (i + 1))
  sweep_changes_from-rest f t i e h =
      let more : e - i ≡ suc (e - (i + 1)) = omega arith in
      let next : suc i ≡ i + 1 = omega arith in
      ap (λ n. f || sweep_changes_from S t i n) more ∙ ap (λ b. f || b) (sweep_changes_from-suc t i (e - (i + 1)))
      ∙ sym (or_assoc f (turn_changes S t i) (sweep_changes_from S (turn S t i) (suc i) (e - (i + 1))))
      ∙ ap (λ j. (f || turn_changes S t i) || sweep_changes_from S (turn S t i) j (e - (i + 1))) next

  -- the turns of m cells and then of n more
  pub sweep_from-add : (t : Tb) (i m n : ℕ) → sweep_from S t i (m + n) ≡ sweep_from S (sweep_from S t i m) (i + m) n
  sweep_from-add t i zero n =
      let same : 0 + n ≡ n = omega arith in
      let here : i ≡ i + 0 = omega arith in
      ap (sweep_from S t i) same ∙ ap₂ (λ u j. sweep_from S u j n) (sym (sweep_from-zero t i)) here
  sweep_from-add t i (suc m) n =
      let more : suc m + n ≡ suc (m + n) = omega arith in
      let here : suc i + m ≡ i + suc m = omega arith in
      ap (sweep_from S t i) more ∙ sweep_from-suc t i (m + n) ∙ sweep_from-add (turn S t i) (suc i) m n
      ∙ ap₂ (λ u j. sweep_from S u j n) (sym (sweep_from-suc t i m)) here

  pub sweep_changes_from-add : (t : Tb) (i m n : ℕ)
      → sweep_changes_from S t i (m + n) ≡ sweep_changes_from S t i m || sweep_changes_from S (sweep_from S t i m) (i + m) n
  unfolding sweep_from sweep_changes_from
  sweep_changes_from-add t i zero n =
      let same : 0 + n ≡ n = omega arith in
      let here : i ≡ i + 0 = omega arith in
      ap (sweep_changes_from S t i) same ∙ ap (λ j. sweep_changes_from S t j n) here
  sweep_changes_from-add t i (suc m) n =
      let more : suc m + n ≡ suc (m + n) = omega arith in
      let here : suc i + m ≡ i + suc m = omega arith in
      let now = turn_changes S t i in
      let soon = sweep_changes_from S (turn S t i) (suc i) m in
      ap (sweep_changes_from S t i) more ∙ ap (λ b. now || b) (sweep_changes_from-add (turn S t i) (suc i) m n)
      ∙ sym (or_assoc now soon (sweep_changes_from S (sweep_from S (turn S t i) (suc i) m) (suc i + m) n))
      ∙ ap (λ j. (now || soon) || sweep_changes_from S (sweep_from S (turn S t i) (suc i) m) j n) here

  -- the last of the turns stands apart
  pub sweep_from-last : (t : Tb) (i n : ℕ) → sweep_from S t i (n + 1) ≡ turn S (sweep_from S t i n) (i + n)
  sweep_from-last t i n =
      sweep_from-add t i n 1 ∙ sweep_from-suc (sweep_from S t i n) (i + n) 0
      ∙ sweep_from-zero (turn S (sweep_from S t i n) (i + n)) (suc (i + n))

  pub sweep_changes_from-last : (t : Tb) (i n : ℕ)
      → sweep_changes_from S t i (n + 1) ≡ sweep_changes_from S t i n || turn_changes S (sweep_from S t i n) (i + n)
  unfolding sweep_changes_from
  sweep_changes_from-last t i n = sweep_changes_from-add t i n 1
      ∙ ap (λ b. sweep_changes_from S t i n || b) (or-false (turn_changes S (sweep_from S t i n) (i + n)))

  -- ---- sweeps
  pub sweeps_zero : (t : Tb) → sweeps S 0 t ≡ t
  unfolding sweeps
  sweeps_zero t = refl

  pub sweeps_suc : (k : ℕ) (t : Tb) → sweeps S (suc k) t ≡ sweep S (sweeps S k t)
  unfolding sweeps
  sweeps_suc k t = refl

  -- the first of the sweeps stands apart
  pub sweeps_first : (k : ℕ) (t : Tb) → sweeps S (suc k) t ≡ sweeps S k (sweep S t)
  unfolding sweeps
  sweeps_first zero t = refl
  sweeps_first (suc k) t = ap (sweep S) (sweeps_first k t)

  pub sweeps_add : (j k : ℕ) (t : Tb) → sweeps S (j + k) t ≡ sweeps S j (sweeps S k t)
  sweeps_add zero k t =
      let same : 0 + k ≡ k = omega arith in
      ap (λ n. sweeps S n t) same ∙ sym (sweeps_zero (sweeps S k t))
  sweeps_add (suc j) k t =
      let more : suc j + k ≡ suc (j + k) = omega arith in
      ap (λ n. sweeps S n t) more ∙ sweeps_suc (j + k) t ∙ ap (sweep S) (sweeps_add j k t)
      ∙ sym (sweeps_suc j (sweeps S k t))

  -- ---- weights
  pub weights_zero : (t : Tb) → weights S t 0 ≡ 0
  unfolding weights
  weights_zero t = refl

  pub weights_suc : (t : Tb) (n : ℕ) → weights S t (suc n) ≡ weights S t n + S.weight (S.at t n)
  unfolding weights
  weights_suc t n = refl
