-- What the test for a well-formed state says, both ways. Assumes nothing.
use mathlib.Core.Path.{◌≡◌, refl}
use mathlib.Core.Logic.{◌⊎◌, inl, inr, ⊎_elim}
use mathlib.Core.Bool.{Bool, true, false, ◌&&◌, ◌||◌, or-true, and-eq-true_iff}
use mathlib.Core.List.{List}
use Prim.Native.Nat.{ℕ, zero, suc, ◌≤◌, ◌<◌}
use native.Mathlib.Nat.{not-suc-le-zero}
use native.Mathlib.Omega.{arith}
use borrow.Author.Count.{below_more}
use borrow.Author.Tests.{ltb-true, ltb-false, leb-true, eqb-true, eqb-false, lt-ltb, le-leb, eq-eqb}
use lib.Dec.{leb, ltb, eqb}
use lib.ListN.{get_or}
use Rattle.choice.specs.Choice.{pick}
use Rattle.state.specs.declared.State.{State}
use Rattle.state.specs.State.{stack_places, overflow_slot, flag_fits, place_fits, stack_fits, is_stop, well_formed}
use Rattle.state.specs.State.{Formed, zero_state}

-- ---- tests

both : (a b : Bool) → (a && b) ≡ true → (a ≡ true) × (b ≡ true)
both a b = (and-eq-true_iff a b).0

and : (a b : Bool) → a ≡ true → b ≡ true → (a && b) ≡ true
and a b p q = (and-eq-true_iff a b).1 (p, q)

either : (a b : Bool) → (a || b) ≡ true → (a ≡ true) ⊎ (b ≡ true)
either true b h = inl refl
either false b h = inr h

-- a choice that holds, holds on one of its sides
picked : (t x y : Bool) → pick t x y ≡ true → ((t ≡ true) × (x ≡ true)) ⊎ ((t ≡ false) × (y ≡ true))
picked true x y h = inl (refl, h)
picked false x y h = inr (refl, h)

-- a choice holds where each side does under its test
picks : (t x y : Bool) → (t ≡ true → x ≡ true) → (t ≡ false → y ≡ true) → pick t x y ≡ true
picks true x y f g = f refl
picks false x y f g = g refl

-- ---- the parts, over plain numbers

module _ (flag pc pending : ℕ) where
  flag_parts : flag_fits flag pc pending ≡ true
      → (flag < 2) × (flag ≡ 1 → pc < 8192) × (flag ≡ 1 → pending < 8192) × (flag ≡ 0 → pending ≡ 0)
  flag_parts h =
      ⊎_elim (λ w. omega (arith, eqb-true))
      (λ w.
      let p = both (eqb flag 1) (ltb pc 8192 && ltb pending 8192) w.1 in
      let q = both (ltb pc 8192) (ltb pending 8192) p.1 in
      omega (arith, eqb-true, ltb-true))
      (picked (eqb flag 0) (eqb pending 0) (eqb flag 1 && (ltb pc 8192 && ltb pending 8192)) h)

  flag_fits_lem : flag < 2 → (flag ≡ 1 → pc < 8192) → (flag ≡ 1 → pending < 8192) → (flag ≡ 0 → pending ≡ 0)
      → flag_fits flag pc pending ≡ true
  flag_fits_lem a b c d =
      picks (eqb flag 0) (eqb pending 0) (eqb flag 1 && (ltb pc 8192 && ltb pending 8192))
      (λ h. eq-eqb pending 0 (d (eqb-true flag 0 h)))
      (λ h.
      let one : flag ≡ 1 = omega (arith, eqb-false flag 0 h) in
      simp (eq-eqb flag 1 one, lt-ltb pc 8192 (b one), lt-ltb pending 8192 (c one)))

module _ (depth place r : ℕ) where
  place_parts : place_fits depth place r ≡ true → (place < depth → r ≤ 8192) × (depth ≤ place → r ≡ 0)
  place_parts h =
      ⊎_elim (λ w. omega (arith, ltb-true, leb-true)) (λ w. omega (arith, ltb-false, eqb-true))
      (picked (ltb place depth) (leb r 8192) (eqb r 0) h)

  place_fits_lem : (place < depth → r ≤ 8192) → (depth ≤ place → r ≡ 0) → place_fits depth place r ≡ true
  place_fits_lem a b =
      picks (ltb place depth) (leb r 8192) (eqb r 0) (λ h. le-leb r 8192 (a (ltb-true place depth h)))
      (λ h. eq-eqb r 0 (b (ltb-false place depth h)))

module _ (depth : ℕ) (returns : List ℕ) where
  stack_parts : (n : ℕ) → stack_fits depth returns n ≡ true
      → (k : ℕ) → k < n → place_fits depth k (get_or returns k 0) ≡ true
  stack_parts zero h k l = absurd (not-suc-le-zero l)
  stack_parts (suc n) h k l =
      let p = both (stack_fits depth returns n) (place_fits depth n (get_or returns n 0)) h in
      below_more (λ k. place_fits depth k (get_or returns k 0) ≡ true) n (stack_parts n p.0) p.1 k (omega arith)

  stack_fits_lem : (n : ℕ) → ((k : ℕ) → k < n → place_fits depth k (get_or returns k 0) ≡ true)
      → stack_fits depth returns n ≡ true
  stack_fits_lem zero f = refl
  stack_fits_lem (suc n) f =
      and (stack_fits depth returns n) (place_fits depth n (get_or returns n 0)) (stack_fits_lem n (λ k l. f k (omega arith)))
      (f n (omega arith))

stop_parts : (n : ℕ) → is_stop n ≡ true → (n ≡ 0) ⊎ ((21 ≤ n) × (n ≤ 27))
stop_parts n h =
    ⊎_elim (λ w. inl (eqb-true n 0 w))
    (λ w. let p = both (leb 21 n) (leb n 27) w in inr (leb-true 21 n p.0, leb-true n 27 p.1))
    (either (eqb n 0) (leb 21 n && leb n 27) h)

stop_fits : (n : ℕ) → (n ≡ 0) ⊎ ((21 ≤ n) × (n ≤ 27)) → is_stop n ≡ true
stop_fits n (inl e) = rw (eq-eqb n 0 e)
stop_fits n (inr w) = simp (le-leb 21 n w.0, le-leb n 27 w.1) (or-true (eqb n 0))

-- ---- the state

-- the five tests of a well-formed state
five : (a b c d e : Bool) → ((a && b) && ((c && d) && e)) ≡ true
    → (a ≡ true) × (b ≡ true) × (c ≡ true) × (d ≡ true) × (e ≡ true)
five a b c d e h =
    let p = both (a && b) ((c && d) && e) h in
    let q = both (c && d) e p.1 in
    ((both a b p.0).0, (both a b p.0).1, (both c d q.0).0, (both c d q.0).1, q.1)

pub well_formed_parts : (s : State) → well_formed s ≡ true → Formed s
unfolding well_formed
well_formed_parts s h =
    let t = five (flag_fits s.flag s.pc s.pending) (ltb (get_or s.values overflow_slot 0) 2)
    (leb s.depth stack_places) (stack_fits s.depth s.returns stack_places) (is_stop s.stop) h in
    let f = flag_parts s.flag s.pc s.pending t.0 in
    let d = leb-true s.depth stack_places t.2 in
    let place = stack_parts s.depth s.returns stack_places t.3 in
    record {
      flag = f.0;
      pc = f.1;
      pending = f.2;
      idle = f.3;
      overflow = ltb-true (get_or s.values overflow_slot 0) 2 t.1;
      depth = d;
      used = λ k l. (place_parts s.depth k (get_or s.returns k 0) (place k (omega arith))).0 l;
      free = λ k l. (place_parts s.depth k (get_or s.returns k 0) (place k l)).1;
      stop = stop_parts s.stop t.4;
    }

pub formed : (s : State) → Formed s → well_formed s ≡ true
unfolding well_formed
formed s f =
    simp (
      flag_fits_lem s.flag s.pc s.pending f.flag f.pc f.pending f.idle,
      lt-ltb (get_or s.values overflow_slot 0) 2 f.overflow,
      le-leb s.depth stack_places f.depth,
      stack_fits_lem s.depth s.returns stack_places
          (λ k l. place_fits_lem s.depth k (get_or s.returns k 0) (f.used k) (f.free k l)),
      stop_fits s.stop f.stop,
    )

pub reset_formed : Formed zero_state
unfolding well_formed
reset_formed = well_formed_parts zero_state refl
