-- The order and the join of facts, place by place.
use mathlib.Core.Path.{◌≡◌, refl, sym, ◌∙◌, ap}
use mathlib.Core.Bool.{Bool, true, false, ◌&&◌, ◌||◌, or-true}
use mathlib.Core.List.{List, [], ◌∷◌}
use Prim.Native.Nat.{ℕ, zero, suc, ◌+◌, ◌≤◌}
use native.Mathlib.Omega.{arith}
use lib.Dec.{eqb}
use lib.ListN.{length, get_or}
use lib.Seq.{ext_get_or}
use borrow.Author.Tests.{eqb-true, eq-eqb}
use Rattle.choice.specs.Choice.{pick}
use Rattle.choice.proofs.Laws.{pick_cases, and_both, and_first, and_second, or_cases}
use Rattle.facts.specs.Facts.{unknown, is_known, knows_no_more, all_know_no_more, join_fact, join_facts, known_count}

pub or_right : (a : Bool) {b : Bool} → b ≡ true → (a || b) ≡ true
or_right a h = rw h (or-true a)

-- ---- one fact

pub no_more_unknown : (f g : ℕ) → f ≡ unknown → knows_no_more f g ≡ true
no_more_unknown f g e = rw (eq-eqb f unknown e)

pub no_more_same : (f g : ℕ) → f ≡ g → knows_no_more f g ≡ true
no_more_same f g e = or_right (eqb f unknown) (eq-eqb f g e)

pub no_more_cases : {P : Type 0} (f g : ℕ) → knows_no_more f g ≡ true → (f ≡ unknown → P) → (f ≡ g → P) → P
no_more_cases f g h p q = or_cases (eqb f unknown) (eqb f g) h (λ e. p (eqb-true f unknown e)) (λ e. q (eqb-true f g e))

pub no_more_trans : (f g h : ℕ) → knows_no_more f g ≡ true → knows_no_more g h ≡ true → knows_no_more f h ≡ true
no_more_trans f g h p q =
    no_more_cases f g p (λ e. no_more_unknown f h e)
    (λ e. no_more_cases g h q (λ e'. no_more_unknown f h (e ∙ e')) (λ e'. no_more_same f h (e ∙ e')))

pub no_more_antisym : (f g : ℕ) → knows_no_more f g ≡ true → knows_no_more g f ≡ true → f ≡ g
no_more_antisym f g p q =
    no_more_cases f g p (λ e. no_more_cases g f q (λ e'. e ∙ sym e') (λ e'. sym e')) (λ e. e)

pub join_no_more_left : (f g : ℕ) → knows_no_more (join_fact f g) f ≡ true
join_no_more_left f g = pick_cases (λ (x : ℕ). knows_no_more x f ≡ true) (eqb f g) (λ e. no_more_same f f refl) (λ e. no_more_unknown unknown f refl)

pub join_no_more_right : (f g : ℕ) → knows_no_more (join_fact f g) g ≡ true
join_no_more_right f g =
    pick_cases (λ (x : ℕ). knows_no_more x g ≡ true) (eqb f g) (λ e. no_more_same f g (eqb-true f g e)) (λ e. no_more_unknown unknown g refl)

pub join_no_more_least : (h f g : ℕ) → knows_no_more h f ≡ true → knows_no_more h g ≡ true → knows_no_more h (join_fact f g) ≡ true
join_no_more_least h f g p q =
    no_more_cases h f p (λ e. no_more_unknown h (join_fact f g) e)
    (λ e. no_more_cases h g q (λ e'. no_more_unknown h (join_fact f g) e')
    (λ e'. no_more_same h (join_fact f g) (e ∙ sym (rw (eq-eqb f g (sym e ∙ e'))))))

pub join_bound : (f g : ℕ) → f ≤ unknown → join_fact f g ≤ unknown
join_bound f g h = pick_cases (λ (x : ℕ). x ≤ unknown) (eqb f g) (λ e. h) (λ e. omega arith)

-- ---- all facts

pub all_at : (fs gs : List ℕ) → all_know_no_more fs gs ≡ true → (k : ℕ) → knows_no_more (get_or fs k unknown) (get_or gs k unknown) ≡ true
unfolding all_know_no_more
all_at [] gs h k = refl
all_at (f ∷ fs) [] h zero = and_first (knows_no_more f unknown) (all_know_no_more fs []) h
all_at (f ∷ fs) [] h (suc k) = all_at fs [] (and_second (knows_no_more f unknown) (all_know_no_more fs []) h) k
all_at (f ∷ fs) (g ∷ gs) h zero = and_first (knows_no_more f g) (all_know_no_more fs gs) h
all_at (f ∷ fs) (g ∷ gs) h (suc k) = all_at fs gs (and_second (knows_no_more f g) (all_know_no_more fs gs) h) k

pub all_from : (fs gs : List ℕ) → ((k : ℕ) → knows_no_more (get_or fs k unknown) (get_or gs k unknown) ≡ true) → all_know_no_more fs gs ≡ true
unfolding all_know_no_more
all_from [] gs h = refl
all_from (f ∷ fs) [] h = and_both (h zero) (all_from fs [] (λ k. h (suc k)))
all_from (f ∷ fs) (g ∷ gs) h = and_both (h zero) (all_from fs gs (λ k. h (suc k)))

pub join_at_lem : (fs gs : List ℕ) (k : ℕ) → get_or (join_facts fs gs) k unknown ≡ join_fact (get_or fs k unknown) (get_or gs k unknown)
unfolding join_facts
join_at_lem [] gs k = sym (pick_cases (λ (x : ℕ). x ≡ unknown) (eqb unknown (get_or gs k unknown)) (λ e. refl) (λ e. refl))
join_at_lem (f ∷ fs) [] zero = refl
join_at_lem (f ∷ fs) [] (suc k) = join_at_lem fs [] k
join_at_lem (f ∷ fs) (g ∷ gs) zero = refl
join_at_lem (f ∷ fs) (g ∷ gs) (suc k) = join_at_lem fs gs k

pub join_length : (fs gs : List ℕ) → length (join_facts fs gs) ≡ length fs
unfolding join_facts
join_length [] gs = refl
join_length (f ∷ fs) [] = ap suc (join_length fs [])
join_length (f ∷ fs) (g ∷ gs) = ap suc (join_length fs gs)

pub all_refl : (fs : List ℕ) → all_know_no_more fs fs ≡ true
all_refl fs = all_from fs fs (λ k. no_more_same (get_or fs k unknown) (get_or fs k unknown) refl)

pub all_trans : (fs gs hs : List ℕ) → all_know_no_more fs gs ≡ true → all_know_no_more gs hs ≡ true → all_know_no_more fs hs ≡ true
all_trans fs gs hs p q =
    all_from fs hs (λ k. no_more_trans (get_or fs k unknown) (get_or gs k unknown) (get_or hs k unknown) (all_at fs gs p k) (all_at gs hs q k))

pub all_antisym : (fs gs : List ℕ) → length fs ≡ length gs → all_know_no_more fs gs ≡ true → all_know_no_more gs fs ≡ true → fs ≡ gs
all_antisym fs gs same p q =
    ext_get_or unknown fs gs same (λ k h. no_more_antisym (get_or fs k unknown) (get_or gs k unknown) (all_at fs gs p k) (all_at gs fs q k))

pub all_join_left : (fs gs : List ℕ) → all_know_no_more (join_facts fs gs) fs ≡ true
all_join_left fs gs =
    all_from (join_facts fs gs) fs
    (λ k. rw (join_at_lem fs gs k) (join_no_more_left (get_or fs k unknown) (get_or gs k unknown)))

pub all_join_right : (fs gs : List ℕ) → all_know_no_more (join_facts fs gs) gs ≡ true
all_join_right fs gs =
    all_from (join_facts fs gs) gs
    (λ k. rw (join_at_lem fs gs k) (join_no_more_right (get_or fs k unknown) (get_or gs k unknown)))

pub all_join_least : (hs fs gs : List ℕ) → all_know_no_more hs fs ≡ true → all_know_no_more hs gs ≡ true → all_know_no_more hs (join_facts fs gs) ≡ true
all_join_least hs fs gs p q =
    all_from hs (join_facts fs gs)
    (λ k. rw (join_at_lem fs gs k) (join_no_more_least (get_or hs k unknown) (get_or fs k unknown) (get_or gs k unknown) (all_at hs fs p k) (all_at hs gs q k)))

-- ---- how many facts are known

abbrev weight_of : ℕ → ℕ
weight_of f = pick (is_known f) 1 0

one_falls : (f g : ℕ) → pick (knows_no_more f g) 0 1 + weight_of (join_fact f g) ≤ weight_of f
one_falls f g = go (eqb f unknown) (eqb f g) refl refl
  where
    go : (a b : Bool) → eqb f unknown ≡ a → eqb f g ≡ b → pick (knows_no_more f g) 0 1 + weight_of (join_fact f g) ≤ weight_of f
    go a true ea eb = rw (eb, or-true (eqb f unknown)) (omega arith)
    go true false ea eb = rw (eb, ea) (omega arith)
    go false false ea eb = rw (eb, ea) (omega arith)

fall_one : (b : Bool) (x y w v : ℕ) → pick b 0 1 + x ≤ y → (c : Bool) → pick c 0 1 + w ≤ v → pick (b && c) 0 1 + (x + w) ≤ y + v
fall_one true x y w v p c q = omega arith
fall_one false x y w v p true q = omega arith
fall_one false x y w v p false q = omega arith

pub known_falls : (fs gs : List ℕ) → pick (all_know_no_more fs gs) 0 1 + known_count (join_facts fs gs) ≤ known_count fs
unfolding all_know_no_more join_facts known_count
known_falls [] gs = omega arith
known_falls (f ∷ fs) [] =
    fall_one (knows_no_more f unknown) (weight_of (join_fact f unknown)) (weight_of f) (known_count (join_facts fs [])) (known_count fs)
    (one_falls f unknown) (all_know_no_more fs []) (known_falls fs [])
known_falls (f ∷ fs) (g ∷ gs) =
    fall_one (knows_no_more f g) (weight_of (join_fact f g)) (weight_of f) (known_count (join_facts fs gs)) (known_count fs)
    (one_falls f g) (all_know_no_more fs gs) (known_falls fs gs)

pub known_bound : (fs : List ℕ) → known_count fs ≤ length fs
unfolding known_count
known_bound [] = omega arith
known_bound (f ∷ fs) =
    let h = known_bound fs in
    pick_cases (λ (x : ℕ). x + known_count fs ≤ suc (length fs)) (is_known f) (λ e. omega arith) (λ e. omega arith)
