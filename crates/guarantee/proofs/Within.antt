-- Values that lie within facts: slot by slot, after a write on both sides, and within facts that know no more.
use mathlib.Core.Path.{◌≡◌, refl, sym, ap, subst, ◌∙◌}
use mathlib.Core.Bool.{Bool, true, false, ◌||◌, not, false≢true, or-true}
use mathlib.Core.List.{List, [], ◌∷◌}
use Prim.Native.Nat.{ℕ, zero, suc, ◌≤◌}
use native.Mathlib.Omega.{arith}
use lib.Dec.{eqb}
use lib.ListN.{length, get_or, set}
use borrow.Author.Tests.{eqb-true, eq-eqb}
use Rattle.choice.proofs.Laws.{and_both, and_first, and_second, or_cases}
use Rattle.facts.specs.Facts.{unknown, is_known, allows, within, knows_no_more, all_know_no_more}

-- a fact that is the value allows it; a known fact that allows a value is the value
pub allows_same : {f v : ℕ} → f ≡ v → allows f v ≡ true
allows_same {f} {v} e = ap (λ b. eqb f unknown || b) (eq-eqb f v e) ∙ or-true (eqb f unknown)

pub known_same : (f v : ℕ) → is_known f ≡ true → allows f v ≡ true → f ≡ v
known_same f v k h = eqb-true f v (told (eqb f unknown) k h)
  where
    told : (b : Bool) → not b ≡ true → (b || eqb f v) ≡ true → eqb f v ≡ true
    told true k h = absurd (false≢true k)
    told false k h = h

pub within_at : (facts values : List ℕ) (k : ℕ) → within facts values ≡ true → allows (get_or facts k unknown) (get_or values k 0) ≡ true
unfolding within
within_at [] values k h = refl
within_at (f ∷ fs) [] zero h = and_first (allows f 0) (within fs []) h
within_at (f ∷ fs) [] (suc k) h = within_at fs [] k (and_second (allows f 0) (within fs []) h)
within_at (f ∷ fs) (v ∷ vs) zero h = and_first (allows f v) (within fs vs) h
within_at (f ∷ fs) (v ∷ vs) (suc k) h = within_at fs vs k (and_second (allows f v) (within fs vs) h)

pub within_set : (facts values : List ℕ) (k f v : ℕ) → length facts ≤ length values → within facts values ≡ true → allows f v ≡ true
    → within (set facts k f) (set values k v) ≡ true
unfolding within
within_set [] values k f v l h a = refl
within_set (g ∷ gs) [] k f v l h a = absurd (omega arith)
within_set (g ∷ gs) (u ∷ us) zero f v l h a = and_both a (and_second (allows g u) (within gs us) h)
within_set (g ∷ gs) (u ∷ us) (suc k) f v l h a =
    and_both (and_first (allows g u) (within gs us) h)
    (within_set gs us k f v (omega arith) (and_second (allows g u) (within gs us) h) a)

-- a fact that knows no more allows what the other allows
pub no_more_allows : (g f v : ℕ) → knows_no_more g f ≡ true → allows f v ≡ true → allows g v ≡ true
no_more_allows g f v n a =
    or_cases (eqb g unknown) (eqb g f) n (λ u. ap (λ b. b || eqb g v) u)
    (λ e. subst (λ x. allows x v ≡ true) (sym (eqb-true g f e)) a)

pub within_no_more : (gs fs values : List ℕ) → all_know_no_more gs fs ≡ true → within fs values ≡ true → within gs values ≡ true
unfolding within all_know_no_more
within_no_more [] fs values n h = refl
within_no_more (g ∷ gs) [] [] n h =
    and_both (no_more_allows g unknown 0 (and_first (knows_no_more g unknown) (all_know_no_more gs []) n) refl)
    (within_no_more gs [] [] (and_second (knows_no_more g unknown) (all_know_no_more gs []) n) h)
within_no_more (g ∷ gs) [] (v ∷ vs) n h =
    and_both (no_more_allows g unknown v (and_first (knows_no_more g unknown) (all_know_no_more gs []) n) refl)
    (within_no_more gs [] vs (and_second (knows_no_more g unknown) (all_know_no_more gs []) n) refl)
within_no_more (g ∷ gs) (f ∷ fs) [] n h =
    and_both (no_more_allows g f 0 (and_first (knows_no_more g f) (all_know_no_more gs fs) n) (and_first (allows f 0) (within fs []) h))
    (within_no_more gs fs [] (and_second (knows_no_more g f) (all_know_no_more gs fs) n) (and_second (allows f 0) (within fs []) h))
within_no_more (g ∷ gs) (f ∷ fs) (v ∷ vs) n h =
    and_both (no_more_allows g f v (and_first (knows_no_more g f) (all_know_no_more gs fs) n) (and_first (allows f v) (within fs vs) h))
    (within_no_more gs fs vs (and_second (knows_no_more g f) (all_know_no_more gs fs) n) (and_second (allows f v) (within fs vs) h))
