-- Laws of the access map. Assumes nothing.
use mathlib.Core.Path.{◌≡◌, refl, ap, ◌∙◌}
use mathlib.Core.Bool.{Bool, true, false, ◌||◌, or-true}
use mathlib.Core.List.{List, [], ◌∷◌}
use Prim.Native.Nat.{ℕ, zero, suc, ◌+◌, ◌*◌, ◌≤◌, ◌<◌}
use native.Mathlib.Decide.{ℕ_discrete}
use native.Mathlib.Omega.{arith}
use borrow.Author.Tests.{eq-eqb, ne_eqb}
use lib.Dec.{eqb}
use lib.ListN.{length}
use Rattle.choice.specs.Choice.{pick}
use Rattle.map.specs.Map.{Counts, Sets, Refused, map_length, in_set, readable, writable, listed}
use Rattle.map.specs.Map.{count_below, count_of, NothingReadable, counted, counts_of, counting}

-- a set has at most n of the first n addresses
pub count_le : (map : List ℕ) (k n : ℕ) → count_below map k n ≤ n
unfolding count_below
count_le map k zero = omega arith
count_le map k (suc n) = step (in_set map k n) (count_le map k n)
  where
    step : (b : Bool) → count_below map k n ≤ n → count_below map k n + pick b 1 0 ≤ suc n
    step true h = omega arith
    step false h = omega arith

-- where none of the first n addresses is counted, none of them is in the set
none_counted : (map : List ℕ) (k n : ℕ) → count_below map k n ≡ 0 → (a : ℕ) → a < n → in_set map k a ≡ false
unfolding count_below
none_counted map k zero h a below = absurd (omega arith)
none_counted map k (suc n) h a below = by (in_set map k n) refl h (ℕ_discrete a n) (none_counted map k n)
  where
    by : (b : Bool) → in_set map k n ≡ b → count_below map k n + pick b 1 0 ≡ 0 → Dec (a ≡ n)
        → (count_below map k n ≡ 0 → (a : ℕ) → a < n → in_set map k a ≡ false) → in_set map k a ≡ false
    by true e h d before = absurd (omega arith)
    by false e h (yes same) before = rw same e
    by false e h (no other) before = before (omega arith) a (omega arith)

-- an empty readable set has no address
pub nothing_readable : (map : List ℕ) (bank : ℕ) → NothingReadable map bank → (a : ℕ) → a < 256 → readable map bank a ≡ false
nothing_readable map bank = none_counted map (2 * bank) 256

-- an address that may be read or written is listed
pub readable_listed : (map : List ℕ) (bank a : ℕ) → readable map bank a ≡ true → listed map bank a ≡ true
readable_listed map bank a h = ap (λ (b : Bool). b || writable map bank a) h

pub writable_listed : (map : List ℕ) (bank a : ℕ) → writable map bank a ≡ true → listed map bank a ≡ true
writable_listed map bank a h = ap (λ (b : Bool). readable map bank a || b) h ∙ or-true (readable map bank a)

-- ---- counting the sets

pub counted_refused : (map : List ℕ) → (length map ≡ map_length → ⊥) → Refused ≡ counted map
unfolding counted
counted_refused map h = rw (ne_eqb (length map) map_length h)

pub counted_sets : (map : List ℕ) {a b c d : ℕ} → length map ≡ map_length
    → a ≡ count_of map 0 → b ≡ count_of map 1 → c ≡ count_of map 2 → d ≡ count_of map 3 → Sets a b c d ≡ counted map
unfolding counted
counted_sets map h p q r s = rw (eq-eqb (length map) map_length h) (cc)

-- the paper's numbers of what is counted are those that the bytes give
pub counts_counting : (map : List ℕ) → counts_of (counted map) ≡ counting map
unfolding counted counting
counts_counting map =
    either (count_of map 0) (count_of map 1) (count_of map 2) (count_of map 3) (eqb (length map) map_length)
  where
    either : (a b c d : ℕ) (t : Bool)
        → counts_of (pick t (Sets a b c d) Refused) ≡ pick t (a ∷ b ∷ c ∷ d ∷ []) (12 ∷ [])
    either a b c d true = refl
    either a b c d false = refl

pub with_numbers : (map : List ℕ) {r : Counts} → r ≡ counted map → (r ≡ counted map) × (counts_of r ≡ counting map)
with_numbers map e = (e, ap counts_of e ∙ counts_counting map)
