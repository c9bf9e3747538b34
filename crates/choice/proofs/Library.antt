-- Two laws of the library's types, which several crates cite: the chunks of a list, and what `?` hands on. Assumes nothing.
use mathlib.Core.Path.{◌≡◌, ◌∙◌, ap}
use mathlib.Core.List.{List}
use Prim.Native.Nat.{ℕ, zero, suc, ◌+◌, ◌*◌, ◌<◌}
use native.Mathlib.Nat.{mul-suc}
use native.Mathlib.Omega.{arith}
use lib.ListN.{get_or, take, drop}
use lib.Seq.{drop-drop}
use Rattle.std.specs.Prelude.{Result, Ok, Err, IsErrAnd}
use Rattle.std.specs.Simd.{first_chunks}

-- one of a list's chunks of n
pub chunk_at : (n k : ℕ) (xs : List ℕ) (i : ℕ) (d : List ℕ) → i < k → get_or (first_chunks n k xs) i d ≡ take n (drop (n * i) xs)
chunk_at n zero xs i d h = absurd (omega arith)
chunk_at n (suc k) xs zero d h = ap (λ (j : ℕ). take n (drop j xs)) {x = 0} {y = n * 0} (omega arith)
chunk_at n (suc k) xs (suc i) d h =
    chunk_at n k (drop n xs) i d (omega arith) ∙ ap (take n) (drop-drop (n * i) n xs)
    ∙ ap (λ (j : ℕ). take n (drop j xs)) {x = n + n * i} {y = n * suc i} (omega (arith, mul-suc n i))

-- what `?` hands on is the error that came
pub handed_on : {A E : Type 0} (r : Result A E) {given error : E} → IsErrAnd r (λ e. e ≡ given) → given ≡ error → r ≡ Err error
handed_on (Ok x) none same = absurd none
handed_on (Err e) is same = ap Err (is ∙ same)
