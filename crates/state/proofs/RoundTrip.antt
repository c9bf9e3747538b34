-- A state loaded and stored, or stored and loaded, is as it was; bytes load to a sized state. Assumes nothing.
use mathlib.Core.Path.{◌≡◌, refl, sym, ap, ◌∙◌}
use mathlib.Core.List.{List, [], ◌∷◌, ◌++◌}
use Prim.Native.Nat.{ℕ, zero, suc, ◌+◌, ◌*◌, ◌/◌, ◌%◌, ◌<◌}
use native.Mathlib.Omega.{arith}
use lib.ListN.{length, get_or, drop, replicate, drop_of_length-le}
use lib.Seq.{drop-cons}
use Rattle.state.specs.declared.State.{State}
use Rattle.state.specs.State.{state_length, bytes_from, numbers_from, pairs_from, two_bytes, loaded, stored}
use Rattle.state.specs.State.{EachBelow, Sized, reset_bytes, zero_state}
use Rattle.state.proofs.Laws.{by_fields}

-- ---- a number and its two bytes

pub low_byte : (x y : ℕ) → x < 256 → (x + 256 * y) % 256 ≡ x
low_byte x y h = omega arith

pub high_byte : (x y : ℕ) → x < 256 → y < 256 → (x + 256 * y) / 256 % 256 ≡ y
high_byte x y h i = omega arith

pub one_byte : (x : ℕ) → x < 256 → x % 256 ≡ x
one_byte x h = omega arith

pub two_bytes_lem : (n : ℕ) → n < 65536 → n % 256 + 256 * (n / 256 % 256) ≡ n
two_bytes_lem n h = omega arith

-- ---- all of a list

-- what is left of a list from a place on
pub rest : (b : List ℕ) (k n : ℕ) → k + n ≡ length b → bytes_from b k n ≡ drop k b
rest b k zero h = sym (drop_of_length-le b {i = k} (omega arith))
rest b k (suc n) h =
    sym (drop-cons b k 0 (omega arith) ∙ ap (λ (l : List ℕ). get_or b k 0 ∷ l) (sym (rest b (suc k) n (omega arith))))

pub whole : (b : List ℕ) (n : ℕ) → length b ≡ n → bytes_from b 0 n ≡ b
whole b n h = rest b 0 n (omega arith)

-- ---- lists of small numbers

-- `EachBelow`, as a record: its list is found from its proof
record Small (n : ℕ) (xs : List ℕ) : Type 0 where
  at : EachBelow n xs

none : {n : ℕ} → 0 < n → Small n []
none h = record { at = λ k. h }

more : {n x : ℕ} {xs : List ℕ} → x < n → Small n xs → Small n (x ∷ xs)
more {n} {x} {xs} h t = record { at = each }
  where
    each : EachBelow n (x ∷ xs)
    each zero = h
    each (suc k) = t.at k

join : {n : ℕ} {xs ys : List ℕ} → Small n xs → Small n ys → Small n (xs ++ ys)
join {xs = []} h t = t
join {xs = x ∷ xs} h t = more (h.at zero) (join {xs = xs} (record { at = λ k. h.at (suc k) }) t)

zeros : (n m : ℕ) → 0 < n → Small n (replicate m 0)
zeros n zero h = none h
zeros n (suc m) h = more h (zeros n m h)

bytes : (b : List ℕ) (at m : ℕ) → EachBelow 256 b → Small 256 (bytes_from b at m)
bytes b at zero h = none (omega arith)
bytes b at (suc m) h = more (h at) (bytes b (suc at) m h)

numbers : (b : List ℕ) (at m : ℕ) → EachBelow 256 b → Small 65536 (numbers_from b at m)
numbers b at zero h = none (omega arith)
numbers b at (suc m) h = more (omega (arith, h at, h (suc at))) (numbers b (suc (suc at)) m h)

one : (n : ℕ) → Small 256 (n % 256 ∷ [])
one n = more (omega arith) (none (omega arith))

two : (n : ℕ) → Small 256 (two_bytes n)
two n = more (omega arith) (more (omega arith) (none (omega arith)))

pairs : (ns : List ℕ) (at m : ℕ) → Small 256 (pairs_from ns at m)
pairs ns at zero = none (omega arith)
pairs ns at (suc m) = more (omega arith) (more (omega arith) (pairs ns (suc at) m))

-- ---- loaded, then stored

module _ (b : List ℕ) (small : EachBelow 256 b) where
  low_at : (i j : ℕ) → (get_or b i 0 + 256 * get_or b j 0) % 256 ≡ get_or b i 0
  low_at i j = low_byte (get_or b i 0) (get_or b j 0) (small i)

  high_at : (i j : ℕ) → (get_or b i 0 + 256 * get_or b j 0) / 256 % 256 ≡ get_or b j 0
  high_at i j = high_byte (get_or b i 0) (get_or b j 0) (small i) (small j)

  byte_at : (i : ℕ) → get_or b i 0 % 256 ≡ get_or b i 0
  byte_at i = one_byte (get_or b i 0) (small i)

pub load_then_store : (b : List ℕ) → length b ≡ state_length → ((k : ℕ) → get_or b k 0 < 256) → stored (loaded b) ≡ b
unfolding loaded stored
load_then_store b len small = simp (low_at b small, high_at b small, byte_at b small) (whole b state_length len)

pub loaded_sized : (b : List ℕ) → length b ≡ state_length → ((k : ℕ) → get_or b k 0 < 256) → Sized (loaded b)
unfolding loaded
loaded_sized b len small =
    record {
      pc = omega (arith, small 0, small 1);
      flag = small 2;
      pending = omega (arith, small 3, small 4);
      values = (bytes b 5 11 small).at;
      latches = (bytes b 16 2 small).at;
      depth = small 18;
      returns = (numbers b 19 8 small).at;
      stop = small 35;
      values_length = refl;
      latches_length = refl;
      returns_length = refl;
    }

-- ---- stored, then loaded

number_at : (ns : List ℕ) → EachBelow 65536 ns → (i : ℕ) → get_or ns i 0 % 256 + 256 * (get_or ns i 0 / 256 % 256) ≡ get_or ns i 0
number_at ns small i = two_bytes_lem (get_or ns i 0) (small i)

pub store_then_load : (s : State) → Sized s → loaded (stored s) ≡ s
unfolding loaded stored
store_then_load s z =
    by_fields (two_bytes_lem s.pc z.pc) (one_byte s.flag z.flag)
    (two_bytes_lem s.pending z.pending) (whole s.values 11 z.values_length) (whole s.latches 2 z.latches_length)
    (one_byte s.depth z.depth) (simp (number_at s.returns z.returns) (whole s.returns 8 z.returns_length))
    (one_byte s.stop z.stop)

pub stored_bytes : (s : State) → Sized s → (k : ℕ) → get_or (stored s) k 0 < 256
unfolding stored
stored_bytes s z =
    (join (two s.pc) (join (one s.flag) (join (two s.pending) (join (bytes s.values 0 11 z.values)
    (join (bytes s.latches 0 2 z.latches) (join (one s.depth) (join (pairs s.returns 0 8) (one s.stop)))))))).at

-- ---- reset

pub reset_loaded : loaded reset_bytes ≡ zero_state
unfolding loaded
reset_loaded = refl

pub reset_stored : stored zero_state ≡ reset_bytes
unfolding stored
reset_stored = refl

pub reset_sized : Sized zero_state
unfolding loaded
reset_sized = loaded_sized reset_bytes refl (zeros 256 36 (omega arith)).at
