-- Laws of the text of test cases: what is read of it. Assumes nothing.
use mathlib.Core.Path.{◌≡◌, sym, ap, ◌∙◌}
use mathlib.Core.List.{List, ◌∷◌}
use Prim.Native.Nat.{ℕ, suc, ◌+◌, ◌-◌, ◌*◌, ◌%◌, ◌≤◌, ◌<◌}
use native.Mathlib.Nat.{min-eq_left, min-eq_right}
use native.Mathlib.Numerals.{add-one}
use native.Mathlib.Omega.{arith}
use borrow.Author.Tests.{lt-ltb, le-ltb}
use lib.ListN.{length, get_or, take, drop, length-drop, drop_of_length-le}
use lib.Seq.{drop-cons, take_all}
use lib.Dec.{eqb}
use Rattle.std.proofs.Common.{cond, ltb, Option, Some, None, unwrap_or, rules, tests}
use Rattle.std.specs.List.{position_or_len}
use Rattle.cases.specs.Cases.{place_behind, digit_of, with_digits}

-- ---- the place behind a mark, from what a search for it gave

pub the_tail : (from : ℕ) (text : List ℕ) → take (length text - from) (drop from text) ≡ drop from text
the_tail from text = take_all (length text - from) (drop from text) (omega (arith, length-drop from text))

module _ (n count : ℕ) where
  pub found_below : {k : ℕ} → Some k ≡ cond (ltb n count) (Some n) None → (k ≡ n) × (n < count)
  found_below e = search (rules, tests)

  pub found_none : None ≡ cond (ltb n count) (Some n) None → count ≤ n
  found_none e = search (rules, tests)

module _ (text : List ℕ) (from mark : ℕ) (inside : from ≤ length text) where
  pub behind_mark : {k : ℕ} → (k ≡ position_or_len (eqb mark) (drop from text)) × (position_or_len (eqb mark) (drop from text) < length (drop from text))
      → (from ≤ from + k + 1) × (from + k + 1 ≤ length text) × (from < length text → from < from + k + 1) × (from + k + 1 ≡ place_behind text from mark)
  behind_mark {k = k} found =
      let below : from + k + 1 ≤ length text = omega (arith, found.0, found.1, length-drop from text) in
      (omega arith, below, λ h. omega arith, rw (← found.0) (sym (min-eq_left below)))

  pub no_mark : length (drop from text) ≤ position_or_len (eqb mark) (drop from text)
      → (from ≤ length text) × (length text ≤ length text) × (from < length text → from < length text) × (length text ≡ place_behind text from mark)
  no_mark over = (inside, omega arith, λ h. h, sym (min-eq_right (omega (arith, over, length-drop from text))))

-- ---- a number, of which the digits before a place are there

module _ (text : List ℕ) (at n whole : ℕ) (e : with_digits n (drop at text) ≡ whole) where
  pub digits_over : length text ≤ at → n ≡ whole
  unfolding with_digits
  digits_over over = sym (ap (with_digits n) (drop_of_length-le text over)) ∙ e

  module _ {d : ℕ} (below : at < length text) (f : d ≡ digit_of (get_or text at 0)) where
    here : with_digits n (get_or text at 0 ∷ drop (suc at) text) ≡ whole
    here = sym (ap (with_digits n) (drop-cons text at 0 below)) ∙ e

    pub no_digit : 10 ≤ d → n ≡ whole
    unfolding with_digits
    no_digit over = rw (← f, le-ltb d 10 over) at here

    pub one_digit : d < 10 → with_digits ((n * 10 + d) % 4294967296) (drop (at + 1) text) ≡ whole
    unfolding with_digits
    one_digit less = rw add-one (rw (← f, lt-ltb d 10 less) at here)

-- ---- the byte of two digits, 0 where there are no two

pub kept_byte : (read : Option ℕ) {whole byte : ℕ} → unwrap_or read 256 ≡ whole → byte ≡ unwrap_or read 0 → byte < 256 → byte ≡ whole % 256
kept_byte None e f small = omega arith
kept_byte (Some b) e f small = omega arith
