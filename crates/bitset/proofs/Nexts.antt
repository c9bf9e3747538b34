-- The next number of a set, word by word. Assumes nothing.
use mathlib.Core.Path.{◌≡◌, ap, ap₂, ◌∙◌, subst}
use mathlib.Core.Bool.{Bool, false}
use mathlib.Core.List.{List}
use Prim.Native.Nat.{ℕ, ◌+◌, ◌-◌, ◌*◌, ◌/◌, ◌%◌, ◌^◌, ◌≤◌, ◌<◌, min}
use native.Mathlib.Decide.{dec_lt}
use native.Mathlib.Omega.{arith}
use lib.ListN.{get_or}
use Rattle.bitset.specs.Bitset.{has, Next}
use Rattle.bitset.specs.Words.{bit, Lowest, Clear}
use Rattle.bitset.proofs.Lows.{none_above}

-- number 64 a + k is bit k of word a
pub has_at : (l : List ℕ) (a k : ℕ) → k < 64 → has l (a * 64 + k) ≡ bit (get_or l a 0) k
unfolding has
has_at l a k h =
    let d : (a * 64 + k) / 64 ≡ a = omega arith in
    let m : (a * 64 + k) % 64 ≡ k = omega arith in
    ap₂ (λ (x y : ℕ). bit (get_or l x 0) y) d m

module _ (l : List ℕ) where
  -- number j of word a, by the word's bit
  pub at_word : (a j : ℕ) {b : Bool} → a * 64 ≤ j → j < a * 64 + 64 → bit (get_or l a 0) (j - a * 64) ≡ b → has l j ≡ b
  at_word a j low high e = ap (has l) {x = j} {y = a * 64 + (j - a * 64)} (omega arith) ∙ has_at l a (j - a * 64) (omega arith) ∙ e

  pub clear_none : (from : ℕ) → Clear l from from
  clear_none from = record { none = λ j low high. absurd (omega arith) }

  -- the same end or start, written another way
  pub end_at : {from end last : ℕ} → end ≡ last → Clear l from end → Clear l from last
  end_at {from} e c = subst (Clear l from) e c

  pub start_at : {from first end : ℕ} → from ≡ first → Clear l from end → Clear l first end
  start_at {end = end} e c = subst (λ (n : ℕ). Clear l n end) e c

  pub clear_join : {from mid end : ℕ} → Clear l from mid → Clear l mid end → Clear l from end
  clear_join {from} {mid} {end} p q = record { none = λ j low high. by j low high (dec_lt j mid) }
    where
      by : (j : ℕ) → from ≤ j → j < end → Dec (j < mid) → has l j ≡ false
      by j low high (yes h) = p.none j low h
      by j low high (no h) = q.none j (omega arith) high

  -- a word that has nothing from place k on
  pub clear_rest : (a k : ℕ) → get_or l a 0 / 2 ^ k ≡ 0 → Clear l (a * 64 + k) ((a + 1) * 64)
  clear_rest a k e =
      record {
        none =
            λ j low high.
            at_word a j (omega arith) (omega arith) (none_above (get_or l a 0) k e (j - a * 64) (omega arith));
      }

  -- a word that has nothing
  pub clear_word : {from : ℕ} (a : ℕ) → Clear l from (a * 64) → get_or l a 0 / 2 ^ 0 ≡ 0 → Clear l from ((a + 1) * 64)
  clear_word a c e = clear_join c (start_at (omega arith) (clear_rest a 0 e))

  -- from place k of a word up to its lowest one there
  clear_below : (a : ℕ) {k r : ℕ} → Lowest (get_or l a 0) k r → Clear l (a * 64 + k) (a * 64 + r)
  clear_below a h =
      record {
        none =
            λ j low high.
            at_word a j (omega arith) (omega (arith, h.high)) (h.none (j - a * 64) (omega arith) (omega arith));
      }

  -- the word's lowest one, or the end before it
  pub next_some : (a : ℕ) {from end k m : ℕ} → Clear l from (a * 64 + k) → Lowest (get_or l a 0) k m → from ≤ a * 64 + k
      → from ≤ end → Next l from end (min (a * 64 + m) end)
  next_some a {from} {end} {k} {m} c h begin wide =
      record {
        low = omega (arith, h.low);
        high = omega arith;
        none = λ j g n. (clear_join c (clear_below a h)).none j g (omega arith);
        found =
            λ g.
            ap (has l) {x = min (a * 64 + m) end} {y = a * 64 + m} (omega arith) ∙ has_at l a m h.high ∙ h.found;
      }

  -- the rest of a number's word is clear
  pub rest_clear : (from : ℕ) → get_or l (from / 64) 0 / 2 ^ (from % 64) ≡ 0 → Clear l from (from / 64 * 64 + 64)
  rest_clear from e = end_at (omega arith) (start_at (omega arith) (clear_rest (from / 64) (from % 64) e))
