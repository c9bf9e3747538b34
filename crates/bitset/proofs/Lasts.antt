-- The last number of a set, word by word. Assumes nothing.
use mathlib.Core.Path.{◌≡◌, ap, ◌∙◌}
use mathlib.Core.List.{List}
use Prim.Native.Nat.{ℕ, ◌+◌, ◌-◌, ◌*◌, ◌/◌, ◌%◌, ◌^◌, ◌≤◌, ◌<◌, max}
use native.Mathlib.Omega.{arith}
use lib.ListN.{get_or}
use Rattle.bitset.specs.Bitset.{has, Last}
use Rattle.bitset.specs.Words.{Highest, Clear}
use Rattle.bitset.proofs.Highs.{none_below}
use Rattle.bitset.proofs.Nexts.{has_at, at_word, clear_join, end_at}

module _ (l : List ℕ) where
  -- a word that has nothing up to place k
  pub clear_front : (a k : ℕ) → k < 64 → get_or l a 0 % 2 ^ (k + 1) ≡ 0 → Clear l (a * 64) (a * 64 + k + 1)
  clear_front a k inside e =
      record {
        none =
            λ j low high.
            at_word l a j low (omega arith) (none_below (get_or l a 0) k e (j - a * 64) (omega arith));
      }

  -- a word that has nothing
  pub word_clear : {end : ℕ} (a : ℕ) → get_or l a 0 % 2 ^ (63 + 1) ≡ 0 → Clear l (a * 64 + 64) end → Clear l (a * 64) end
  word_clear a e c = clear_join l (end_at l (omega arith) (clear_front a 63 (omega arith) e)) c

  -- from one past a word's highest one up to place k
  clear_above : (a : ℕ) {k m : ℕ} → k < 64 → Highest (get_or l a 0) k m → Clear l (a * 64 + m + 1) (a * 64 + k + 1)
  clear_above a inside h =
      record {
        none =
            λ j low high.
            at_word l a j (omega arith) (omega arith) (h.none (j - a * 64) (omega arith) (omega arith));
      }

  -- one past the word's highest one, or the start after it
  pub last_some : (a : ℕ) {from end k m : ℕ} → k < 64 → Highest (get_or l a 0) k m → Clear l (a * 64 + k + 1) end
      → a * 64 + k + 1 ≤ end → from ≤ end → Last l from end (max (a * 64 + m + 1) from)
  last_some a {from} {end} {k} {m} inside h c short wide =
      record {
        low = omega arith;
        high = omega (arith, h.high);
        none = λ j g n. (clear_join l (clear_above a inside h) c).none j (omega arith) n;
        found =
            λ g.
            ap (has l) {x = max (a * 64 + m + 1) from - 1} {y = a * 64 + m} (omega arith)
            ∙ has_at l a m (omega (arith, h.high)) ∙ h.found;
      }

  -- the start of the last number's word is clear
  pub front_clear : (end : ℕ) → 0 < end → get_or l ((end - 1) / 64) 0 % 2 ^ ((end - 1) % 64 + 1) ≡ 0
      → Clear l ((end - 1) / 64 * 64) end
  front_clear end some e = end_at l (omega arith) (clear_front ((end - 1) / 64) ((end - 1) % 64) (omega arith) e)
