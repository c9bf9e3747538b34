-- Which bytes a form stands for: a law for each first letter. Assumes nothing.
use mathlib.Core.Path.{◌≡◌}
use mathlib.Core.List.{List, []}
use Prim.Native.Nat.{ℕ, ◌+◌, ◌*◌, ◌%◌, min}
use borrow.Author.Tests.{ne_eqb}
use lib.ListN.{get_or}
use Rattle.digest.specs.Digest.{generated, in_turn}
use Rattle.cases.specs.Cases.{place_behind, decimal_at, hex_byte_at, hex_from, valid_words, form_bytes}

module _ (text : List ℕ) (from room : ℕ) {letter first : ℕ} (l : letter ≡ get_or text from 0) (f : first ≡ place_behind text from 58) where
  pub of_hex : letter ≡ 104 → hex_from text first room ≡ form_bytes text from room
  unfolding form_bytes
  of_hex h = rw (← l, ← f, h)

  module _ {count : ℕ} (n : count ≡ decimal_at text (place_behind text first 58)) where
    pub of_lcg : {seed : ℕ} → seed ≡ decimal_at text first → letter ≡ 108 → generated seed (min count room) ≡ form_bytes text from room
    unfolding form_bytes
    of_lcg e h = rw (← l, ← f, ← n, ← e, h)

    pub of_fill : {high low : ℕ} → high ≡ hex_byte_at text first % 256 → low ≡ hex_byte_at text (first + 2) % 256 → letter ≡ 102
        → in_turn high low (min (2 * count) room) ≡ form_bytes text from room
    unfolding form_bytes
    of_fill e g h = rw (← l, ← f, ← n, ← e, ← g, h)

    pub of_valid : {seed : ℕ} → seed ≡ decimal_at text first → letter ≡ 118
        → valid_words 65536 seed (min (2 * count) room) ≡ form_bytes text from room
    unfolding form_bytes
    of_valid e h = rw (← l, ← f, ← n, ← e, h)

module _ (text : List ℕ) (from room : ℕ) {letter : ℕ} (l : letter ≡ get_or text from 0) where
  pub of_none : (letter ≡ 104 → ⊥) → (letter ≡ 108 → ⊥) → (letter ≡ 102 → ⊥) → (letter ≡ 118 → ⊥) → [] ≡ form_bytes text from room
  unfolding form_bytes
  of_none not-h not-l not_f not_v =
      rw (← l, ne_eqb letter 104 not-h, ne_eqb letter 108 not-l, ne_eqb letter 102 not_f, ne_eqb letter 118 not_v)
