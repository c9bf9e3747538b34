-- Bytes on their way to the start of a slice, form by form. Assumes nothing.
use mathlib.Core.Path.{◌≡◌, refl, sym, ap, ap₂, ◌∙◌, subst}
use mathlib.Core.List.{List, [], ◌∷◌, ◌++◌, append-nil, append_assoc}
use Prim.Native.Nat.{ℕ, suc, ◌+◌, ◌-◌, ◌≤◌, ◌<◌}
use native.Mathlib.Numerals.{add-one}
use native.Mathlib.Omega.{arith}
use borrow.Author.Tests.{ne_eqb}
use lib.ListN.{length, take, drop, set, length-append, take-append-drop}
use lib.Seq.{length-take-le, take_at, drop_at, drop-drop, set_split}
use Rattle.io.proofs.Counting.{prefix_len_of_le}
use Rattle.digest.specs.Digest.{next_number, number_byte}
use Rattle.cases.specs.Cases.{hex_byte_at, hex_from, word_bytes, valid_words}
use Rattle.cases.specs.Parts.{Expanded}

-- A slice at whose start as many bytes as `at` are there: with the rest they make the whole, and what stands behind is as before.
pub record Partly (before : List ℕ) (at : ℕ) (rest out whole : List ℕ) : Type 0 where
  pub room : at ≤ length out
  pub parts : take at out ++ rest ≡ whole
  pub behind : drop at out ≡ drop at before

pub none_yet : (out whole : List ℕ) → Partly out 0 whole out whole
none_yet out whole = record { room = omega arith; parts = refl; behind = refl }

pub the_rest : {before rest other out whole : List ℕ} {at : ℕ} → Partly before at rest out whole → rest ≡ other → Partly before at other out whole
the_rest {before} {rest} {other} {out} {whole} {at} p e = subst (λ (l : List ℕ). Partly before at l out whole) e p

-- a word more, put at the place
pub more : {before rest out whole next : List ℕ} {at r : ℕ} (word : List ℕ) → Partly before at (word ++ rest) out whole → r ≡ at + length word → r ≤ length out
    → next ≡ take at out ++ (word ++ drop r out) → Partly before r rest next whole
more {before} {rest} {out} {whole} {next} {at} {r} word p place fits e =
    let split : next ≡ (take at out ++ word) ++ drop r out = e ∙ sym (append_assoc (take at out) word (drop r out)) in
    let long : length (take at out ++ word) ≡ r = length-append (take at out) word ∙ ap (λ (n : ℕ). n + length word) (length-take-le at out p.room) ∙ sym place in
    let same : drop r out ≡ drop r before =
    ap (λ (n : ℕ). drop n out) place ∙ sym (drop-drop (length word) at out) ∙ ap (drop (length word)) p.behind ∙ drop-drop (length word) at before
    ∙ ap (λ (n : ℕ). drop n before) (sym place) in
    record {
      room = omega (arith, ap length split, length-append (take at out ++ word) (drop r out), long);
      parts =
          ap (λ (l : List ℕ). take r l ++ rest) split ∙ ap (λ (l : List ℕ). l ++ rest) (take_at (take at out ++ word) (drop r out) r long)
          ∙ append_assoc (take at out) word rest ∙ p.parts;
      behind = ap (drop r) split ∙ drop_at (take at out ++ word) (drop r out) r long ∙ same;
    }

-- a byte more, stored at the place
pub stored_one : {before rest out whole : List ℕ} {at : ℕ} (byte : ℕ) → Partly before at (byte ∷ rest) out whole → at < length out
    → Partly before (at + 1) rest (set out at byte) whole
stored_one {out = out} {at = at} byte p below =
    more (byte ∷ []) p refl (omega arith) (set_split out at byte below ∙ ap (λ (n : ℕ). take at out ++ (byte ∷ drop n out)) (sym (add-one at)))

pub all_there : {before out whole : List ℕ} {at : ℕ} → Partly before at [] out whole → Expanded whole before out at
all_there {before} {out} {whole} {at} p =
    let first : take at out ≡ whole = sym (append-nil (take at out)) ∙ p.parts in
    record {
      all = sym (length-take-le at out p.room) ∙ ap length first;
      placed = sym (take-append-drop at out) ∙ ap₂ ◌++◌ first p.behind;
      fits = prefix_len_of_le at out p.room;
    }

pub the_bytes : {a b before after : List ℕ} {n : ℕ} → Expanded a before after n → a ≡ b → Expanded b before after n
the_bytes {before = before} {after = after} {n = n} w e = subst (λ (l : List ℕ). Expanded l before after n) e w

pub same_out : {bytes before out other : List ℕ} {n : ℕ} → other ≡ out → Expanded bytes before out n → Expanded bytes before other n
same_out {bytes} {before} {out} {other} {n} e w = subst (λ (l : List ℕ). Expanded bytes before l n) (sym e) w

pub as_many : {bytes before out : List ℕ} {n m : ℕ} → n ≡ m → Expanded bytes before out n → Expanded bytes before out m
as_many {bytes} {before} {out} e w = subst (λ (k : ℕ). Expanded bytes before out k) e w

-- ---- hex

module _ (text : List ℕ) (at : ℕ) {value : ℕ} (e : value ≡ hex_byte_at text at) where
  pub hex_over : {n m : ℕ} → n ≡ suc m → value ≡ 256 → hex_from text at n ≡ []
  unfolding hex_from
  hex_over f g = rw (f, ← e, g)

  pub hex_more : {n m : ℕ} → n ≡ suc m → (value ≡ 256 → ⊥) → hex_from text at n ≡ (value ∷ []) ++ hex_from text (at + 2) m
  unfolding hex_from
  hex_more f g = rw (f, ← e, ne_eqb value 256 g)

pub hex_full : (text : List ℕ) (at : ℕ) {n : ℕ} → n ≡ 0 → hex_from text at n ≡ []
unfolding hex_from
hex_full text at f = rw f

-- ---- valid words

-- what putting a word does, by the bytes that it has
abbrev pub Puts : List ℕ → ℕ → ℕ → List ℕ → List ℕ → ℕ → Type 0
Puts out at room word after r = (r ≡ at + length word) × (r ≤ room) × (after ≡ take at out ++ (word ++ drop r out))

module _ (room left x : ℕ) {y z a b : ℕ} (f : y ≡ next_number x) (g : z ≡ next_number y) (h : a ≡ number_byte y) (k : b ≡ number_byte z) where
  valid_more : {m : ℕ} → left ≡ suc m → valid_words left x room ≡ word_bytes room a b ++ valid_words m z (room - length (word_bytes room a b))
  unfolding valid_words
  valid_more e = rw (e, h, k, g, f)

-- a word of the generator's more, put where it is valid and there is room
module _ (room left x : ℕ) {y z a b : ℕ} (f : y ≡ next_number x) (g : z ≡ next_number y) (h : a ≡ number_byte y) (k : b ≡ number_byte z) where
  pub word_turn : {before out next whole : List ℕ} {at r : ℕ} → 0 < left → room ≤ length out → Puts out at room (word_bytes (room - at) a b) next r
      → Partly before at (valid_words left x (room - at)) out whole → Partly before r (valid_words (left - 1) z (room - r)) next whole
  word_turn {at = at} {r = r} some fits put p =
      let word : List ℕ = word_bytes (room - at) a b in
      let behind : room - at - length word ≡ room - r = omega (arith, put.0) in
      let less : left ≡ suc (left - 1) = omega arith in
      more word
      (the_rest p (valid_more (room - at) left x f g h k less ∙ ap (λ (n : ℕ). word ++ valid_words (left - 1) z n) behind))
      put.0 (omega (arith, put.1)) put.2

pub valid_over : (x room : ℕ) {n : ℕ} → n ≡ 0 → valid_words n x room ≡ []
unfolding valid_words
valid_over x room f = rw f
