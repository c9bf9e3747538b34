-- Laws of texts written one behind another, over plain numbers and lists.
use mathlib.Core.Path.{◌≡◌, refl, sym, ◌∙◌, ap, subst}
use mathlib.Core.List.{List, [], ◌∷◌, ◌++◌, append_assoc, append-nil}
use Prim.Native.Nat.{ℕ, zero, suc, ◌+◌, ◌-◌, ◌*◌, ◌/◌, ◌%◌, ◌^◌, ◌≤◌, ◌<◌}
use native.Mathlib.Numerals.{add-one}
use native.Mathlib.Omega.{arith}
use borrow.Author.Tests.{lt-ltb, le-ltb}
use borrow.Rule.Slice.PartMut.{put_mid, mid_len, same_len_mid}
use lib.ListN.{length, get_or, take, drop, set, length-append, length-set, length-replicate}
use lib.Pow.{pow-add}
use lib.Seq.{length-take-le, take_at, take-suc-set, drop_at, drop-drop, drop-set-lt}
use Rattle.text.specs.Text.{decimal, octal, spaces, filled}
use Rattle.text.specs.Parts.{Written}

-- ---- a text put at a place

module _ (out : List ℕ) (at : ℕ) (text : List ℕ) (room : at + length text ≤ length out) where
  part_length : length (take (at + length text - at) (drop at out)) ≡ length text
  part_length =
      let size : at + length text - at ≡ length text = omega arith in
      mid_len at (at + length text) out room ∙ size

  before_length : length (take at out) ≡ at
  before_length = length-take-le at out (omega arith)

  -- all of it: what stood before, the text, what stands beyond
  whole : put_mid at (at + length text - at) out text ≡ (take at out ++ text) ++ drop (at + length text - at) (drop at out)
  whole = sym (append_assoc (take at out) text (drop (at + length text - at) (drop at out)))

  seam : length (take at out ++ text) ≡ at + length text
  seam = length-append (take at out) text ∙ ap (λ (n : ℕ). n + length text) before_length

  put_line_lem : take (at + length text) (put_mid at (at + length text - at) out text) ≡ take at out ++ text
  put_line_lem = ap (take (at + length text)) whole ∙ take_at (take at out ++ text) _ (at + length text) seam

  put_beyond : drop (at + length text) (put_mid at (at + length text - at) out text) ≡ drop (at + length text) out
  put_beyond =
      ap (drop (at + length text)) whole
      ∙ drop_at (take at out ++ text) _ (at + length text) seam
      ∙ drop-drop (at + length text - at) at out
      ∙ ap (λ (n : ℕ). drop n out) {x = at + (at + length text - at)} {y = at + length text} (omega arith)

  pub put_here : (last : List ℕ) → last ≡ text → Written out at text (put_mid at (at + length text - at) out last) (at + length text)
  put_here last same =
      record {
        line = ap (λ (l : List ℕ). take (at + length text) (put_mid at (at + length text - at) out l)) same ∙ put_line_lem;
        place = refl;
        beyond = ap (λ (l : List ℕ). drop (at + length text) (put_mid at (at + length text - at) out l)) same ∙ put_beyond;
        long = same_len_mid at (at + length text - at) out last (ap length same ∙ sym part_length);
      }

  -- by the place behind it
  pub put_up_to : (to : ℕ) (last : List ℕ) → to ≡ at + length text → last ≡ text → Written out at text (put_mid at (to - at) out last) to
  put_up_to to last ends same = subst (λ (n : ℕ). Written out at text (put_mid at (n - at) out last) n) (sym ends) (put_here last same)

-- ---- texts behind each other

-- what is equal from a place on is equal further on
further : (a b : List ℕ) (i n : ℕ) → drop i a ≡ drop i b → drop (i + n) a ≡ drop (i + n) b
further a b i n e = sym (drop-drop n i a) ∙ ap (drop n) e ∙ drop-drop n i b

pub behind : {a b c t u : List ℕ} {i j k : ℕ} → Written a i t b j → Written b j u c k → Written a i (t ++ u) c k
behind {a = a} {b = b} {t = t} {u = u} {i = i} {j = j} v w =
    record {
      line = w.line ∙ ap (λ (l : List ℕ). l ++ u) v.line ∙ append_assoc (take i a) t u;
      place = omega (arith, v.place, w.place, length-append t u);
      beyond = w.beyond ∙ subst (λ (n : ℕ). drop n b ≡ drop n a) (sym w.place) (further b a j (length u) v.beyond);
      long = w.long ∙ v.long;
    }

pub the_same : {a b t u : List ℕ} {i j : ℕ} → Written a i t b j → t ≡ u → Written a i u b j
the_same {a = a} {b = b} {i = i} {j = j} w e = subst (λ (t : List ℕ). Written a i t b j) e w

-- no text
pub nothing_written : (before : List ℕ) (at : ℕ) → Written before at [] before at
nothing_written before at = record { line = sym (append-nil (take at before)); place = omega arith; beyond = refl; long = refl }

-- ---- a text put byte by byte: what is there and what is left make the whole

-- `rest` is left of a text that is put at a place, and `b` is the place behind what is there
pub record Going (before : List ℕ) (at : ℕ) (text : List ℕ) (out : List ℕ) (b : ℕ) (rest : List ℕ) : Type 0 where
  pub line : take b out ++ rest ≡ take at before ++ text
  pub place : b + length rest ≡ at + length text
  pub beyond : drop b out ≡ drop b before
  pub long : length out ≡ length before

pub nothing_there : (before : List ℕ) (at : ℕ) (text : List ℕ) → Going before at text before at text
nothing_there before at text = record { line = refl; place = refl; beyond = refl; long = refl }

pub one_more : {before text out rest : List ℕ} {at b : ℕ} (byte : ℕ) → b < length out → Going before at text out b (byte ∷ rest)
    → Going before at text (set out b byte) (b + 1) rest
one_more {before = before} {out = out} {rest = rest} {b = b} byte below g =
    record {
      line = rw (add-one b, take-suc-set out b byte, append_assoc) g.line;
      place = omega (arith, g.place);
      beyond = drop-set-lt (b + 1) out b byte (omega arith) ∙ further out before b 1 g.beyond;
      long = length-set out b byte ∙ g.long;
    }

pub all_there : {before text out : List ℕ} {at b : ℕ} → Going before at text out b [] → Written before at text out b
all_there {out = out} {b = b} g =
    record { line = sym (append-nil (take b out)) ∙ g.line; place = omega (arith, g.place); beyond = g.beyond; long = g.long }

-- a byte that is what the rest begins with
pub goes_on_lem : {before text out rest next : List ℕ} {at b byte : ℕ} → b < length out → Going before at text out b rest → rest ≡ byte ∷ next
    → Going before at text (set out b byte) (b + 1) next
goes_on_lem {before} {text} {out} {at = at} {b = b} {byte = byte} below g e = one_more byte below (subst (Going before at text out b) e g)

-- ---- the digits of a number

pub one_digit : (n : ℕ) {x : ℕ} → n < 10 → x ≡ 48 + n → x ∷ [] ≡ decimal n
unfolding decimal
one_digit n h e = rw (lt-ltb n 10 h, e)

pub two_digits : (n : ℕ) {x y : ℕ} → 10 ≤ n → n < 100 → x ≡ 48 + n / 10 → y ≡ 48 + n % 10 → x ∷ y ∷ [] ≡ decimal n
unfolding decimal
two_digits n g h e f = rw (le-ltb n 10 g, lt-ltb n 100 h, e, f)

pub three_digits : (n : ℕ) {x y z : ℕ} → 10 ≤ n → 100 ≤ n → x ≡ 48 + n / 100 → y ≡ 48 + n / 10 % 10 → z ≡ 48 + n % 10
    → x ∷ y ∷ z ∷ [] ≡ decimal n
unfolding decimal
three_digits n g h e f k = rw (le-ltb n 10 g, le-ltb n 100 h, e, f, k)

pub length_octal : (n value : ℕ) → length (octal n value) ≡ n
unfolding octal
length_octal zero value = refl
length_octal (suc n) value = ap suc (length_octal n value)

-- the digit at a place, of those with leading zeros
pub octal_at : (n value i : ℕ) → i < n → get_or (octal n value) i 0 ≡ 48 + value / 8 ^ (n - 1 - i) % 8
unfolding octal
octal_at zero value i below = absurd (omega arith)
octal_at (suc n) value zero below = ap (λ (m : ℕ). 48 + value / 8 ^ m % 8) {x = n} {y = suc n - 1 - 0} (omega arith)
octal_at (suc n) value (suc i) below =
    octal_at n value i (omega arith) ∙ ap (λ (m : ℕ). 48 + value / 8 ^ m % 8) {x = n - 1 - i} {y = suc n - 1 - suc i} (omega arith)

pub eight_more : (n : ℕ) → 8 ^ suc n ≡ 8 * 8 ^ n
eight_more n = ap (λ (x : ℕ). 8 ^ x) {x = suc n} {y = 1 + n} (omega arith) ∙ pow-add 8 1 n

-- an octal digit is three bits
pub eights : (n : ℕ) → 2 ^ (3 * n) ≡ 8 ^ n
eights zero = refl
eights (suc n) =
    ap (λ (x : ℕ). 2 ^ x) {x = 3 * suc n} {y = 3 + 3 * n} (omega arith)
    ∙ pow-add 2 3 (3 * n)
    ∙ ap (λ (x : ℕ). 8 * x) (eights n)
    ∙ sym (eight_more n)

-- ---- text filled up

pub length_filled : (n : ℕ) (text : List ℕ) → length text ≤ n → length (filled n text) ≡ n
length_filled n text fits = length-append text (spaces (n - length text)) ∙ rw length-replicate (omega arith)
