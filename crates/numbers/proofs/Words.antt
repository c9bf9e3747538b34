-- A word's number comes apart again: what a caller takes out of a number is what was put into it. Assumes nothing.
use Rattle.std.specs.Prelude.{Option, Some, None}
use mathlib.Core.Bool.{true, false, ◌&&◌, ◌||◌, false≢true}
use mathlib.Core.Path.{◌≡◌, refl, sym, ap, ◌∙◌}
use Prim.Native.Nat.{ℕ, ◌+◌, ◌*◌, ◌/◌, ◌%◌, ◌^◌, ◌<◌}
use native.Mathlib.Omega.{arith}
use lib.Arith.{digits_div, digits_mod}
use lib.Dec.{ltb, eqb}
use borrow.Author.Tests.{eq-eqb, ne_eqb, eqb-true, ltb-true}
use Rattle.choice.specs.Choice.{pick}
use Rattle.choice.proofs.Laws.{pick_cases, and_first, and_second, or_cases}
use Rattle.word.specs.declared.Word.{Word}
use Rattle.word.specs.declared.Word.TheVariants.{Move, Add, And, Xor, XecRegister, XecBank, NztRegister, NztBank, Call, Ret, XmitRegister, XmitBank, Jmp, Invalid}
use Rattle.word.specs.Word.{is_bank, is_register_source, decoded, is_valid, encoded, InRange}
use Rattle.word.proofs.Laws.{source_low, target_low, low_no_bank, valid_or_invalid, read_then_write, write_then_read, written_fits, decoded_in_range}
use Rattle.numbers.specs.Words.{fields_number, read_number, xec_from, nzt_from, xmit_from, word_from, write_number, bits_from, number_in, word_in, encoding_in}

-- a part of a number, by what stands above and below it
pub part_apart : (place width above part below : ℕ) {n : ℕ} → n ≡ (above * 2 ^ width + part) * 2 ^ place + below → part < 2 ^ width → below < 2 ^ place
    → bits_from place width n ≡ part
part_apart place width above part below e hp hb =
    ap (λ (m : ℕ). m / 2 ^ place % 2 ^ width) e ∙ ap (λ (m : ℕ). m % 2 ^ width) (digits_div (above * 2 ^ width + part) hb) ∙ digits_mod above hp

-- a register that can be read is neither 07 nor 17
plain_source : (s : ℕ) → is_register_source s ≡ true → (s ≡ 7 → ⊥) × (s ≡ 15 → ⊥)
plain_source s h =
    or_cases (ltb s 7 || eqb s 8) (eqb s 9) h
    (λ k. or_cases (ltb s 7) (eqb s 8) k (λ a. (λ e. omega (arith, ltb-true), λ e. omega (arith, ltb-true))) (λ a. (λ e. omega (arith, eqb-true), λ e. omega (arith, eqb-true))))
    (λ k. (λ e. omega (arith, eqb-true), λ e. omega (arith, eqb-true)))

-- opcode and fields of a number
fields_apart : (op a b c : ℕ) → op < 8 → a < 65536 → b < 65536 → c < 65536 → word_in (fields_number op a b c) ≡ word_from op a b c
fields_apart op a b c ho ha hb hc =
    let n : ℕ = fields_number op a b c in
    let o : bits_from 8 8 n ≡ op = part_apart 8 8 (a + b * 65536 + c * 4294967296) op 0 (omega arith) (omega arith) (omega arith) in
    let p : bits_from 16 16 n ≡ a = part_apart 16 16 (b + c * 65536) a (op * 256) (omega arith) (omega arith) (omega arith) in
    let q : bits_from 32 16 n ≡ b = part_apart 32 16 c b (op * 256 + a * 65536) (omega arith) (omega arith) (omega arith) in
    let r : bits_from 48 16 n ≡ c = part_apart 48 16 0 c (op * 256 + a * 65536 + b * 4294967296) (omega arith) (omega arith) (omega arith) in
    λ k. word_from (o k) (p k) (q k) (r k)

word_apart : (x : Word) → InRange x → (x ≡ Invalid → ⊥) → (number_in (read_number x) ≡ 0) × (word_in (read_number x) ≡ x)
unfolding word_from xec_from nzt_from xmit_from
word_apart (Move s rl d) r v = (omega arith, fields_apart 0 s rl d (omega arith) (omega (arith, r.0)) (omega (arith, r.1)) (omega (arith, r.2)))
word_apart (Add s rl d) r v = (omega arith, fields_apart 1 s rl d (omega arith) (omega (arith, r.0)) (omega (arith, r.1)) (omega (arith, r.2)))
word_apart (And s rl d) r v = (omega arith, fields_apart 2 s rl d (omega arith) (omega (arith, r.0)) (omega (arith, r.1)) (omega (arith, r.2)))
word_apart (Xor s rl d) r v = (omega arith, fields_apart 3 s rl d (omega arith) (omega (arith, r.0)) (omega (arith, r.1)) (omega (arith, r.2)))
word_apart (XecRegister s i) r v = (omega arith, fields_apart 4 s i 0 (omega arith) (omega (arith, r.0)) (omega (arith, r.2)) (omega arith) ∙ rw (low_no_bank s (source_low s r.1)))
word_apart (XecBank s l i) r v = (omega arith, fields_apart 4 s l i (omega arith) (omega (arith, r.0.0)) (omega (arith, r.0.2)) (omega (arith, r.0.3)) ∙ rw r.0.1)
word_apart (NztRegister s i) r v =
    let other = plain_source s r.1 in (
      omega arith,
      fields_apart 5 s i 0 (omega arith) (omega (arith, r.0)) (omega (arith, r.2)) (omega arith)
          ∙ rw (low_no_bank s (source_low s r.1), ne_eqb s 7 other.0, ne_eqb s 15 other.1),
    )
word_apart (NztBank s l i) r v = (omega arith, fields_apart 5 s l i (omega arith) (omega (arith, r.0)) (omega (arith, r.2)) (omega (arith, r.3)) ∙ rw r.1)
word_apart (Call i) r v = (omega arith, fields_apart 5 7 i 0 (omega arith) (omega arith) (omega (arith, r)) (omega arith))
word_apart (Ret i) r v = (omega arith, fields_apart 5 15 i 0 (omega arith) (omega arith) (omega (arith, r)) (omega arith))
word_apart (XmitRegister d i) r v = (omega arith, fields_apart 6 d i 0 (omega arith) (omega (arith, r.0)) (omega (arith, r.2)) (omega arith) ∙ rw (low_no_bank d (target_low d r.1)))
word_apart (XmitBank d l i) r v = (omega arith, fields_apart 6 d l i (omega arith) (omega (arith, r.0)) (omega (arith, r.2)) (omega (arith, r.3)) ∙ rw r.1)
word_apart (Jmp a) r v = (omega arith, fields_apart 7 a 0 0 (omega arith) (omega (arith, r)) (omega arith) (omega arith))
word_apart Invalid r v = absurd (v refl)

-- What riptide_read_word gives, riptide_write_word turns back into the word; it gives 22 exactly for a word that is not
-- listed.
pub read_write : (w : ℕ) → w < 65536 → is_valid w ≡ true
    → (number_in (read_number (decoded w)) ≡ 0) × (write_number (encoded (word_in (read_number (decoded w)))) ≡ w * 256)
read_write w h v =
    let is : decoded w ≡ Invalid → ⊥ = λ e. let f : true ≡ false = sym v ∙ (valid_or_invalid w h).0 e in false≢true (sym f) in
    let apart = word_apart (decoded w) (decoded_in_range w h) is in
    (apart.0, ap write_number (ap encoded apart.1 ∙ read_then_write w h v))

pub read_invalid : (w : ℕ) → w < 65536 → is_valid w ≡ false → read_number (decoded w) ≡ 22
read_invalid w h v = ap read_number ((valid_or_invalid w h).1 v)

-- What riptide_write_word takes and turns into a word, riptide_read_word gives again.
module _ (w op a b c : ℕ) where
  abbrev Back : Word → Type 0
  Back x = encoded x ≡ Some w → read_number x ≡ fields_number op a b c

  no_word : Back Invalid
  unfolding encoded
  no_word e = let z : ◌≡◌ {A = ℕ} 0 1 = cc in absurd (omega arith)

  told : {n : ℕ} → (op ≡ n → fields_number n a b c ≡ fields_number op a b c)
  told e = ap (λ (m : ℕ). fields_number m a b c) (sym e)

  register_back : (x : Word) → (c ≡ 0 → Back x) → Back (pick (eqb c 0) x Invalid)
  register_back x f = pick_cases Back (eqb c 0) (λ e. f (eqb-true c 0 e)) (λ _. no_word)

  from_back : Back (word_from op a b c)
  unfolding word_from xec_from nzt_from xmit_from
  from_back =
      pick_cases Back (eqb op 0) (λ e _. told (eqb-true op 0 e))
      (λ _. pick_cases Back (eqb op 1) (λ e _. told (eqb-true op 1 e))
      (λ _. pick_cases Back (eqb op 2) (λ e _. told (eqb-true op 2 e))
      (λ _. pick_cases Back (eqb op 3) (λ e _. told (eqb-true op 3 e))
      (λ _. pick_cases Back (eqb op 4)
      (λ e. pick_cases Back (is_bank a) (λ _ _. told (eqb-true op 4 e))
      (λ _. register_back (XecRegister a b) (λ z _. omega (arith, eqb-true op 4 e))))
      (λ _. pick_cases Back (eqb op 5)
      (λ e. pick_cases Back (is_bank a) (λ _ _. told (eqb-true op 5 e))
      (λ _. register_back (pick (eqb a 7) (Call b) (pick (eqb a 15) (Ret b) (NztRegister a b)))
      (λ z. pick_cases Back (eqb a 7) (λ f _. omega (arith, eqb-true op 5 e, eqb-true a 7 f))
      (λ _. pick_cases Back (eqb a 15) (λ f _. omega (arith, eqb-true op 5 e, eqb-true a 15 f))
      (λ _ _. omega (arith, eqb-true op 5 e))))))
      (λ _. pick_cases Back (eqb op 6)
      (λ e. pick_cases Back (is_bank a) (λ _ _. told (eqb-true op 6 e))
      (λ _. register_back (XmitRegister a b) (λ z _. omega (arith, eqb-true op 6 e))))
      (λ _. pick_cases Back (eqb op 7 && (eqb b 0 && eqb c 0))
      (λ e _.
      let zeros = and_second (eqb op 7) (eqb b 0 && eqb c 0) e in
      omega (arith, eqb-true op 7 (and_first (eqb op 7) (eqb b 0 && eqb c 0) e), eqb-true b 0 (and_first (eqb b 0) (eqb c 0) zeros), eqb-true c 0 (and_second (eqb b 0) (eqb c 0) zeros)))
      (λ _. no_word))))))))

  pub write_read : encoded (word_from op a b c) ≡ Some w → read_number (decoded w) ≡ fields_number op a b c
  write_read e = ap read_number (write_then_read (word_from op a b c) w e) ∙ from_back e

pub written_apart : (x : Word) → encoding_in (write_number (encoded x)) ≡ encoded x
written_apart x = go (encoded x) refl
  where
    go : (r : Option ℕ) → encoded x ≡ r → encoding_in (write_number r) ≡ r
    go (Some w) e =
        let z : number_in (w * 256) ≡ 0 = omega arith in
        rw (eq-eqb (number_in (w * 256)) 0 z) (ap Some (part_apart 8 16 0 w 0 (omega arith) (written_fits x w e) (omega arith)))
    go None e = refl
