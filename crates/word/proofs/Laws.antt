-- Reading and writing words: each undoes the other, a word that document 01 does not list reads as Invalid,
-- the paper's numbers are those of the word that is read, and the fields that are read or written are in range.
use mathlib.Core.Bool.{Bool, true, false, ◌&&◌, ◌||◌, or_comm}
use mathlib.Core.List.{[], ◌∷◌}
use mathlib.Core.Logic.{◌↔◌}
use Rattle.std.specs.Prelude.{Some}
use mathlib.Core.Path.{◌≡◌, refl, ap, sym, ◌∙◌, subst}
use Prim.Native.Nat.{ℕ, ◌+◌, ◌*◌, ◌/◌, ◌%◌, ◌<◌, ◌≤◌}
use native.Mathlib.Omega.{arith}
use lib.Dec.{leb, ltb, eqb}
use borrow.Author.Tests.{leb-true, ltb-true, ltb-false, eqb-true, eqb-false, lt-ltb, le-ltb, lt-leb}
use Rattle.choice.specs.Choice.{pick}
use Rattle.choice.proofs.Laws.{pick_cases, pick_beside, pick_test, pick_or, and_both, and_first, and_second, or_cases}
use Rattle.word.specs.declared.Word.{Word}
use Rattle.word.specs.declared.Word.TheVariants.{Move, Add, And, Xor, XecRegister, XecBank, NztRegister, NztBank, Call, Ret, XmitRegister, XmitBank, Jmp, Invalid}
use Rattle.word.specs.Word.{is_bank, is_register_source, is_register_target, is_source, is_target, is_xec_length}
use Rattle.word.specs.Word.{opcode_of, bits3to7, bits8to10, bits11to15, bits8to15, bits3to15}
use Rattle.word.specs.Word.{act_of, act_read, xec_read, nzt_read, xmit_read, decoded, is_valid, fields_of, reading}
use Rattle.word.specs.Word.{word_of, low_of, bits_if, act_bits, register_bits, bank_bits, encoded}
use Rattle.word.specs.Word.{ActInRange, RegisterInRange, BankInRange, InRange}

-- The lists of registers and banks: registers lie below the banks, and all below 32.
pub source_low : (s : ℕ) → is_register_source s ≡ true → s < 16
source_low s h =
    or_cases (ltb s 7 || eqb s 8) (eqb s 9) h
    (λ k. or_cases (ltb s 7) (eqb s 8) k (λ a. omega (arith, ltb-true)) (λ a. omega (arith, eqb-true)))
    (λ k. omega (arith, eqb-true))

pub target_low : (d : ℕ) → is_register_target d ≡ true → d < 16
target_low d h =
    or_cases (ltb d 8 || eqb d 9) (eqb d 15) h
    (λ k. or_cases (ltb d 8) (eqb d 9) k (λ a. omega (arith, ltb-true)) (λ a. omega (arith, eqb-true)))
    (λ k. omega (arith, eqb-true))

pub bank_range : (s : ℕ) → is_bank s ≡ true → (16 ≤ s) × (s < 32)
bank_range s h = (leb-true 16 s (and_first _ (ltb s 32) h), ltb-true s 32 (and_second (leb 16 s) _ h))

pub low_no_bank : (s : ℕ) → s < 16 → is_bank s ≡ false
low_no_bank s h = simp (lt-leb 16 s h)

pub source_fits : (s : ℕ) → is_source s ≡ true → s < 32
source_fits s h = or_cases (is_register_source s) (is_bank s) h (λ r. omega (arith, source_low s r)) (λ b. (bank_range s b).1)

pub target_fits : (d : ℕ) → is_target d ≡ true → d < 32
target_fits d h = or_cases (is_register_target d) (is_bank d) h (λ r. omega (arith, target_low d r)) (λ b. (bank_range d b).1)

pub xec_length_range : (l : ℕ) → is_xec_length l ≡ true → (1 ≤ l) × (l < 6)
xec_length_range l h = (leb-true 1 l (and_first _ (ltb l 6) h), ltb-true l 6 (and_second (leb 1 l) _ h))

-- A word from its opcode, bits 3-7 and its low byte, read field by field.
pub low_decoded : (op s low : ℕ) → s < 32 → low < 256
    → decoded (word_of op s low)
    ≡ pick (ltb op 4) (act_read op s (low / 32) (low % 32))
    (pick (eqb op 4) (xec_read s (low / 32) (low % 32) low)
    (pick (eqb op 5) (nzt_read s (low / 32) (low % 32) low)
    (pick (eqb op 6) (xmit_read s (low / 32) (low % 32) low) (Jmp (word_of 0 s low)))))
unfolding decoded
low_decoded op s low hs hl =
    let o : opcode_of (word_of op s low) ≡ op = omega arith in
    let p : bits3to7 (word_of op s low) ≡ s = omega arith in
    let l : bits8to10 (word_of op s low) ≡ low / 32 = omega arith in
    let x : bits11to15 (word_of op s low) ≡ low % 32 = omega arith in
    let i : bits8to15 (word_of op s low) ≡ low = omega arith in
    let a : bits3to15 (word_of op s low) ≡ word_of 0 s low = omega arith in
    simp (o, p, l, x, i, a)

-- What holds where the word w is read as x and is listed or not.
record Reads (w : ℕ) (x : Word) (v : Bool) : Type 0 where
  valid : (x ≡ Invalid) ↔ (v ≡ false)
  written : v ≡ true → encoded x ≡ Some w
  told : is_valid w ≡ v → fields_of x ≡ reading w
  range : InRange x

unlisted : (w : ℕ) → Reads w Invalid false
unfolding reading
unlisted w = record { valid = (λ e. refl, λ e. refl); written = λ e. cc; told = λ v. simp v; range = tt }

listed : (w : ℕ) {x : Word} → (x ≡ Invalid → true ≡ false) → encoded x ≡ Some w
    → (is_valid w ≡ true → fields_of x ≡ reading w) → InRange x → Reads w x true
listed w n e t r = record { valid = (n, λ z. cc); written = λ z. e; told = t; range = r }

bits : (ok : Bool) (n w : ℕ) → ok ≡ true → n ≡ w → bits_if ok n ≡ Some w
bits ok n w p q = simp (p, q)

-- NZT: the order in which reading asks, and the order of the list.
bank_first : (r b c e : Bool) → (b || (r || (c || e))) ≡ (r || b || c || e)
bank_first true true c e = refl
bank_first true false c e = refl
bank_first false true c e = refl
bank_first false false c e = refl

module _ (w : ℕ) (small : w < 65536) where
  -- the word that its own fields make, and its numbers, for each layout
  module _ (op : ℕ) (e : opcode_of w ≡ op) where
    act_written : is_source (bits3to7 w) ≡ true → is_target (bits11to15 w) ≡ true
        → act_bits op (bits3to7 w) (bits8to10 w) (bits11to15 w) ≡ Some w
    act_written s d =
        bits _ (word_of op (bits3to7 w) (low_of (bits8to10 w) (bits11to15 w))) w
        (and_both (and_both s (lt-ltb (bits8to10 w) 8 (omega arith))) d)
        (omega arith)

    register_written : (ok : Bool) → ok ≡ true → register_bits op ok (bits3to7 w) (bits8to15 w) ≡ Some w
    register_written ok h =
        bits _ (word_of op (bits3to7 w) (bits8to15 w)) w
        (and_both h (lt-ltb (bits8to15 w) 256 (omega arith)))
        (omega arith)

    bank_written : (ok : Bool) → ok ≡ true → is_bank (bits3to7 w) ≡ true
        → bank_bits op ok (bits3to7 w) (bits8to10 w) (bits11to15 w) ≡ Some w
    bank_written ok h b =
        bits _ (word_of op (bits3to7 w) (low_of (bits8to10 w) (bits11to15 w))) w
        (and_both (and_both h b) (lt-ltb (bits11to15 w) 32 (omega arith)))
        (omega arith)

    act_told : op < 4 → is_valid w ≡ true → (op ∷ bits3to7 w ∷ bits8to10 w ∷ bits11to15 w ∷ []) ≡ reading w
    unfolding reading
    act_told h v = simp (v, e, lt-ltb op 4 h)

    register_told : 4 ≤ op → op < 7 → is_bank (bits3to7 w) ≡ false → is_valid w ≡ true
        → (op ∷ bits3to7 w ∷ bits8to15 w ∷ []) ≡ reading w
    unfolding reading
    register_told h k b v = simp (v, e, le-ltb op 4 h, lt-ltb op 7 k, b)

    bank_told : 4 ≤ op → op < 7 → is_bank (bits3to7 w) ≡ true → is_valid w ≡ true
        → (op ∷ bits3to7 w ∷ bits8to10 w ∷ bits11to15 w ∷ []) ≡ reading w
    unfolding reading
    bank_told h k b v = simp (v, e, le-ltb op 4 h, lt-ltb op 7 k, b)

  act_reads : opcode_of w < 4 → is_source (bits3to7 w) ≡ true → is_target (bits11to15 w) ≡ true
      → Reads w (act_of (opcode_of w) (bits3to7 w) (bits8to10 w) (bits11to15 w)) true
  unfolding encoded
  act_reads h s d =
      let fits : ActInRange (bits3to7 w) (bits8to10 w) (bits11to15 w) = (omega arith, omega arith, omega arith, s, d) in
      pick_cases (λ x. Reads w x true) (eqb (opcode_of w) 0)
      (λ e. listed w (λ z. cc) (act_written 0 (eqb-true _ _ e) s d) (act_told 0 (eqb-true _ _ e) (omega arith)) fits)
      (λ n0. pick_cases (λ x. Reads w x true) (eqb (opcode_of w) 1)
      (λ e. listed w (λ z. cc) (act_written 1 (eqb-true _ _ e) s d) (act_told 1 (eqb-true _ _ e) (omega arith)) fits)
      (λ n1. pick_cases (λ x. Reads w x true) (eqb (opcode_of w) 2)
      (λ e. listed w (λ z. cc) (act_written 2 (eqb-true _ _ e) s d) (act_told 2 (eqb-true _ _ e) (omega arith)) fits)
      (λ n2.
      let o : opcode_of w ≡ 3 = omega (arith, eqb-false) in
      listed w (λ z. cc) (act_written 3 o s d) (act_told 3 o (omega arith)) fits)))

  -- a word at a bank or at a register of opcodes 4 to 6
  at_bank : (op : ℕ) {x : Word} → opcode_of w ≡ op → 4 ≤ op → op < 7 → is_bank (bits3to7 w) ≡ true
      → (x ≡ Invalid → true ≡ false) → encoded x ≡ Some w
      → fields_of x ≡ (op ∷ bits3to7 w ∷ bits8to10 w ∷ bits11to15 w ∷ [])
      → (BankInRange (bits3to7 w) (bits8to10 w) (bits11to15 w) → InRange x) → Reads w x true
  at_bank op o h k b n e t r =
      listed w n e (λ v. t ∙ bank_told op o h k b v) (r (omega arith, b, omega arith, omega arith))

  at_register : (op : ℕ) {x : Word} → opcode_of w ≡ op → 4 ≤ op → op < 7 → is_bank (bits3to7 w) ≡ false
      → (x ≡ Invalid → true ≡ false) → encoded x ≡ Some w
      → fields_of x ≡ (op ∷ bits3to7 w ∷ bits8to15 w ∷ []) → InRange x → Reads w x true
  at_register op o h k b n e t r = listed w n e (λ v. t ∙ register_told op o h k b v) r

  xec_reads : opcode_of w ≡ 4
      → Reads w (xec_read (bits3to7 w) (bits8to10 w) (bits11to15 w) (bits8to15 w))
      (pick (is_bank (bits3to7 w)) (is_xec_length (bits8to10 w)) (is_register_source (bits3to7 w)))
  unfolding encoded
  xec_reads o =
      pick_beside (Reads w) (is_bank (bits3to7 w))
      (λ b. pick_test (Reads w) (is_xec_length (bits8to10 w))
      (λ l. at_bank 4 o (omega arith) (omega arith) b (λ z. cc) (bank_written 4 o _ l b) refl (λ r. (r, (xec_length_range _ l).0, (xec_length_range _ l).1)))
      (λ l. unlisted w))
      (λ b. pick_test (Reads w) (is_register_source (bits3to7 w))
      (λ r. at_register 4 o (omega arith) (omega arith) b (λ z. cc) (register_written 4 o _ r) refl (omega arith, r, omega arith))
      (λ r. unlisted w))

  nzt_reads : opcode_of w ≡ 5
      → Reads w (nzt_read (bits3to7 w) (bits8to10 w) (bits11to15 w) (bits8to15 w))
      (is_source (bits3to7 w) || eqb (bits3to7 w) 7 || eqb (bits3to7 w) 15)
  unfolding encoded
  nzt_reads o =
      subst (Reads w (nzt_read (bits3to7 w) (bits8to10 w) (bits11to15 w) (bits8to15 w)))
      (bank_first (is_register_source (bits3to7 w)) (is_bank (bits3to7 w)) _ _)
      (pick_or (Reads w) (is_bank (bits3to7 w)) _
      (λ b. at_bank 5 o (omega arith) (omega arith) b (λ z. cc) (bank_written 5 o _ (lt-ltb (bits8to10 w) 8 (omega arith)) b) refl (λ r. r))
      (λ b. pick_or (Reads w) (is_register_source (bits3to7 w)) _
      (λ r. at_register 5 o (omega arith) (omega arith) b (λ z. cc) (register_written 5 o _ r) refl (omega arith, r, omega arith))
      (λ r. pick_or (Reads w) (eqb (bits3to7 w) 7) _
      (λ c.
      let s : bits3to7 w ≡ 7 = eqb-true _ _ c in
      at_register 5 o (omega arith) (omega arith) b (λ z. cc) (rw s at (register_written 5 o true refl)) (rw s) (omega arith))
      (λ c. pick_test (Reads w) (eqb (bits3to7 w) 15)
      (λ e.
      let s : bits3to7 w ≡ 15 = eqb-true _ _ e in
      at_register 5 o (omega arith) (omega arith) b (λ z. cc) (rw s at (register_written 5 o true refl)) (rw s) (omega arith))
      (λ e. unlisted w)))))

  xmit_reads : opcode_of w ≡ 6
      → Reads w (xmit_read (bits3to7 w) (bits8to10 w) (bits11to15 w) (bits8to15 w)) (is_target (bits3to7 w))
  unfolding encoded
  xmit_reads o =
      subst (Reads w (xmit_read (bits3to7 w) (bits8to10 w) (bits11to15 w) (bits8to15 w)))
      (or_comm (is_bank (bits3to7 w)) (is_register_target (bits3to7 w)))
      (pick_or (Reads w) (is_bank (bits3to7 w)) _
      (λ b. at_bank 6 o (omega arith) (omega arith) b (λ z. cc) (bank_written 6 o _ (lt-ltb (bits8to10 w) 8 (omega arith)) b) refl (λ r. r))
      (λ b. pick_test (Reads w) (is_register_target (bits3to7 w))
      (λ r. at_register 6 o (omega arith) (omega arith) b (λ z. cc) (register_written 6 o _ r) refl (omega arith, r, omega arith))
      (λ r. unlisted w)))

  jmp_reads : 7 ≤ opcode_of w → Reads w (Jmp (bits3to15 w)) true
  unfolding reading encoded
  jmp_reads h =
      listed w (λ e. cc)
      (bits _ (7 * 8192 + bits3to15 w) w (lt-ltb (bits3to15 w) 8192 (omega arith)) (omega arith))
      (λ v. simp (v, le-ltb (opcode_of w) 4 (omega arith), le-ltb (opcode_of w) 7 h))
      (omega arith)

  reads : Reads w (decoded w) (is_valid w)
  unfolding decoded is_valid
  reads =
      pick_beside (Reads w) (ltb (opcode_of w) 4)
      (λ h. pick_test (Reads w) (is_source (bits3to7 w) && is_target (bits11to15 w))
      (λ t. act_reads (ltb-true _ _ h) (and_first _ (is_target (bits11to15 w)) t) (and_second (is_source (bits3to7 w)) _ t))
      (λ t. unlisted w))
      (λ h. pick_beside (Reads w) (eqb (opcode_of w) 4)
      (λ e. xec_reads (eqb-true _ _ e))
      (λ n4. pick_beside (Reads w) (eqb (opcode_of w) 5)
      (λ e. nzt_reads (eqb-true _ _ e))
      (λ n5. pick_beside (Reads w) (eqb (opcode_of w) 6)
      (λ e. xmit_reads (eqb-true _ _ e))
      (λ n6. jmp_reads (omega (arith, ltb-false, eqb-false))))))

-- Exactly the words that are not listed read as Invalid.
pub valid_or_invalid : (w : ℕ) → w < 65536 → (decoded w ≡ Invalid) ↔ (is_valid w ≡ false)
valid_or_invalid w h = (reads w h).valid

-- so what is read tells whether a word is listed
module _ (w : ℕ) (small : w < 65536) {read : Word} (e : read ≡ decoded w) where
  pub is_invalid : read ≡ Invalid → false ≡ is_valid w
  is_invalid f = sym ((valid_or_invalid w small).0 (sym e ∙ f))

  pub is_valid_lem : (read ≡ Invalid → ⊥) → true ≡ is_valid w
  is_valid_lem other = either (is_valid w) refl
    where
      either : (b : Bool) → is_valid w ≡ b → true ≡ is_valid w
      either true f = sym f
      either false f = absurd (other (e ∙ (valid_or_invalid w small).1 f))

-- A listed word, read and written again, is the same word.
pub read_then_write : (w : ℕ) → w < 65536 → is_valid w ≡ true → encoded (decoded w) ≡ Some w
read_then_write w h = (reads w h).written

pub reading_decoded : (w : ℕ) → w < 65536 → fields_of (decoded w) ≡ reading w
reading_decoded w h = (reads w h).told refl

pub decoded_in_range : (w : ℕ) → w < 65536 → InRange (decoded w)
decoded_in_range w h = (reads w h).range

-- What is read as the definition says has the paper's numbers.
pub read_as : (w : ℕ) → w < 65536 → {x : Word} → x ≡ decoded w → (x ≡ decoded w) × (fields_of x ≡ reading w)
read_as w h e = (e, ap fields_of e ∙ reading_decoded w h)

-- Tests that hold put the fields in range.
pub act_in_range : (s rl d : ℕ) → (is_source s && ltb rl 8 && is_target d) ≡ true → ActInRange s rl d
act_in_range s rl d h =
    let sl : (is_source s && ltb rl 8) ≡ true = and_first _ (is_target d) h in
    let ss : is_source s ≡ true = and_first _ (ltb rl 8) sl in
    let ds : is_target d ≡ true = and_second (is_source s && ltb rl 8) _ h in
    (source_fits s ss, ltb-true _ _ (and_second (is_source s) _ sl), target_fits d ds, ss, ds)

pub register_in_range : (ok : Bool) (s i : ℕ) → (ok ≡ true → s < 16) → (ok && ltb i 256) ≡ true → RegisterInRange s ok i
register_in_range ok s i f h =
    let k : ok ≡ true = and_first ok (ltb i 256) h in
    (omega (arith, f k), k, ltb-true _ _ (and_second ok _ h))

pub bank_in_range : (ok : Bool) (s l i : ℕ) → (ok ≡ true → l < 8) → (ok && is_bank s && ltb i 32) ≡ true
    → BankInRange s l i × (ok ≡ true)
bank_in_range ok s l i f h =
    let kb : (ok && is_bank s) ≡ true = and_first _ (ltb i 32) h in
    let k : ok ≡ true = and_first ok (is_bank s) kb in
    let b : is_bank s ≡ true = and_second ok (is_bank s) kb in
    (((bank_range s b).1, b, f k, ltb-true _ _ (and_second (ok && is_bank s) _ h)), k)

-- What is written is the word that the fields make, and its tests held.
bits_back : (ok : Bool) (n w : ℕ) → bits_if ok n ≡ Some w → (ok ≡ true) × (n ≡ w)
bits_back true n w h = (refl, cc)
bits_back false n w h = (cc, cc)

-- What holds where the word w is written from x.
record Writes (w : ℕ) (x : Word) : Type 0 where
  back : decoded w ≡ x
  fits : w < 65536
  range : InRange x

-- Opcodes 0-3.
act_writes : (w op s rl d : ℕ) {x : Word} → op < 4 → act_bits op s rl d ≡ Some w → act_of op s rl d ≡ x
    → (ActInRange s rl d → InRange x) → Writes w x
unfolding decoded
act_writes w op s rl d h b e f =
    let t : ((is_source s && ltb rl 8 && is_target d) ≡ true) × (word_of op s (low_of rl d) ≡ w) = bits_back _ _ w b in
    let r : ActInRange s rl d = act_in_range s rl d t.0 in
    let os : opcode_of w ≡ op = omega arith in
    let fs : bits3to7 w ≡ s = omega arith in
    let ls : bits8to10 w ≡ rl = omega arith in
    let xs : bits11to15 w ≡ d = omega arith in
    record { back = simp (os, lt-ltb op 4 h, fs, ls, xs, r.3, r.4) e; fits = omega arith; range = f r }

-- XEC, NZT and XMIT of a register or a bank: what is left is to read the word at its opcode.
register_writes : (w op s i : ℕ) (ok : Bool) {x : Word} → op < 7 → (ok ≡ true → s < 16) → register_bits op ok s i ≡ Some w
    → (RegisterInRange s ok i → InRange x)
    → (ok ≡ true → opcode_of w ≡ op → bits3to7 w ≡ s → is_bank s ≡ false → bits8to15 w ≡ i → decoded w ≡ x) → Writes w x
register_writes w op s i ok ho low b g f =
    let t : ((ok && ltb i 256) ≡ true) × (word_of op s i ≡ w) = bits_back _ _ w b in
    let r : RegisterInRange s ok i = register_in_range ok s i low t.0 in
    record {
      back = f r.1 (omega arith) (omega arith) (low_no_bank s (low r.1)) (omega arith);
      fits = omega arith;
      range = g r;
    }

bank_writes : (w op s l i : ℕ) (ok : Bool) {x : Word} → op < 7 → (ok ≡ true → l < 8) → bank_bits op ok s l i ≡ Some w
    → (BankInRange s l i → ok ≡ true → InRange x)
    → (ok ≡ true → opcode_of w ≡ op → bits3to7 w ≡ s → is_bank s ≡ true → bits8to10 w ≡ l → bits11to15 w ≡ i → decoded w ≡ x)
    → Writes w x
bank_writes w op s l i ok ho short b g f =
    let t : ((ok && is_bank s && ltb i 32) ≡ true) × (word_of op s (low_of l i) ≡ w) = bits_back _ _ w b in
    let r : BankInRange s l i × (ok ≡ true) = bank_in_range ok s l i short t.0 in
    record {
      back = f r.1 (omega arith) (omega arith) r.0.1 (omega arith) (omega arith);
      fits = omega arith;
      range = g r.0 r.1;
    }

writes : (x : Word) (w : ℕ) → encoded x ≡ Some w → Writes w x
unfolding encoded decoded
writes (Move s rl d) w h = act_writes w 0 s rl d (omega arith) h refl (λ r. r)
writes (Add s rl d) w h = act_writes w 1 s rl d (omega arith) h refl (λ r. r)
writes (And s rl d) w h = act_writes w 2 s rl d (omega arith) h refl (λ r. r)
writes (Xor s rl d) w h = act_writes w 3 s rl d (omega arith) h refl (λ r. r)
writes (XecRegister s i) w h =
    register_writes w 4 s i (is_register_source s) (omega arith) (source_low s) h (λ r. r) (λ k o f b y. simp (o, f, b, k, y))
writes (XecBank s l i) w h =
    bank_writes w 4 s l i (is_xec_length l) (omega arith) (λ k. omega (arith, (xec_length_range l k).1)) h
    (λ r k. (r, (xec_length_range l k).0, (xec_length_range l k).1))
    (λ k o f b y x. simp (o, f, b, y, k, x))
writes (NztRegister s i) w h =
    register_writes w 5 s i (is_register_source s) (omega arith) (source_low s) h (λ r. r) (λ k o f b y. simp (o, f, b, k, y))
writes (NztBank s l i) w h =
    bank_writes w 5 s l i (ltb l 8) (omega arith) (ltb-true l 8) h (λ r k. r) (λ k o f b y x. simp (o, f, b, y, x))
writes (Call i) w h =
    register_writes w 5 7 i true (omega arith) (λ k. omega arith) h (λ r. r.2) (λ k o f b y. simp (o, f, y))
writes (Ret i) w h =
    register_writes w 5 15 i true (omega arith) (λ k. omega arith) h (λ r. r.2) (λ k o f b y. simp (o, f, y))
writes (XmitRegister d i) w h =
    register_writes w 6 d i (is_register_target d) (omega arith) (target_low d) h (λ r. r) (λ k o f b y. simp (o, f, b, k, y))
writes (XmitBank d l i) w h =
    bank_writes w 6 d l i (ltb l 8) (omega arith) (ltb-true l 8) h (λ r k. r) (λ k o f b y x. simp (o, f, b, y, x))
writes (Jmp a) w h =
    let t : (ltb a 8192 ≡ true) × (7 * 8192 + a ≡ w) = bits_back _ _ w h in
    let r : a < 8192 = ltb-true _ _ t.0 in
    let o : opcode_of w ≡ 7 = omega arith in
    let p : bits3to15 w ≡ a = omega arith in
    record { back = simp (o, p); fits = omega arith; range = r }
writes Invalid w h = let z : ◌≡◌ {A = ℕ} 0 1 = cc in record { back = cc; fits = omega arith; range = tt }

-- What is written and read again is the same case with the same fields.
pub write_then_read : (x : Word) (w : ℕ) → encoded x ≡ Some w → decoded w ≡ x
write_then_read x w h = (writes x w h).back

pub written_fits : (x : Word) (w : ℕ) → encoded x ≡ Some w → w < 65536
written_fits x w h = (writes x w h).fits

pub written_in_range : (x : Word) (w : ℕ) → encoded x ≡ Some w → InRange x
written_in_range x w h = (writes x w h).range
