-- What the code tells of a word's questions: one law for each way out, over plain numbers and lists.
use mathlib.Core.Path.{◌≡◌, refl, sym, ◌∙◌, ap, subst}
use mathlib.Core.Bool.{Bool, true, false, ◌&&◌}
use mathlib.Core.List.{List, [], ◌∷◌}
use Prim.Native.Nat.{ℕ, ◌+◌, ◌*◌, ◌/◌, ◌%◌, ◌<◌}
use native.Mathlib.Omega.{arith}
use lib.Dec.{ltb, eqb}
use lib.ListN.{get_or}
use borrow.Author.Tests.{lt-ltb, eq-eqb, ne_eqb}
use Rattle.choice.specs.Choice.{Question, ask}
use Rattle.machine.specs.Shape.{Source, Target, slot_of, source_of, go, register, Control, call}
use Rattle.machine.specs.Step.{word_count}
use Rattle.facts.specs.Facts.{unknown, is_known, result_fact, Span, span_of}
use Rattle.transfer.specs.Findings.{read_questions, target_questions, control_questions, word_findings}
use Rattle.findings.specs.Findings.{Tells}
use Rattle.findings.proofs.Telling.{tells_none, tells_yes, tells_no, tells_stop}

-- ---- an address that has to be known, and to be in a set

known : (f : ℕ) → (f ≡ unknown → ⊥) → is_known f ≡ true
known f h = rw (ne_eqb f unknown h)

-- a byte is known
byte : (f a : ℕ) → f ≡ a → a < 256 → f ≡ unknown → ⊥
byte f a e h u = omega arith

-- the fact of the address of a bank
abbrev address : List ℕ → ℕ → ℕ
address fs s = get_or fs (9 + s / 8 % 2) unknown

-- ---- the next PC

-- ---- an act

-- what is read, and then what is delivered
module _ (image map table fs : List ℕ) (depth pc op : ℕ) (source : Source) (target : Target) where
  abbrev delivery : ℕ → List Question
  delivery x = target_questions map target (result_fact op (get_or fs 0 unknown) x) fs

  abbrev next : List Question
  next = ask 21 (ltb (pc + 1) (word_count image)) ∷ []

-- ---- a word that directs PC: what is read, and then where PC goes

module _ (image map table fs : List ℕ) (depth pc : ℕ) (source : Source) (control : Control) where
  pub go_stop : (f : ℕ) → (f ≡ 0 → ⊥) → Tells f (read_questions map source fs) → Tells f (word_findings image map table depth pc fs (go source control))
  go_stop f h t = tells_stop f (read_questions map source fs) (control_questions image table depth pc (span_of source fs) control) h t

-- CALL
pub aux_source : source_of 0 0 0 0 ≡ register 0 0 0
unfolding slot_of
aux_source = refl

module _ (image map table fs : List ℕ) (depth pc i low count : ℕ) (e : record { low = low; count = count } ≡ span_of (source_of 0 0 0 0) fs) where
  span_eq : record { low = low; count = count } ≡ span_of (register 0 0 0) fs
  span_eq = e ∙ ap (λ (s : Source). span_of s fs) aux_source

  calls : List Question
  calls = control_questions image table depth pc (record { low = low; count = count }) (call i)

  told : (r : ℕ) → Tells r calls → Tells r (word_findings image map table depth pc fs (go (register 0 0 0) (call i)))
  unfolding calls
  told r t = subst (λ (v : Span). Tells r (control_questions image table depth pc v (call i))) span_eq t

  inside : Bool
  inside = ltb (low * 256 + i) (word_count image) && ltb (pc + 1) (word_count image)

  pub call_unknown : depth < 8 → (count ≡ 1 → ⊥) → Tells 28 (word_findings image map table depth pc fs (go (register 0 0 0) (call i)))
  unfolding calls inside
  call_unknown h n =
      told 28 (tells_yes 26 28 (ltb depth 8) (ask 28 (eqb count 1) ∷ ask 21 inside ∷ []) (lt-ltb depth 8 h)
      (tells_no 28 (eqb count 1) (ask 21 inside ∷ []) (ne_eqb count 1 n) (λ z. omega arith)))

  pub call_inside : (b : Bool) → depth < 8 → count ≡ 1 → b ≡ (ltb (low * 256 + i) (word_count image) && ltb (pc + 1) (word_count image)) → b ≡ true
      → Tells 0 (word_findings image map table depth pc fs (go (register 0 0 0) (call i)))
  unfolding calls inside
  call_inside b h n eb t =
      told 0 (tells_yes 26 0 (ltb depth 8) (ask 28 (eqb count 1) ∷ ask 21 inside ∷ []) (lt-ltb depth 8 h)
      (tells_yes 28 0 (eqb count 1) (ask 21 inside ∷ []) (eq-eqb count 1 n) (tells_yes 21 0 inside [] (sym eb ∙ t) tells_none)))

  pub call_outside : (b : Bool) → depth < 8 → count ≡ 1 → b ≡ (ltb (low * 256 + i) (word_count image) && ltb (pc + 1) (word_count image)) → b ≡ false
      → Tells 21 (word_findings image map table depth pc fs (go (register 0 0 0) (call i)))
  unfolding calls inside
  call_outside b h n eb t =
      told 21 (tells_yes 26 21 (ltb depth 8) (ask 28 (eqb count 1) ∷ ask 21 inside ∷ []) (lt-ltb depth 8 h)
      (tells_yes 28 21 (eqb count 1) (ask 21 inside ∷ []) (eq-eqb count 1 n) (tells_no 21 inside [] (sym eb ∙ t) (λ z. omega arith))))

-- RET
