-- Shapes whose slots, banks, places, lengths and constants are in range, and that a decoded word has such a shape.
use mathlib.Core.Bool.{Bool, true, false, false≢true}
use mathlib.Core.List.{List}
use mathlib.Core.Path.{◌≡◌, refl, ap}
use Prim.Native.Nat.{ℕ, ◌+◌, ◌*◌, ◌^◌, ◌≤◌, ◌<◌}
use native.Mathlib.Omega.{arith}
use lib.Pow.{pow_mono}
use borrow.Author.Tests.{ltb-true, eqb-true, eqb-false, le-leb, ne_eqb}
use lib.Dec.{leb, ltb, eqb}
use Rattle.choice.proofs.Laws.{pick_both, pick_cases}
use Rattle.word.specs.declared.Word.{Word}
use Rattle.word.specs.declared.Word.TheVariants.{Move, Add, And, Xor, XecRegister, XecBank, NztRegister, NztBank, Call, Ret, XmitRegister, XmitBank, Jmp, Invalid}
use Rattle.word.specs.Word.{is_bank, is_register_target, is_target, ActInRange, InRange, decoded}
use Rattle.word.proofs.Laws.{bank_range, decoded_in_range}
use Rattle.field.specs.Field.{width_of}
use Rattle.state.specs.State.{overflow_slot, EachBelow}
use Rattle.machine.specs.Shape.{Source, register, bank, constant, Target, slot, latch, Control, jump, branch, defer, call, return, Shape, act, go, invalid}
use Rattle.machine.specs.Shape.{slot_of, source_of, target_of, places_of, kept_of, act_shape, shape_of}
use Rattle.machine.specs.Step.{word_at, shape_at}
use Rattle.machine.specs.Parts.{IsPage}

abbrev pub SourceInRange : Source → Type 0
SourceInRange (register k places kept) = (k < 11) × (places < 8)
SourceInRange (bank b p l) = (b < 2) × (p < 8) × (l < 8)
SourceInRange (constant x) = x < 256

-- OVF is no word's target
abbrev pub TargetInRange : Target → Type 0
TargetInRange (slot k) = (k < 11) × (k ≡ overflow_slot → ⊥)
TargetInRange (latch b p l) = (b < 2) × (p < 8) × (l < 8)

-- how many values a source may have
abbrev pub most_values : Source → ℕ
most_values (register k places kept) = 256
most_values (bank b p l) = 2 ^ width_of l
most_values (constant x) = 1

-- an XEC's page has an address for each value of its source
abbrev pub ControlInRange : Source → Control → Type 0
ControlInRange source (jump a) = a < 8192
ControlInRange source (branch page i) = IsPage page × (i < page)
ControlInRange source (defer page i) = IsPage page × (i < page) × (most_values source ≤ page)
ControlInRange source (call i) = i < 256
ControlInRange source return = Unit

abbrev pub ShapeInRange : Shape → Type 0
ShapeInRange (act source op target) = SourceInRange source × TargetInRange target
ShapeInRange (go source control) = SourceInRange source × ControlInRange source control
ShapeInRange invalid = Unit

-- ---- registers and their slots

pub slot_lt : (r : ℕ) → slot_of r < 11
unfolding slot_of
slot_lt r =
    pick_cases (λ (k : ℕ). k < 11) (ltb r 7) (λ e. omega (arith, ltb-true r 7 e))
    (λ _. pick_both (λ (k : ℕ). k < 11) (eqb r 9) (omega arith)
    (pick_both (λ (k : ℕ). k < 11) (eqb r 8) (omega arith) (pick_both (λ (k : ℕ). k < 11) (eqb r 7) (omega arith) (omega arith))))

-- only OVF, 10 octal, has the slot of OVF
pub slot_not_overflow : (r : ℕ) → (r ≡ 8 → ⊥) → slot_of r ≡ overflow_slot → ⊥
unfolding slot_of
slot_not_overflow r h =
    pick_cases Other (ltb r 7) (λ e z. omega (arith, ltb-true r 7 e))
    (λ _. pick_both Other (eqb r 9) (λ z. omega arith)
    (pick_cases Other (eqb r 8) (λ e z. h (eqb-true r 8 e)) (λ _. pick_both Other (eqb r 7) (λ z. omega arith) (λ z. omega arith))))
  where
    Other : ℕ → Type 0
    Other k = k ≡ overflow_slot → ⊥

-- ---- the shape of a word whose fields are in range

source_in_range : (s places kept l : ℕ) → places < 8 → l < 8 → SourceInRange (source_of s places kept l)
source_in_range s places kept l hp hl = pick_both SourceInRange (leb 16 s) (omega arith, omega arith, hl) (slot_lt s, hp)

target_in_range : (d l : ℕ) → l < 8 → (d ≡ 8 → ⊥) → TargetInRange (target_of d l)
target_in_range d l hl hd = pick_both TargetInRange (leb 16 d) (omega arith, omega arith, hl) (slot_lt d, slot_not_overflow d hd)

-- OVF, 10 octal, is in no list of targets
not_listed : (listed : ℕ → Bool) {d : ℕ} → listed 8 ≡ false → listed d ≡ true → d ≡ 8 → ⊥
not_listed listed none h e = let z : false ≡ true = cc (ap listed e) in false≢true z

page_256 : IsPage 256
page_256 other = absurd (other refl)

page_32 : IsPage 32
page_32 other = refl

-- a page is not empty and has at most 256 addresses
pub page_range : (page : ℕ) → IsPage page → (0 < page) × (page ≤ 256)
page_range page p = go (eqb page 256) refl
  where
    go : (b : Bool) → eqb page 256 ≡ b → (0 < page) × (page ≤ 256)
    go true e = let h = eqb-true page 256 e in (omega arith, omega arith)
    go false e = let h = p (eqb-false page 256 e) in (omega arith, omega arith)

register_page : (s : ℕ) → most_values (source_of s 0 0 0) ≤ 256
register_page s = pick_both (λ (source : Source). most_values source ≤ 256) (leb 16 s) (omega arith) (omega arith)

bank_page : (s l : ℕ) → is_bank s ≡ true → 1 ≤ l → l < 6 → most_values (source_of s 0 0 l) ≤ 32
bank_page s l b long short =
    let nonzero : eqb l 0 ≡ false = ne_eqb l 0 (λ e. omega arith) in
    let most : 2 ^ l ≤ 32 = pow_mono {j = 5} (omega arith) in
    rw (le-leb 16 s (bank_range s b).0, nonzero) most

act_in_range : (op s rl d : ℕ) → ActInRange s rl d → ShapeInRange (act_shape op s rl d)
act_in_range op s rl d h = (
  source_in_range s (places_of rl d) (kept_of op rl d) rl (pick_both (λ (n : ℕ). n < 8) (leb 16 d) (omega arith) h.1) h.1,
  target_in_range d rl h.1 (not_listed is_target refl h.4),
)

-- XEC and NZT of a register: the whole of it
whole_in_range : (s : ℕ) → SourceInRange (source_of s 0 0 0)
whole_in_range s = source_in_range s 0 0 0 (omega arith) (omega arith)

pub shape_in_range : (w : Word) → InRange w → ShapeInRange (shape_of w)
unfolding shape_of
shape_in_range (Move s rl d) h = act_in_range 0 s rl d h
shape_in_range (Add s rl d) h = act_in_range 1 s rl d h
shape_in_range (And s rl d) h = act_in_range 2 s rl d h
shape_in_range (Xor s rl d) h = act_in_range 3 s rl d h
shape_in_range (XecRegister s i) h = (whole_in_range s, (page_256, h.2, register_page s))
shape_in_range (XecBank s l i) h = (source_in_range s 0 0 l (omega arith) h.0.2, (page_32, h.0.3, bank_page s l h.0.1 h.1 h.2))
shape_in_range (NztRegister s i) h = (whole_in_range s, (page_256, h.2))
shape_in_range (NztBank s l i) h = (source_in_range s 0 0 l (omega arith) h.2, (page_32, h.3))
shape_in_range (Call i) h = ((omega arith, omega arith), h)
shape_in_range (Ret i) h = (omega arith, tt)
shape_in_range (XmitRegister d i) h = (h.2, target_in_range d 0 (omega arith) (not_listed is_register_target refl h.1))
shape_in_range (XmitBank d l i) h = (omega arith, target_in_range d l h.2 (not_listed is_bank refl h.1))
shape_in_range (Jmp a) h = (omega arith, h)
shape_in_range Invalid h = tt

-- the shape at an address of an image of bytes
pub shape_at_in_range : (image : List ℕ) → EachBelow 256 image → (a : ℕ) → ShapeInRange (shape_at image a)
shape_at_in_range image h a =
    shape_in_range (decoded (word_at image a)) (decoded_in_range (word_at image a) (omega (arith, h (2 * a), h (2 * a + 1))))
