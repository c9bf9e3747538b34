-- What a word reads, does and writes ("One step" of document 01), as a shape: one clause for each kind of word.
-- Slots number the eleven values: AUX, R1-R6, R11, OVF, left address, right address. Bank 0 is left, 1 is right.
use Rattle.std.specs.Prelude.{ℕ, ◌/◌, ◌%◌, leb, ltb, eqb}
use Rattle.choice.specs.Choice.{pick}
use Rattle.word.specs.declared.Word.{Word}
use Rattle.word.specs.declared.Word.TheVariants.{Move, Add, And, Xor, XecRegister, XecBank, NztRegister, NztBank, Call, Ret, XmitRegister, XmitBank, Jmp, Invalid}

-- Where a word takes its source from.
pub data Source : Type 0 where
  -- the register at a slot, rotated right by some places, then the low bits of a length
  register : ℕ → ℕ → ℕ → Source
  -- a bank's byte: the field at a bit position, of a length
  bank : ℕ → ℕ → ℕ → Source
  -- a constant of the word
  constant : ℕ → Source

-- Where a word puts its result.
pub data Target : Type 0 where
  -- a register or a bus address, by its slot
  slot : ℕ → Target
  -- a bank's latch: the field at a bit position, of a length
  latch : ℕ → ℕ → ℕ → Target

-- Where PC goes. A page has 256 addresses, or 32 for a word that reads a bank.
pub data Control : Type 0 where
  jump : ℕ → Control
  -- page and I of NZT
  branch : ℕ → ℕ → Control
  -- page and I of XEC
  defer : ℕ → ℕ → Control
  -- I of CALL
  call : ℕ → Control
  return : Control

pub data Shape : Type 0 where
  -- source, opcode of MOVE, ADD, AND or XOR, target; PC goes on by one
  act : Source → ℕ → Target → Shape
  go : Source → Control → Shape
  invalid : Shape

-- the slot of a register number: 00-06, 11, 10 (OVF), 07 and 17 (left and right address)
unfoldable pub slot_of : ℕ → ℕ
slot_of r = pick (ltb r 7) r (pick (eqb r 9) 7 (pick (eqb r 8) 8 (pick (eqb r 7) 9 10)))

-- "20-27 is the left bank, 30-37 the right, the last digit the bit position"
abbrev pub bank_of : ℕ → ℕ
bank_of r = r / 8 % 2

abbrev pub position_of : ℕ → ℕ
position_of r = r % 8

-- a source by its number: the register rotated by some places and kept to a length, or the bank's field of length l
abbrev pub source_of : ℕ → ℕ → ℕ → ℕ → Source
source_of s places kept l = pick (leb 16 s) (bank (bank_of s) (position_of s) l) (register (slot_of s) places kept)

-- a target by its number, with length l in a bank
abbrev pub target_of : ℕ → ℕ → Target
target_of d l = pick (leb 16 d) (latch (bank_of d) (position_of d) l) (slot (slot_of d))

-- "register to register or to a bus address: rotated right R places. Register to bank: the whole register"
abbrev pub places_of : ℕ → ℕ → ℕ
places_of rl d = pick (leb 16 d) 0 rl

-- ADD alone: "keeps the low L bits of a register source before the sum when the destination is a bank" (2026-04 of
-- document 02). All eight, length 0, to a register or a bus address, and in every other word.
abbrev pub kept_of : ℕ → ℕ → ℕ → ℕ
kept_of op rl d = pick (eqb op 1) (pick (leb 16 d) rl 0) 0

-- opcodes 0-3
abbrev pub act_shape : ℕ → ℕ → ℕ → ℕ → Shape
act_shape op s rl d = act (source_of s (places_of rl d) (kept_of op rl d) rl) op (target_of d rl)

-- XEC and NZT take the whole register, or the bank's field; CALL takes AUX as its page; RET's low byte is ignored
-- (document 02, 2026-01)
unfoldable pub shape_of : Word → Shape
shape_of (Move s rl d) = act_shape 0 s rl d
shape_of (Add s rl d) = act_shape 1 s rl d
shape_of (And s rl d) = act_shape 2 s rl d
shape_of (Xor s rl d) = act_shape 3 s rl d
shape_of (XecRegister s i) = go (source_of s 0 0 0) (defer 256 i)
shape_of (XecBank s l i) = go (source_of s 0 0 l) (defer 32 i)
shape_of (NztRegister s i) = go (source_of s 0 0 0) (branch 256 i)
shape_of (NztBank s l i) = go (source_of s 0 0 l) (branch 32 i)
shape_of (Call i) = go (register 0 0 0) (call i)
shape_of (Ret i) = go (constant 0) return
shape_of (XmitRegister d i) = act (constant i) 0 (target_of d 0)
shape_of (XmitBank d l i) = act (constant i) 0 (target_of d l)
shape_of (Jmp a) = go (constant 0) (jump a)
shape_of Invalid = invalid
