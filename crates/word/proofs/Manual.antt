-- The instruction words of the manual's 35 worked examples, read and written, as one list each. The case stands in the
-- manual's assembler notation: R17 is the right bus address, LIV3 the left bank at bit 3, @ octal, $ hexadecimal. Where
-- notation and binary word disagree, the binary word decides.
use Rattle.std.specs.Prelude.{Some}
use mathlib.Core.Path.{◌≡◌, refl}
use mathlib.Core.List.{List, [], ◌∷◌, map}
use Prim.Native.Nat.{ℕ}
use Rattle.word.specs.declared.Word.{Word}
use Rattle.word.specs.declared.Word.TheVariants.{Move, Add, And, Xor, XecRegister, XecBank, NztRegister, NztBank, Call, Ret, XmitRegister, XmitBank, Jmp}
use Rattle.word.specs.Word.{decoded, encoded}

abbrev words : List ℕ
words =
    320 ∷ 783 ∷ 2421 ∷ 7014 ∷ 4725 ∷ 5223 ∷ 0 ∷ 8579 ∷ 8975 ∷ 10643 ∷ 14227 ∷ 14217 ∷ 14223 ∷ 16771 ∷ 17167 ∷
    18835 ∷ 22409 ∷ 22419 ∷ 22415 ∷ 24963 ∷ 25359 ∷ 27027 ∷ 30601 ∷ 30611 ∷ 30607 ∷ 33741 ∷ 38006 ∷ 42546 ∷
    46381 ∷ 42804 ∷ 44800 ∷ 49407 ∷ 50987 ∷ 54662 ∷ 57674 ∷ []

abbrev cases : List Word
cases =
    -- 0x0140 MOVE R1(2), AUX
    Move 1 2 0 ∷
    -- 0x030F MOVE R3(0), R17
    Move 3 0 15 ∷
    -- 0x0975 MOVE R11, 3, LIV5
    Move 9 3 21 ∷
    -- 0x1B66 MOVE RIV3, 3, R6
    Move 27 3 6 ∷
    -- 0x1275 MOVE LIV2, 3, LIV5
    Move 18 3 21 ∷
    -- 0x1467 MOVE LIV4, 3, IVL
    Move 20 3 7 ∷
    -- 0x0000 NOP
    Move 0 0 0 ∷
    -- 0x2183 ADD R1 (4), R3
    Add 1 4 3 ∷
    -- 0x230F ADD R3 (0), IVR
    Add 3 0 15 ∷
    -- 0x2993 ADD R11, 4, LIV3
    Add 9 4 19 ∷
    -- 0x3793 ADD LIV7, 4, LIV3
    Add 23 4 19 ∷
    -- 0x3789 ADD LIV7, 4, R11
    Add 23 4 9 ∷
    -- 0x378F ADD LIV7, 4, IVR
    Add 23 4 15 ∷
    -- 0x4183 AND R1 (4), R3
    And 1 4 3 ∷
    -- 0x430F AND R3 (0), IVR
    And 3 0 15 ∷
    -- 0x4993 AND R11, 4, LIV3
    And 9 4 19 ∷
    -- 0x5789 AND LIV7, 4, R11
    And 23 4 9 ∷
    -- 0x5793 AND LIV7, 4, LIV3
    And 23 4 19 ∷
    -- 0x578F AND LIV7, 4, IVR
    And 23 4 15 ∷
    -- 0x6183 XOR R1 (4), R3
    Xor 1 4 3 ∷
    -- 0x630F XOR R3 (0), IVR
    Xor 3 0 15 ∷
    -- 0x6993 XOR R11, 4, LIV3
    Xor 9 4 19 ∷
    -- 0x7789 XOR LIV7, 4, R11
    Xor 23 4 9 ∷
    -- 0x7793 XOR LIV7, 4, LIV3
    Xor 23 4 19 ∷
    -- 0x778F XOR LIV7, 4, IVR
    Xor 23 4 15 ∷
    -- 0x83CD XEC 315 (R3)
    XecRegister 3 205 ∷
    -- 0x9476 XEC @26 (LIV4,3)
    XecBank 20 3 22 ∷
    -- 0xA632 NZT R6, $32
    NztRegister 6 50 ∷
    -- 0xB52D NZT LIV5, 1, 15H (octal 15, as its bits say)
    NztBank 21 1 13 ∷
    -- 0xA734 CALL $34
    Call 52 ∷
    -- 0xAF00 RET
    Ret 0 ∷
    -- 0xC0FF XMIT @377, AUX
    XmitRegister 0 255 ∷
    -- 0xC72B XMIT @027, IVL (octal 53, as its bits say)
    XmitRegister 7 43 ∷
    -- 0xD586 XMIT $06, LIV5, 4
    XmitBank 21 4 6 ∷
    -- 0xE14A JMP @512
    Jmp 330 ∷
    []

-- "Every valid word is read .. as the manual lists it"
pub manual_read : map decoded words ≡ cases
unfolding decoded
manual_read = refl

-- "and written again"
pub manual_written : map encoded cases ≡ map Some words
unfolding encoded
manual_written = refl
