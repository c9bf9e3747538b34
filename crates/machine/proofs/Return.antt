-- "The step ignores it" (document 02, 2026-01): RET has one shape, whatever its low byte. A step, what a cell passes on and
-- the cell questions know a word by its shape alone.
use mathlib.Core.List.{List}
use mathlib.Core.Path.{◌≡◌, ap, ◌∙◌}
use Prim.Native.Nat.{ℕ, ◌+◌, ◌*◌, ◌<◌}
use native.Mathlib.Omega.{arith}
use lib.ListN.{get_or}
use borrow.Author.Tests.{lt-ltb}
use Rattle.word.specs.declared.Word.TheVariants.{Ret}
use Rattle.word.specs.Word.{decoded, encoded, word_of}
use Rattle.word.proofs.Laws.{write_then_read}
use Rattle.machine.specs.Shape.{constant, return, go, shape_of}
use Rattle.machine.specs.Step.{word_at, shape_at}

-- the word at an address, its high byte being 0xAF
pub return_shape : (image : List ℕ) (a : ℕ) → get_or image (2 * a) 0 ≡ 175 → get_or image (2 * a + 1) 0 < 256
    → shape_at image a ≡ go (constant 0) return
unfolding shape_of encoded
return_shape image a h l =
    let i : ℕ = get_or image (2 * a + 1) 0 in
    let w : word_at image a ≡ word_of 5 15 i = omega arith in
    ap (λ (v : ℕ). shape_of (decoded v)) w ∙ ap shape_of (write_then_read (Ret i) (word_of 5 15 i) (rw (lt-ltb i 256 l)))
