-- The lines of several parts, and the counts of a map.
use mathlib.Core.Path.{◌≡◌, refl, ◌∙◌}
use Rattle.std.specs.Prelude.{Result, Ok, Err}
use Rattle.refusal.specs.declared.Refusal.{Refusal}
use Rattle.map.specs.declared.SetSizes.{SetSizes}
use mathlib.Core.List.{List, ◌++◌, append_assoc}
use Prim.Native.Nat.{ℕ, ◌<◌}
use native.Mathlib.Omega.{arith}
use borrow.Author.Tests.{eq-eqb}
use lib.ListN.{length}
use Rattle.map.specs.Map.{Counts}
use Rattle.map.specs.Map.{Sets}
use Rattle.map.specs.Map.{map_length, count_of, counts_told, counted}
use Rattle.map.proofs.Laws.{count_le}
use Rattle.machine.specs.Step.{word_count}
use Rattle.text.specs.Text.{decimal, space_text, refused_text}
use Rattle.text.specs.Parts.{Written}
use Rattle.text.proofs.Writing.{behind, the_same}
use Rattle.report.specs.Report.{admitted_text, left_text, right_text, depth_text, address_text, sets_text, found_line, admitted_line}

-- ---- the lines of several parts

threes : (s d t e u f : List ℕ) → ((s ++ d) ++ (t ++ e)) ++ (u ++ f) ≡ s ++ (d ++ (t ++ (e ++ (u ++ f))))
threes s d t e u f = simp append_assoc

fours : (s d t e u f v g : List ℕ) → (((s ++ d) ++ (t ++ e)) ++ (u ++ f)) ++ (v ++ g) ≡ s ++ (d ++ (t ++ (e ++ (u ++ (f ++ (v ++ g))))))
fours s d t e u f v g = simp append_assoc

module _ {o a b : List ℕ} {i p q : ℕ} where
  pub found_line_lem : {c : List ℕ} {r : ℕ} (number depth address : ℕ) → Written o i (refused_text ++ decimal number) a p
      → Written a p (depth_text ++ decimal depth) b q → Written b q (address_text ++ decimal address) c r
      → Written o i (found_line number depth address) c r
  found_line_lem number depth address u v w =
      the_same (behind (behind u v) w) (threes refused_text (decimal number) depth_text (decimal depth) address_text (decimal address))

  pub sets_text_lem : {c d : List ℕ} {r s : ℕ} (g h k l : ℕ) → Written o i (left_text ++ decimal g) a p → Written a p (space_text ++ decimal h) b q
      → Written b q (right_text ++ decimal k) c r → Written c r (space_text ++ decimal l) d s → Written o i (sets_text g h k l) d s
  sets_text_lem g h k l u v w x =
      the_same (behind (behind (behind u v) w) x)
      (fours left_text (decimal g) space_text (decimal h) right_text (decimal k) space_text (decimal l))

  pub admitted_line_lem : (image map : List ℕ) {words g h k l : ℕ} → words ≡ word_count image
      → (g ≡ count_of map 0) × (h ≡ count_of map 1) × (k ≡ count_of map 2) × (l ≡ count_of map 3)
      → Written o i (admitted_text ++ decimal words) a p → Written a p (sets_text g h k l) b q → Written o i (admitted_line image map) b q
  admitted_line_lem image map {words} {g} {h} {k} {l} f counts u v =
      the_same (behind u v)
      (append_assoc admitted_text (decimal words) (sets_text g h k l) ∙ rw (f, counts.0, counts.1, counts.2, counts.3))

-- ---- the counts of a map

pub small_counts : (map : List ℕ) {g h k l : ℕ} → (g ≡ count_of map 0) × (h ≡ count_of map 1) × (k ≡ count_of map 2) × (l ≡ count_of map 3)
    → (g < 1000) × (h < 1000) × (k < 1000) × (l < 1000)
small_counts map counts = (
  omega (arith, counts.0, count_le map 0 256),
  omega (arith, counts.1, count_le map 1 256),
  omega (arith, counts.2, count_le map 2 256),
  omega (arith, counts.3, count_le map 3 256),
)
