-- A call site: the cell as it is loaded, and the word there.
use mathlib.Core.Path.{◌≡◌, refl, ap₂, ◌∙◌}
use mathlib.Core.Bool.{Bool, true, false, ◌&&◌, not, true≢false}
use mathlib.Core.List.{List}
use Prim.Native.Nat.{ℕ}
use Rattle.machine.specs.Shape.{Shape}
use Rattle.machine.specs.Step.{word_count, shape_at}
use Rattle.facts.specs.declared.Cell.{Cell}
use Rattle.facts.specs.Record.{cell_at}
use Rattle.transfer.specs.Passes.{point_at, is_call, some, words_at, is_call_site}

module _ (image table : List ℕ) (depth a : ℕ) where
  pub site : {b : Bool} {c : Cell} → b ≡ (cell_at table (point_at (word_count image) depth a)).reached → not b ≡ false
      → c ≡ cell_at table (point_at (word_count image) depth a) → {s : Shape} → s ≡ shape_at image a
      → {facts : List ℕ} → facts ≡ c.facts → {r : Bool} → r ≡ some is_call (words_at image a facts s) → r ≡ is_call_site image table depth a
  site {b} {c} here h e {s} read {facts} known {r} told =
      told ∙ ap₂ (λ (f : List ℕ) (x : Shape). some is_call (words_at image a f x)) known read ∙ yes_site b h
      ∙ ap₂ (λ (x : Bool) (d : Cell). x && some is_call (words_at image a d.facts (shape_at image a))) here e
    where
      yes_site : (b : Bool) {d : Bool} → not b ≡ false → d ≡ b && d
      yes_site true h = refl
      yes_site false h = absurd (true≢false h)
