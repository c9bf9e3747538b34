-- The lines of a text: one more, and no more. Assumes nothing.
use mathlib.Core.Path.{◌≡◌, refl, sym, ap, ◌∙◌, subst}
use mathlib.Core.List.{List, [], ◌∷◌}
use Prim.Native.Nat.{ℕ, zero, suc, ◌-◌, ◌≤◌, ◌<◌}
use native.Mathlib.Omega.{arith}
use borrow.Author.Tests.{lt-ltb, le-ltb}
use lib.ListN.{length, drop}
use Rattle.std.specs.List.{FoldsTo}
use Rattle.cases.specs.Cases.{place_behind}
use Rattle.harness.specs.Lines.{texts_from}

module _ (rest : List ℕ) where
  next_text : {n next : ℕ} → 0 < length rest → 0 < n → next ≡ place_behind rest 0 10 → texts_from n rest ≡ rest ∷ texts_from (n - 1) (drop next rest)
  unfolding texts_from
  next_text {n} some left e =
      let more : n ≡ suc (n - 1) = omega arith in
      ap (λ (m : ℕ). texts_from m rest) more
      ∙ rw (lt-ltb 0 (length rest) some) (ap (λ (p : ℕ). rest ∷ texts_from (n - 1) (drop p rest)) (sym e))

  last_text : (n : ℕ) → length rest ≤ 0 → texts_from n rest ≡ []
  unfolding texts_from
  last_text zero over = refl
  last_text (suc n) over = rw (le-ltb 0 (length rest) over)

  module _ {P : Type 0} (R : P → List ℕ → P → Type 0) (p last : P) where
    pub line_more : (q : P) (n next : ℕ) → 0 < length rest → 0 < n → next ≡ place_behind rest 0 10 → R p rest q
        → FoldsTo R q (texts_from (n - 1) (drop next rest)) last → FoldsTo R p (texts_from n rest) last
    line_more q n next some left e step more =
        subst (λ (texts : List (List ℕ)). FoldsTo R p texts last) (sym (next_text some left e)) (q, step, more)

    pub line_last : (n : ℕ) → length rest ≤ 0 → p ≡ last → FoldsTo R p (texts_from n rest) last
    line_last n over e = subst (λ (texts : List (List ℕ)). FoldsTo R p texts last) (sym (last_text n over)) e
