-- The cells in table order: the first that has a number fails with it. Assumes nothing.
use mathlib.Core.Path.{◌≡◌, refl, sym, ◌∙◌, ap}
use mathlib.Core.Bool.{Bool, true, false}
use mathlib.Core.List.{List, []}
use mathlib.Core.Logic.{◌≢◌}
use Prim.Native.Nat.{ℕ, ◌+◌, ◌*◌, ◌/◌, ◌%◌, ◌≤◌, ◌<◌}
use native.Mathlib.Omega.{arith}
use native.Mathlib.Nat.{mul-le-mul, le_refl}
use lib.Arith.{digits_lt, digits_div, digits_mod}
use lib.ListN.{length, get_or, take, drop}
use borrow.Author.Tests.{lt-ltb, le-ltb}
use Rattle.std.specs.Prelude.{Option, Some, None, MatchOption}
use Rattle.std.specs.List.{AllWithin, HoldsAt}
use Rattle.std.specs.Simd.{first_chunks}
use Rattle.choice.proofs.Library.{chunk_at}
use Rattle.choice.specs.Choice.{pick}
use Rattle.machine.specs.Step.{word_count}
use Rattle.facts.specs.Record.{record_size, depths}
use Rattle.records.specs.Records.{record_fits}
use Rattle.transfer.specs.Passes.{point_at}
use Rattle.transfer.specs.Findings.{first_of}
use Rattle.transfer.proofs.First.{NoneBefore, first_here, first_none}
use Rattle.checking.specs.Check.{CheckAnswer}
use Rattle.checking.specs.Check.{Failed}
use Rattle.checking.specs.Check.{layout_at, fails_at, in_order}

-- ---- the next cell, in table order

pub next_address : (n depth a : ℕ) → depth * n + (a + 1) ≡ depth * n + a + 1
next_address n depth a = omega arith

pub next_depth : (n depth a : ℕ) → a + 1 ≡ n → (depth + 1) * n + 0 ≡ depth * n + a + 1
next_depth n depth a e = omega arith

pub past_all : (n depth a : ℕ) → 9 ≤ depth → 9 * n ≤ depth * n + a
past_all n depth a h = let row : 9 * n ≤ depth * n = mul-le-mul h (le_refl n) in omega arith

module _ (image : List ℕ) (number : ℕ → ℕ) (next : CheckAnswer) where
  -- the first number of all, at a place of the table
  pub fails_first : (i : ℕ) → i < depths * word_count image → first_of number 0 (depths * word_count image) ≡ i
      → Failed (number i) (i / word_count image) (i % word_count image) ≡ in_order image number next
  fails_first i l e = sym (ap (fails_at image number next) e ∙ rw (lt-ltb i (depths * word_count image) l))

  -- the same at a depth and an address
  pub fails_here : (depth pc : ℕ) → depth < depths → pc < word_count image → NoneBefore number (point_at (word_count image) depth pc)
      → {n : ℕ} → n ≡ number (point_at (word_count image) depth pc) → n ≢ 0 → Failed n depth pc ≡ in_order image number next
  fails_here depth pc deep near none {n = n} e some =
      (λ k. Failed (e k) (sym (digits_div depth near) k) (sym (digits_mod depth near) k))
      ∙ fails_first (point_at (word_count image) depth pc) (digits_lt deep near)
      (first_here number (point_at (word_count image) depth pc) (depths * word_count image) (digits_lt deep near) none (λ z. some (e ∙ z)))

  -- no number: what is asked next
  pub asks_next : NoneBefore number (depths * word_count image) → next ≡ in_order image number next
  asks_next none =
      sym
      (ap (fails_at image number next) (first_none number (depths * word_count image) none)
      ∙ rw (le-ltb (depths * word_count image) (depths * word_count image) (omega arith)))

-- ---- the records
module _ (table : List ℕ) (i : ℕ) where
  abbrev fits : Bool
  fits = record_fits (take record_size (drop (record_size * i) table))

  pub fits_of : layout_at table i ≡ 0 → record_fits (take record_size (drop (record_size * i) table)) ≡ true
  fits_of = go fits
    where
      go : (b : Bool) → pick {A = ℕ} b 0 42 ≡ 0 → b ≡ true
      go true z = refl
      go false z = absurd (omega (arith, z))

  pub number_42 : layout_at table i ≢ 0 → 42 ≡ layout_at table i
  number_42 = go fits
    where
      go : (b : Bool) → pick {A = ℕ} b 0 42 ≢ 0 → 42 ≡ pick {A = ℕ} b 0 42
      go true some = absurd (some refl)
      go false some = refl

-- the first of a table's chunks that has another layout
module _ (table : List ℕ) {parts : List (List ℕ)} (front : parts ≡ first_chunks record_size (length table / record_size) table)
    (count : ℕ) (long : length parts ≡ count) (room : length table / record_size ≡ count) where
  part : (i : ℕ) → i < count → get_or parts i [] ≡ take record_size (drop (record_size * i) table)
  part i l = ap (λ (ps : List (List ℕ)). get_or ps i []) front ∙ chunk_at record_size (length table / record_size) table i [] (omega (arith, room))

  laid : (i : ℕ) {b : Bool} → i < count → record_fits (get_or parts i []) ≡ b → layout_at table i ≡ pick b 0 42
  laid i l e = ap (λ (b : Bool). pick b 0 42) (sym (ap record_fits (part i l)) ∙ e)

  pub first_layout : (r : Option ℕ)
      → MatchOption r (AllWithin (λ b. record_fits b ≡ true) parts 0 (length parts))
      (λ i. (i < length parts) × HoldsAt (λ b. record_fits b ≡ false) parts i × AllWithin (λ b. record_fits b ≡ true) parts 0 i)
      → MatchOption r (first_of (layout_at table) 0 count ≡ count) (λ i. (i < count) × (i ≡ first_of (layout_at table) 0 count))
  first_layout None all = first_none (layout_at table) count (λ k l. laid k l (all k [] (omega arith) (omega (arith, long))))
  first_layout (Some i) h =
      let l : i < count = omega (arith, h.0, long) in (
        l,
        sym
            (first_here (layout_at table) i count l (λ k m. laid k (omega arith) (h.2 k [] (omega arith) m))
            (λ z. let other = laid i l (h.1 []) in absurd (omega (arith, z, other)))),
      )
