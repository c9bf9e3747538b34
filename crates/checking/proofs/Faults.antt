-- What a cell fails with. Assumes nothing.
use mathlib.Core.Path.{◌≡◌, sym, ◌∙◌, ap, subst}
use mathlib.Core.Bool.{Bool, true, false, not}
use mathlib.Core.List.{List}
use mathlib.Core.Logic.{◌≢◌}
use Prim.Native.Nat.{ℕ, ◌/◌, ◌%◌, ◌<◌}
use native.Mathlib.Omega.{arith}
use lib.ListN.{length}
use borrow.Author.Tests.{eq-eqb, ne_eqb, lt-ltb, not-true}
use Rattle.choice.specs.Choice.{pick, first_no}
use Rattle.machine.specs.Step.{word_count}
use Rattle.flow.specs.Flow.{changes_all, all_covered}
use Rattle.flow.proofs.Rest.{all_covered-nil}
use Rattle.facts.specs.declared.Cell.{Cell}
use Rattle.facts.specs.Record.{cell_at}
use Rattle.transfer.specs.Passes.{point_at, cell_passes, passes_from, table_space}
use Rattle.transfer.specs.Findings.{cell_questions, finding_at}
use Rattle.passing.specs.Passing.{Laid, seen, Passed}
use Rattle.passing.proofs.Joining.{sees_asked}
use Rattle.walking.proofs.Cell.{nothing_passed, reached_passes}
use Rattle.checking.specs.Check.{fault_at}

module _ (image map table : List ℕ) (i : ℕ) where
  -- a finding
  pub fault_found : finding_at image map table i ≢ 0 → finding_at image map table i ≡ fault_at image map table i
  unfolding fault_at
  fault_found some = rw (ne_eqb (finding_at image map table i) 0 some)

  -- none, and all that it passes on is held, or not
  pub fault_told : finding_at image map table i ≡ 0 → {b : Bool} → b ≡ all_covered (table_space image) table (passes_from image table i)
      → pick b 0 43 ≡ fault_at image map table i
  unfolding fault_at
  fault_told none e = rw (eq-eqb (finding_at image map table i) 0 none, ← e)

  -- a cell that is not reached
  pub fault_nowhere : {b : Bool} → b ≡ (cell_at table i).reached → not b ≡ true → 0 ≡ fault_at image map table i
  unfolding finding_at
  fault_nowhere {b = b} e n =
      let no : (cell_at table i).reached ≡ false = sym e ∙ not-true b n in
      fault_told
      (ap (λ (x : Bool). pick x (first_no (cell_questions image map table (i / word_count image) (i % word_count image) (cell_at table i).facts)) 0) no)
      {b = true}
      (sym (ap (all_covered (table_space image) table) (nothing_passed image table i e n) ∙ all_covered-nil (table_space image) table))

-- a table has records
pub some_records : (image table : List ℕ) (pc : ℕ) → Laid image table → pc < word_count image → 0 < length table
some_records image table pc l h = omega (arith, l.layout.long)

-- the walk over what a reached cell passes on
pub walked : (image map table : List ℕ) (depth pc : ℕ) → pc < word_count image → 0 < length table → {b : Bool} {c : Cell}
    → b ≡ (cell_at table (point_at (word_count image) depth pc)).reached → not b ≡ false → c ≡ cell_at table (point_at (word_count image) depth pc)
    → finding_at image map table (point_at (word_count image) depth pc) ≡ 0
    → {d : ℕ} {none m after n : List ℕ} {r : Bool} → Passed image table d none m (cell_passes image (seen table none) depth pc c.facts) after n r
    → pick (not r) 0 43 ≡ fault_at image map table (point_at (word_count image) depth pc)
walked image map table depth pc near some {c = c} here n e found {none = none} {r = r} p =
    fault_told image map table (point_at (word_count image) depth pc) found
    (held (all_covered (table_space image) table (cell_passes image table depth pc c.facts)) told
    ∙ ap (all_covered (table_space image) table) (sym (reached_passes image table depth pc near here n e)))
  where
    told : r ≡ not (all_covered (table_space image) table (cell_passes image table depth pc c.facts))
    told =
        subst (λ (t : List ℕ). r ≡ not (all_covered (table_space image) table (cell_passes image t depth pc c.facts))) (sees_asked table none some)
        (subst (λ (b : Bool). r ≡ pick b (not (all_covered (table_space image) table (cell_passes image (seen table none) depth pc c.facts))) (changes_all (table_space image) none (cell_passes image (seen table none) depth pc c.facts))) (lt-ltb 0 (length table) some) p.flag)

    held : (x : Bool) → r ≡ not x → not r ≡ x
    held true q = ap not q
    held false q = ap not q
