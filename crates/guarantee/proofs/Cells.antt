-- What a closed table without findings says of a reached cell: all its questions are answered yes, and all that it passes
-- on is held where it goes; and a state that goes there lies inside the table.
use mathlib.Core.Path.{◌≡◌, refl, subst, subst₂}
use mathlib.Core.Bool.{true}
use mathlib.Core.List.{List, [], ◌∷◌}
use Prim.Native.Nat.{ℕ, ◌*◌, ◌/◌, ◌%◌, ◌<◌}
use lib.Arith.{digits_lt, digits_div, digits_mod}
use lib.Dec.{ltb}
use lib.ListN.{length}
use borrow.Author.Tests.{lt-ltb}
use Rattle.choice.specs.Choice.{pick, Question, first_no}
use Rattle.choice.proofs.Laws.{and_first, and_second}
use Rattle.state.specs.declared.State.{State}
use Rattle.machine.specs.Step.{word_count}
use Rattle.flow.specs.Flow.{Pass, Closed, all_covered}
use Rattle.flow.proofs.Each.{Each, none, also}
use Rattle.facts.specs.declared.Cell.{Cell}
use Rattle.facts.specs.Facts.{within, all_know_no_more, fact_count}
use Rattle.facts.specs.Record.{depths, cell_of, reset_cell, holds_cell, read_cell, cell_at}
use Rattle.transfer.specs.Passes.{point_at, toward, cell_passes, passes_from, table_space}
use Rattle.transfer.specs.Findings.{cell_questions, finding_at, NoFinding}
use Rattle.guarantee.specs.Safe.{Inside}
use Rattle.transfer.proofs.Membership.{each_picked}
use Rattle.guarantee.proofs.Within.{within_no_more}
use Rattle.guarantee.proofs.Questions.{Yes, all_yes, cell_numbered}

-- a pass is held at its target
abbrev pub Held : List ℕ → Pass Cell → Type 0
Held table p = holds_cell (cell_at table p.target) p.cell ≡ true

pub all_held_lem : (image table : List ℕ) (ps : List (Pass Cell)) → all_covered (table_space image) table ps ≡ true → Each (Held table) ps
unfolding all_covered
all_held_lem image table [] h = none
all_held_lem image table (p ∷ ps) h =
    let here = holds_cell (cell_at table p.target) p.cell in
    let rest = all_covered (table_space image) table ps in
    also (and_first here rest h) (all_held_lem image table ps (and_second here rest h))

pub facts_length : (table : List ℕ) (i : ℕ) → length (cell_at table i).facts ≡ fact_count
unfolding cell_at read_cell
facts_length table i = refl

-- a cell that holds what is reached is reached, and what lies within those facts lies within its own
pub held_reached : (c : Cell) (facts : List ℕ) → holds_cell c (cell_of true facts) ≡ true → c.reached ≡ true
unfolding holds_cell
held_reached c facts h = and_first c.reached (all_know_no_more c.facts facts) h

pub held_within : (c : Cell) (facts values : List ℕ) → holds_cell c (cell_of true facts) ≡ true → within facts values ≡ true
    → within c.facts values ≡ true
unfolding holds_cell
held_within c facts values h w =
    within_no_more c.facts facts values (and_second c.reached (all_know_no_more c.facts facts) h) w

-- a state at the target of what is held lies inside the table
pub arrives : (image table facts : List ℕ) (s : State) → s.depth < depths → s.pc < word_count image
    → Each (Held table) (toward (word_count image) s.depth s.pc facts) → within facts s.values ≡ true
    → Inside image table s
arrives image table facts s shallow near held w = told (each_picked (ltb s.pc (word_count image)) (lt-ltb _ _ near) held)
  where
    told : Each (Held table) (record { target = point_at (word_count image) s.depth s.pc; cell = cell_of true facts } ∷ [])
        → Inside image table s
    told (also h e) =
        record {
          depth = shallow;
          near = near;
          reached = held_reached _ facts h;
          agrees = held_within _ facts s.values h w;
        }

-- the questions and passes of a reached cell
pub record Settled (image map table : List ℕ) (depth pc : ℕ) (facts : List ℕ) : Type 0 where
  pub questions : Each Yes (cell_questions image map table depth pc facts)
  pub passes : Each (Held table) (cell_passes image table depth pc facts)

nothing_found : (image map table : List ℕ) (i : ℕ) → (cell_at table i).reached ≡ true → finding_at image map table i ≡ 0
    → first_no (cell_questions image map table (i / word_count image) (i % word_count image) (cell_at table i).facts) ≡ 0
unfolding finding_at
nothing_found image map table i reached h = subst (λ b. pick b (first_no questions) 0 ≡ 0) reached h
  where
    questions : List Question
    questions = cell_questions image map table (i / word_count image) (i % word_count image) (cell_at table i).facts

pub settled : (image map table : List ℕ) → Closed (table_space image) reset_cell table → NoFinding image map table
    → (depth pc : ℕ) → depth < depths → pc < word_count image → (cell_at table (point_at (word_count image) depth pc)).reached ≡ true
    → Settled image map table depth pc (cell_at table (point_at (word_count image) depth pc)).facts
settled image map table closed clean depth pc shallow near reached =
    record {
      questions =
          all_yes (cell_numbered image map table depth pc facts)
          (at_place (λ d a. first_no (cell_questions image map table d a facts) ≡ 0) no_finding);
      passes = at_place (λ d a. Each (Held table) (cell_passes image table d a facts)) held;
    }
  where
    i : ℕ
    i = point_at (word_count image) depth pc

    facts : List ℕ
    facts = (cell_at table i).facts

    inside : i < depths * word_count image
    inside = digits_lt shallow near

    at_place : (P : ℕ → ℕ → Type 0) → P (i / word_count image) (i % word_count image) → P depth pc
    at_place P p = subst₂ P (digits_div depth near) (digits_mod depth near) p

    no_finding : first_no (cell_questions image map table (i / word_count image) (i % word_count image) facts) ≡ 0
    no_finding = nothing_found image map table i reached (clean.none i (lt-ltb _ _ inside))

    held : Each (Held table) (cell_passes image table (i / word_count image) (i % word_count image) facts)
    held =
        each_picked (cell_at table i).reached reached
        (all_held_lem image table (passes_from image table i) (closed.passed i inside))
