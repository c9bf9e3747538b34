-- What is found at a cell: the cell questions ("The table of facts" of document 01), in order.
use Rattle.std.specs.Prelude.{◌≡◌, Bool, true, false, ◌&&◌, ◌||◌, not, List, [], ◌∷◌, ◌++◌, ℕ, zero, suc, ◌+◌, ◌-◌, ◌*◌, ◌/◌, ◌%◌, leb, ltb, eqb, get_or}
use Rattle.choice.specs.Choice.{pick, Question, ask, first_no}
use Rattle.map.specs.Map.{readable, writable, listed}
use Rattle.state.specs.State.{stack_places, address_slot}
use Rattle.machine.specs.Shape.{Source, register, bank, constant, Target, slot, latch, Control, jump, branch, defer, call, return, Shape, act, go, invalid}
use Rattle.machine.specs.Step.{word_count, shape_at, in_page}
use Rattle.facts.specs.Facts.{unknown, is_known, Span, span_of, may_be_zero, may_be_other, source_fact, result_fact}
use Rattle.facts.specs.Record.{depths, cell_at}
use Rattle.transfer.specs.Passes.{over, is_defer, page_address, gives, is_call_site}

-- 2. "Read: is the address known? 28. Readable? 23"
abbrev pub read_questions : List ℕ → Source → List ℕ → List Question
read_questions map (register k places kept) facts = []
read_questions map (bank b p l) facts =
    ask 28 (is_known (get_or facts (address_slot b) unknown)) ∷ ask 23 (readable map b (get_or facts (address_slot b) unknown)) ∷ []
read_questions map (constant x) facts = []

-- 3. "Data write: known? 28. Writable? 24"  4. "Choice: is the new address known? 28. Listed? 25"
abbrev pub target_questions : List ℕ → Target → ℕ → List ℕ → List Question
target_questions map (slot k) result facts =
    pick (leb (address_slot 0) k) (ask 28 (is_known result) ∷ ask 25 (listed map (k - address_slot 0) result) ∷ []) []
target_questions map (latch b p l) result facts =
    ask 28 (is_known (get_or facts (address_slot b) unknown)) ∷ ask 24 (writable map b (get_or facts (address_slot b) unknown)) ∷ []

-- every place below n that passes a test has an address after it below N
unfoldable pub all_below : ℕ → ℕ → (ℕ → Bool) → Bool
all_below words zero test = true
all_below words (suc n) test = pick (test n) (ltb (n + 1) words) true && all_below words n test

-- Questions 5 to 7 of a word that directs PC: "CALL: depth below 8? 26. AUX known? 28"; "RET: depth above 0? 27";
-- "Is every next PC, and a CALL's return address, below N? 21 (An XEC has no next PC of its own)"
abbrev pub control_questions : List ℕ → List ℕ → ℕ → ℕ → Span → Control → List Question
control_questions image table depth pc span (jump a) = ask 21 (ltb a (word_count image)) ∷ []
control_questions image table depth pc span (branch page i) =
    ask 21
    ((not (may_be_zero span) || ltb (pc + 1) (word_count image)) && (not (may_be_other span) || ltb (in_page page pc i) (word_count image))) ∷
    []
control_questions image table depth pc span (defer page i) = []
control_questions image table depth pc span (call i) =
    ask 26 (ltb depth stack_places) ∷ ask 28 (eqb span.count 1) ∷
    ask 21 (ltb (span.low * 256 + i) (word_count image) && ltb (pc + 1) (word_count image)) ∷ []
control_questions image table depth pc span return =
    ask 27 (ltb 0 depth) ∷ ask 21 (all_below (word_count image) (word_count image) (is_call_site image table (depth - 1))) ∷ []

-- Questions 1 to 7 of a word at a depth, PC and facts.
abbrev pub word_findings : List ℕ → List ℕ → List ℕ → ℕ → ℕ → List ℕ → Shape → List Question
word_findings image map table depth pc facts (act source op target) =
    read_questions map source facts ++ target_questions map target (result_fact op (get_or facts 0 unknown) (source_fact source facts)) facts ++
    (ask 21 (ltb (pc + 1) (word_count image)) ∷ [])
word_findings image map table depth pc facts (go source control) =
    read_questions map source facts ++ control_questions image table depth pc (span_of source facts) control
word_findings image map table depth pc facts invalid = ask 22 false ∷ []

-- 8. "XEC, for each address it may give, ascending: below N? 21. Not XEC? 29. Then questions 1-7 of that word."
abbrev pub executed_findings : List ℕ → List ℕ → List ℕ → ℕ → ℕ → List ℕ → ℕ → List Question
executed_findings image map table depth pc facts a =
    ask 21 (ltb a (word_count image)) ∷ ask 29 (not (is_defer (shape_at image a))) ∷
    word_findings image map table depth pc facts (shape_at image a)

abbrev pub defer_findings : List ℕ → List ℕ → List ℕ → ℕ → ℕ → List ℕ → Shape → List Question
defer_findings image map table depth pc facts (act source op target) = []
defer_findings image map table depth pc facts (go source (jump a)) = []
defer_findings image map table depth pc facts (go source (branch page i)) = []
defer_findings image map table depth pc facts (go source (defer page i)) =
    over 0 page (gives page i (span_of source facts)) (λ k. executed_findings image map table depth pc facts (page_address page pc k))
defer_findings image map table depth pc facts (go source (call i)) = []
defer_findings image map table depth pc facts (go source return) = []
defer_findings image map table depth pc facts invalid = []

-- the cell questions of a reached cell; "the first no is the finding"
abbrev pub cell_questions : List ℕ → List ℕ → List ℕ → ℕ → ℕ → List ℕ → List Question
cell_questions image map table depth pc facts =
    word_findings image map table depth pc facts (shape_at image pc) ++ defer_findings image map table depth pc facts (shape_at image pc)

-- the finding of cell i, 0 where there is none or the cell is not reached
unfoldable pub finding_at : List ℕ → List ℕ → List ℕ → ℕ → ℕ
finding_at image map table i =
    pick (cell_at table i).reached
    (first_no (cell_questions image map table (i / word_count image) (i % word_count image) (cell_at table i).facts))
    0

-- The first of n places from i on at which a number is not 0; i + n where there is none.
unfoldable pub first_of : (ℕ → ℕ) → ℕ → ℕ → ℕ
first_of number i zero = i
first_of number i (suc n) = pick (eqb (number i) 0) (first_of number (suc i) n) i

-- The first cell with a finding. Cells stand in the table by depth, and at one depth by address, so it is "the finding of
-- lowest depth, and among those the one of lowest address" (document 02, 2026-02).
abbrev pub first_finding : List ℕ → List ℕ → List ℕ → ℕ → ℕ → ℕ
first_finding image map table = first_of (finding_at image map table)

-- "admitted": no cell has a finding
pub record NoFinding (image map table : List ℕ) : Type 0 where
  pub none : (i : ℕ) → ltb i (depths * word_count image) ≡ true → finding_at image map table i ≡ 0
