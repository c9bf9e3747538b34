-- The table of facts obeys the laws of a space that is filled by sweeps, so that its least table is computed by them.
use mathlib.Core.Path.{◌≡◌, refl, sym, ◌∙◌, ap, subst, subst⁻¹}
use mathlib.Core.Bool.{true, ◌&&◌, false≢true}
use mathlib.Core.List.{List, []}
use Prim.Native.Nat.{ℕ, zero, suc, ◌+◌, ◌-◌, ◌*◌, ◌/◌, ◌%◌, ◌≤◌, ◌<◌}
use native.Mathlib.Omega.{arith}
use native.Mathlib.Nat.{mod-lt, div-lt_iff_lt-mul, le_of_eq}
use lib.Dec.{ltb}
use lib.Arith.{digits_lt}
use lib.ListN.{get_or, replicate, length-replicate, get_or-replicate}
use lib.Seq.{ext_get_or}
use borrow.Author.Tests.{ltb-true}
use Rattle.choice.specs.Choice.{pick}
use Rattle.choice.proofs.Laws.{and_both, and_first, and_second}
use Rattle.state.specs.State.{stack_places}
use Rattle.machine.specs.Shape.{Source, Target, jump, branch, defer, call, return, Shape, act, go, invalid}
use Rattle.machine.specs.Step.{word_count, shape_at, in_page}
use Rattle.flow.specs.Flow.{Pass, Below, Least, sum_weights}
use Rattle.flow.proofs.Each.{Each, none, also, each_append, each_left, each_right}
use Rattle.flow.proofs.Lawful.{Lawful, Fits}
use Rattle.flow.proofs.Grows.{Covered, each_covered, covered_each}
use Rattle.flow.proofs.Weights.{sum_weights-bound}
use Rattle.flow.proofs.Fixpoint.{Begins, begins_empty, sweeps_least}
use Rattle.facts.specs.declared.Cell.{Cell}
use Rattle.facts.specs.Facts.{unknown, span_of, may_be_zero, may_be_other, facts_after, all_know_no_more}
use Rattle.facts.specs.Record.{record_size, depths, cell_of, unreached, reset_cell, holds_cell, record_of, read_cell, cell_at, put_cell, FineCell, Layout}
use Rattle.facts.proofs.Cells.{holds_refl, holds_trans, holds_antisym, join_holds_left, join_holds_right, join_held, join_fine, join_falls, weight_bound, reached_above, known_above}
use Rattle.facts.proofs.Mask.{unreached_fine, zeros_record, zeros_read}
use Rattle.facts.proofs.Records.{part, part_at, part_length, stored_cell, other_cell, put_layout, same_table}
use Rattle.facts.proofs.Makes.{FineFacts, after_fine}
use Rattle.transfer.specs.Passes.{point_at, toward, is_return, is_call, words_at, some, word_passes, all_passes, is_call_site, return_passes, cell_passes, passes_from, table_space, table_length, start_table, sweep_bound, least_table}
use Rattle.transfer.proofs.Membership.{each_picked, each-over_down, each_pick, over_each, down_each}
use Rattle.machine.proofs.InRange.{ShapeInRange, shape_at_in_range}
use Rattle.transfer.proofs.Wider.{words_wider, words_fit, some_wider, toward_wider, word_wider, passes_at, passes_from_lem}

pub fine_facts : (c : Cell) → FineCell c → FineFacts c.facts
fine_facts c f = record { long = f.facts; bounded = f.bounded }

pub reached_fine : (fs : List ℕ) → FineFacts fs → FineCell (cell_of true fs)
reached_fine fs f = record { facts = f.long; bounded = f.bounded; blank = λ e. absurd (false≢true (sym e)) }

-- a cell's depth and address
pub depth_of : (i n : ℕ) → i < depths * n → i / n < depths
depth_of i n h = let some : 0 < n = omega arith in (div-lt_iff_lt-mul {k = n} {x = i} {y = depths} some).1 h

pub address_of : (i n : ℕ) → i < depths * n → i % n < n
address_of i n h = mod-lt i (omega arith)

-- every cell holds what is not reached
nothing : (c : Cell) → holds_cell c unreached ≡ true
unfolding holds_cell
nothing c = refl

-- ---- a table of zeros: no cell is reached

zeros_part : (n i : ℕ) → i < n → part (replicate (record_size * n) 0) i ≡ replicate record_size 0
zeros_part n i l =
    let long = part_length (replicate (record_size * n) 0) n i (length-replicate (record_size * n) 0) l in
    ext_get_or 0 (part (replicate (record_size * n) 0) i) (replicate record_size 0) long
    (λ r h.
    let small : r < record_size = subst (λ (z : ℕ). r < z) long h in
    part_at (replicate (record_size * n) 0) i r small ∙ get_or-replicate (record_size * n) (record_size * i + r) 0 0 (omega arith) ∙ sym (get_or-replicate record_size r 0 0 small))

pub zeros_cell : (n i : ℕ) → i < n → cell_at (replicate (record_size * n) 0) i ≡ unreached
unfolding cell_at
zeros_cell n i l = ap read_cell (zeros_part n i l) ∙ zeros_read

pub zeros_layout : (n : ℕ) → Layout n (replicate (record_size * n) 0)
zeros_layout n =
    record {
      long = length-replicate (record_size * n) 0;
      records = λ i l. zeros_part n i l ∙ sym (ap (λ (c : Cell). record_of c 0) (zeros_cell n i l) ∙ zeros_record);
      fine = λ i l. rw (zeros_cell n i l) unreached_fine;
    }

pub reset_fine : FineCell reset_cell
reset_fine = record { facts = refl; bounded = λ k. zero_low 11 k; blank = λ e. absurd (false≢true (sym e)) }
  where
    zero_low : (n k : ℕ) → get_or (replicate n 0) k unknown ≤ unknown
    zero_low zero k = le_of_eq refl
    zero_low (suc n) zero = omega arith
    zero_low (suc n) (suc k) = zero_low n k

module _ (image : List ℕ) (bytes : (k : ℕ) → get_or image k 0 < 256) where
  -- ---- passes go to cells of the table, and what words keep of facts holds of what is passed on

  module _ (F : List ℕ → Type 0) (Fine : Cell → Type 0) (reached : (fs : List ℕ) → F fs → Fine (cell_of true fs))
      (after : (source : Source) (op : ℕ) (target : Target) (fs : List ℕ) → ShapeInRange (act source op target) → F fs → F (facts_after source op target fs)) where
    abbrev Fit : Pass Cell → Type 0
    Fit = Fits (table_space image) Fine

    toward_fits : (depth a : ℕ) (fs : List ℕ) → depth < depths → F fs → Each Fit (toward (word_count image) depth a fs)
    toward_fits depth a fs d f =
        each_pick (ltb a (word_count image))
        (λ h. also (record { inside = digits_lt d (ltb-true a (word_count image) h); fine = reached fs f }) none)

    word_fits : (depth pc : ℕ) (fs : List ℕ) (w : Shape) → ShapeInRange w → depth < depths → F fs → Each Fit (word_passes (word_count image) depth pc fs w)
    unfolding word_passes
    word_fits depth pc fs (act source op target) s d f = toward_fits depth (pc + 1) (facts_after source op target fs) d (after source op target fs s f)
    word_fits depth pc fs (go source (jump a)) s d f = toward_fits depth a fs d f
    word_fits depth pc fs (go source (branch page i)) s d f =
        each_append (each_pick (may_be_zero (span_of source fs)) (λ z. toward_fits depth (pc + 1) fs d f))
        (each_pick (may_be_other (span_of source fs)) (λ z. toward_fits depth (in_page page pc i) fs d f))
    word_fits depth pc fs (go source (defer page i)) s d f = none
    word_fits depth pc fs (go source (call i)) s d f =
        each_pick (ltb depth stack_places)
        (λ h.
        let deeper : depth + 1 < depths = let l = ltb-true depth stack_places h in omega arith in
        over_each (span_of source fs).low (span_of source fs).count (λ v. true) (λ v. toward (word_count image) (depth + 1) (v * 256 + i) fs)
        (λ v low high t. toward_fits (depth + 1) (v * 256 + i) fs deeper f))
    word_fits depth pc fs (go source return) s d f = none
    word_fits depth pc fs invalid s d f = none

    pub returns_fit : (t : List ℕ) (depth : ℕ) (fs : List ℕ) → depth < depths → F fs → Each (Fits (table_space image) Fine) (return_passes image t depth fs)
    returns_fit t depth fs d f =
        down_each (word_count image) (is_call_site image t depth) (λ a. toward (word_count image) depth (a + 1) fs) (λ a l s. toward_fits depth (a + 1) fs d f)

    cell_fits : (t : List ℕ) (depth pc : ℕ) (fs : List ℕ) → depth < depths → F fs → Each Fit (cell_passes image t depth pc fs)
    cell_fits t depth pc fs d f =
        each_append
        (passes_from_lem image t (word_count image) depth pc fs (words_at image pc fs (shape_at image pc))
        (λ w i. word_fits depth pc fs w (words_fit image bytes pc (shape_at image pc) fs (shape_at_in_range image bytes pc) i) d f))
        (each_pick (ltb 0 depth && some is_return (words_at image pc fs (shape_at image pc)))
        (λ h. returns_fit t (depth - 1) fs (omega arith) f))

    pub passes_fit : (t : List ℕ) (i : ℕ) → i < depths * word_count image → F (cell_at t i).facts → Each (Fits (table_space image) Fine) (passes_from image t i)
    passes_fit t i l f =
        each_pick (cell_at t i).reached
        (λ r. cell_fits t (i / word_count image) (i % word_count image) (cell_at t i).facts (depth_of i (word_count image) l) f)

  -- ---- a higher table holds what a cell of a lower one passes on

  pub site_wider : (t u : List ℕ) → Below (table_space image) t u → (depth a : ℕ) → depth < depths → a < word_count image
      → is_call_site image t depth a ≡ true → is_call_site image u depth a ≡ true
  site_wider t u b depth a d l s =
      let i = point_at (word_count image) depth a in
      let up = b.covered i (digits_lt d l) in
      let r = and_first (cell_at t i).reached (some is_call (words_at image a (cell_at t i).facts (shape_at image a))) s in
      and_both (reached_above (cell_at u i) (cell_at t i) r up)
      (some_wider image a (shape_at image a) (cell_at u i).facts (cell_at t i).facts is_call (shape_at_in_range image bytes a) (known_above (cell_at u i) (cell_at t i) r up)
      (and_second (cell_at t i).reached (some is_call (words_at image a (cell_at t i).facts (shape_at image a))) s))

  cell_wider : (t u : List ℕ) → Below (table_space image) t u → (depth pc : ℕ) (gs fs : List ℕ) → depth < depths → FineFacts gs → FineFacts fs → all_know_no_more gs fs ≡ true
      → Each (Covered (table_space image) u) (cell_passes image u depth pc gs) → Each (Covered (table_space image) u) (cell_passes image t depth pc fs)
  cell_wider t u b depth pc gs fs d g f h e =
      let n = word_count image in
      let sh = shape_at image pc in
      let ok = shape_at_in_range image bytes pc in
      let words = all_passes n depth pc gs (words_at image pc gs sh) in
      let back = pick (ltb 0 depth && some is_return (words_at image pc gs sh)) (return_passes image u (depth - 1) gs) [] in
      each_append
      (passes_from_lem image u n depth pc fs (words_at image pc fs sh)
      (λ w i. word_wider image u n depth pc gs fs w (words_fit image bytes pc sh fs ok i) g f h (passes_at image u n depth pc gs (words_at image pc gs sh) (each_left words back e) (words_wider image pc sh gs fs ok h i))))
      (each_pick (ltb 0 depth && some is_return (words_at image pc fs sh))
      (λ c.
      let wide = and_both (and_first (ltb 0 depth) (some is_return (words_at image pc fs sh)) c) (some_wider image pc sh gs fs is_return ok h (and_second (ltb 0 depth) (some is_return (words_at image pc fs sh)) c)) in
      let all = each_picked (ltb 0 depth && some is_return (words_at image pc gs sh)) wide (each_right words back e) in
      down_each n (is_call_site image t (depth - 1)) (λ a. toward n (depth - 1) (a + 1) fs)
      (λ a l s.
      toward_wider image u n (depth - 1) (a + 1) gs fs h
      (each-over_down n (is_call_site image u (depth - 1)) (λ a. toward n (depth - 1) (a + 1) gs) a l (site_wider t u b (depth - 1) a (omega arith) l s) all))))

  -- ---- the laws

  pub table_laws : Lawful (table_space image) (Layout (depths * word_count image)) FineCell
  table_laws =
      record {
        at_fine = λ t i g l. g.fine i l;
        put_good = λ t i c g l f. put_layout (depths * word_count image) t i c g l f;
        at_put_same = λ t i c g l f. stored_cell (depths * word_count image) t i c g l f;
        at_put_other = λ t i j c g l m f ne. other_cell (depths * word_count image) t i c g l f j m ne;
        same_cells = λ t u g k same. same_table (depths * word_count image) t u g k same;
        covers_refl = λ a f. holds_refl a;
        covers_trans = λ a b c fa fb fc p q. holds_trans a b c p q;
        covers_antisym = λ a b fa fb p q. holds_antisym a b fa fb p q;
        join_fine = λ a b fa fb. join_fine a b fa fb;
        join_left = λ a b fa fb. join_holds_left a b;
        join_right = λ a b fa fb. join_holds_right a b;
        join_least = λ a b c fa fb fc p q. join_held a b c p q;
        weight_falls = λ a b fa fb e. join_falls a b fb e;
        pass_fits = λ t i g l. passes_fit FineFacts FineCell reached_fine (λ source op target fs s f. after_fine source op target fs s.0 f) t i l (fine_facts (cell_at t i) (g.fine i l));
        pass_monotone = λ t u i g k l b h. covered_each (table_space image) u (passes_from image t i)
            (each_pick (cell_at t i).reached
            (λ r.
            let up = b.covered i l in
            cell_wider t u b (i / word_count image) (i % word_count image) (cell_at u i).facts (cell_at t i).facts (depth_of i (word_count image) l)
            (fine_facts (cell_at u i) (k.fine i l)) (fine_facts (cell_at t i) (g.fine i l)) (known_above (cell_at u i) (cell_at t i) r up)
            (each_picked (cell_at u i).reached (reached_above (cell_at u i) (cell_at t i) r up) (each_covered (table_space image) u (passes_from image u i) h))));
      }

  -- ---- the least table

  pub start_begins : 0 < word_count image → Begins (table_space image) (Layout (depths * word_count image)) FineCell reset_cell (start_table image)
  start_begins some =
      let cells = depths * word_count image in
      let long : record_size * cells ≡ table_length image = omega arith in
      subst (λ (n : ℕ). Begins (table_space image) (Layout cells) FineCell reset_cell (put_cell (replicate n 0) 0 reset_cell)) long
      (begins_empty table_laws reset_cell (replicate (record_size * cells) 0) (omega arith) reset_fine (zeros_layout cells)
      (λ i c l f. holds_nothing c (zeros_cell cells i l)))
    where
      holds_nothing : (c : Cell) {d : Cell} → d ≡ unreached → holds_cell c d ≡ true
      holds_nothing c e = subst⁻¹ (λ (x : Cell). holds_cell c x ≡ true) e (nothing c)

  -- the weight of the start, and with it every number of sweeps that change something, is at most 108 × N
  pub start_weight : 0 < word_count image → sum_weights (table_space image) (start_table image) ≤ sweep_bound image
  start_weight some =
      let most = sum_weights-bound (table_space image) (start_table image) 12 (λ i l. weight_bound (cell_at (start_table image) i) ((start_begins some).good.fine i l)) in
      omega arith

  pub least_table_lem : 0 < word_count image → Least (table_space image) (Layout (depths * word_count image)) reset_cell (least_table image)
  unfolding least_table
  least_table_lem some = sweeps_least table_laws (sweep_bound image) (start_begins some) (start_weight some)
