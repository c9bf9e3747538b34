-- A licensed word takes a safe state to a state that is inside the table, with its return addresses and its pending address.
use mathlib.Core.Path.{◌≡◌, refl, sym, subst}
use mathlib.Core.Logic.{◌≢◌}
use mathlib.Core.Bool.{Bool, true, false, ◌&&◌, ◌||◌, not, false≢true}
use mathlib.Core.List.{List, [], ◌∷◌, ◌++◌}
use Prim.Native.Nat.{ℕ, zero, suc, ◌+◌, ◌-◌, ◌*◌, ◌%◌, ◌≤◌, ◌<◌}
use native.Mathlib.Nat.{mod-lt}
use native.Mathlib.Omega.{arith}
use lib.Dec.{leb, ltb, eqb}
use lib.ListN.{get_or, set}
use lib.Seq.{get_or-set_same, get_or-set_other}
use borrow.Author.Tests.{leb-true, ltb-true, eqb-true, eqb-false, lt-ltb, eq-eqb}
use Rattle.choice.specs.Choice.{pick, Question}
use Rattle.choice.proofs.Laws.{and_first, and_second}
use Rattle.state.specs.declared.State.{State}
use Rattle.state.specs.State.{stack_places}
use Rattle.machine.specs.Shape.{Source, Target, Control, jump, branch, defer, call, return, Shape, act, go, invalid}
use Rattle.machine.specs.Step.{word_count, value_of, in_page, act_state, go_to, defer_to, go_state, executed}
use Rattle.flow.specs.Flow.{Pass}
use Rattle.flow.proofs.Each.{Each, also, each_left, each_right}
use Rattle.facts.specs.declared.Cell.{Cell}
use Rattle.facts.specs.Facts.{facts_after, Span, span_of, holds, may_be_zero, may_be_other}
use Rattle.facts.specs.Record.{cell_at}
use Rattle.transfer.specs.Passes.{toward, word_passes, is_call_site}
use Rattle.transfer.specs.Findings.{read_questions, target_questions, control_questions}
use Rattle.guarantee.specs.Safe.{Inside, Returns, Given, Safe, cell_index}
use Rattle.transfer.proofs.Membership.{each_picked, each_over, each-over_down, below_at, same_or}
use Rattle.machine.proofs.InRange.{SourceInRange}
use Rattle.guarantee.proofs.Pairs.{span_holds, act_within}
use Rattle.guarantee.proofs.Questions.{Yes}
use Rattle.transfer.proofs.Ranges.{gives_place, page_fits}
use Rattle.guarantee.proofs.Cells.{Held, arrives, facts_length}
use Rattle.guarantee.proofs.Licensed.{Licensed}

-- what a word must leave behind
pub record After (image table : List ℕ) (s : State) : Type 0 where
  pub running : s.stop ≡ 0
  pub inside : Inside image table s
  pub stack : (k : ℕ) → k < s.depth → Returns image table k (get_or s.returns k 0)
  pub pending : s.flag ≡ 1 → Given image table s

head : {qs : List Question} {q : Question} → Each Yes (q ∷ qs) → Yes q
head (also h e) = h

must : (b : Bool) {c : Bool} → b ≡ true → (not b || c) ≡ true → c ≡ true
must true e h = h
must false e h = absurd (false≢true e)

above : (x : ℕ) {n : ℕ} → (x ≡ 0 → ⊥) → x < n → 1 < n
above zero some h = absurd (some refl)
above (suc x) some h = omega arith

module _ (image map table bus : List ℕ) (s : State) (safe : Safe image table s) where
  -- the facts at the state's cell
  abbrev facts : List ℕ
  facts = (cell_at table (cell_index image s)).facts

  holding : (source : Source) → SourceInRange source → holds (span_of source facts) (value_of source s.values bus) ≡ true
  holding source fits = span_holds source facts s.values bus fits safe.sized.values safe.inside.agrees

  -- a value of a source lies in its span
  span_low : (source : Source) → SourceInRange source → (span_of source facts).low ≤ value_of source s.values bus
  span_low source fits = leb-true _ _ (and_first _ _ (holding source fits))

  span_high : (source : Source) → SourceInRange source
      → value_of source s.values bus < (span_of source facts).low + (span_of source facts).count
  span_high source fits =
      ltb-true _ _ (and_second (leb (span_of source facts).low (value_of source s.values bus)) _ (holding source fits))

  -- ---- an act
  act_after : (source : Source) (op : ℕ) (target : Target) → Licensed image map table s.depth s.pc facts (act source op target)
      → After image table (act_state op (value_of source s.values bus) target s)
  unfolding act_state word_passes
  act_after source op target allowed =
      record {
        running = safe.running;
        inside = arrives image table (facts_after source op target facts) _ safe.inside.depth near allowed.passes
            (act_within source op target facts s.values bus
            (omega (arith, facts_length table (cell_index image s), safe.sized.values_length)) safe.inside.agrees);
        stack = safe.stack;
        pending = λ h. absurd (omega arith);
      }
    where
      near : s.pc + 1 < word_count image
      near = ltb-true _ _ (head (each_right (read_questions map source facts ++ target_questions map target _ facts) _ allowed.answers))

  -- ---- a word that goes on at another PC, at the same depth
  goes_after : (pc : ℕ) → pc < word_count image → Each (Held table) (toward (word_count image) s.depth pc facts)
      → After image table (go_to pc s.depth s.returns s)
  goes_after pc near held =
      record {
        running = safe.running;
        inside = arrives image table facts (go_to pc s.depth s.returns s) safe.inside.depth near held safe.inside.agrees;
        stack = safe.stack;
        pending = λ h. absurd (omega arith);
      }

  -- the questions of a word that directs PC
  directed : (source : Source) (control : Control) → Licensed image map table s.depth s.pc facts (go source control)
      → Each Yes (control_questions image table s.depth s.pc (span_of source facts) control)
  directed source control allowed = each_right (read_questions map source facts) _ allowed.answers

  jump_after : (source : Source) (a : ℕ) → Licensed image map table s.depth s.pc facts (go source (jump a))
      → After image table (go_to a s.depth s.returns s)
  unfolding word_passes
  jump_after source a allowed = goes_after a (ltb-true _ _ (head (directed source (jump a) allowed))) allowed.passes

  branch_after : (source : Source) (page i : ℕ) → Licensed image map table s.depth s.pc facts (go source (branch page i))
      → After image table (go_state (branch page i) (value_of source s.values bus) s)
  unfolding word_passes go_state
  branch_after source page i allowed = told (eqb x 0) refl
    where
      x : ℕ
      x = value_of source s.values bus

      span : Span
      span = span_of source facts

      next : List (Pass Cell)
      next = pick (may_be_zero span) (toward (word_count image) s.depth (s.pc + 1) facts) []

      taken : List (Pass Cell)
      taken = pick (may_be_other span) (toward (word_count image) s.depth (in_page page s.pc i) facts) []

      near : ((not (may_be_zero span) || ltb (s.pc + 1) (word_count image))
          && (not (may_be_other span) || ltb (in_page page s.pc i) (word_count image))) ≡ true
      near = head (directed source (branch page i) allowed)

      told : (b : Bool) → eqb x 0 ≡ b → After image table (go_to (pick b (s.pc + 1) (in_page page s.pc i)) s.depth s.returns s)
      told true e =
          let may : may_be_zero span ≡ true =
          eq-eqb span.low 0 (omega (arith, span_low source allowed.fits.0, eqb-true x 0 e)) in
          goes_after (s.pc + 1) (ltb-true _ _ (must (may_be_zero span) may (and_first _ _ near)))
          (each_picked (may_be_zero span) may (each_left next taken allowed.passes))
      told false e =
          let may : may_be_other span ≡ true =
          lt-ltb _ _ (above x (eqb-false x 0 e) (span_high source allowed.fits.0)) in
          goes_after (in_page page s.pc i)
          (ltb-true _ _ (must (may_be_other span) may (and_second (not (may_be_zero span) || ltb (s.pc + 1) (word_count image)) _ near)))
          (each_picked (may_be_other span) may (each_right next taken allowed.passes))

  -- ---- XEC
  defer_after : (source : Source) (page i : ℕ) → Licensed image map table s.depth s.pc facts (go source (defer page i))
      → After image table (defer_to (in_page page s.pc (i + value_of source s.values bus)) s)
  defer_after source page i allowed =
      let room = page_fits source page allowed.fits.1.0 allowed.fits.1.2 in
      record {
        running = safe.running;
        inside = record {
          depth = safe.inside.depth;
          near = safe.inside.near;
          reached = safe.inside.reached;
          agrees = safe.inside.agrees;
        };
        stack = safe.stack;
        pending = λ h. record {
          source = source;
          page = page;
          i = i;
          k = (i + value_of source s.values bus) % page;
          is_xec = allowed.here refl;
          place = mod-lt _ room.some;
          given = gives_place page i (span_of source facts) (value_of source s.values bus) room.some
              (room.enough facts) (holding source allowed.fits.0);
          address = refl;
        };
      }

  -- ---- the stack: a place that is written, and the others
  kept_place : (j a k : ℕ) → k ≢ j → k < s.depth → Returns image table k (get_or (set s.returns j a) k 0)
  kept_place j a k other below =
      subst (Returns image table k) (sym (get_or-set_other s.returns j k a 0 other)) (safe.stack k below)

  pushed : s.depth < stack_places → is_call_site image table s.depth s.pc ≡ true → (k : ℕ) → k < s.depth + 1
      → Returns image table k (get_or (set s.returns s.depth (s.pc + 1)) k 0)
  pushed room calls k below =
      same_or k s.depth
      (λ e. subst (λ j. Returns image table j (get_or (set s.returns s.depth (s.pc + 1)) j 0)) (sym e)
      record {
        site = s.pc;
        in_code = safe.inside.near;
        calls = calls;
        next = get_or-set_same s.returns s.depth (s.pc + 1) 0 (omega (arith, safe.sized.returns_length));
      })
      (λ other. kept_place s.depth (s.pc + 1) k other (omega arith))

  -- ---- CALL
  call_after : (source : Source) (i : ℕ) → Licensed image map table s.depth s.pc facts (go source (call i))
      → After image table (go_state (call i) (value_of source s.values bus) s)
  unfolding word_passes go_state
  call_after source i allowed = told (directed source (call i) allowed)
    where
      x : ℕ
      x = value_of source s.values bus

      span : Span
      span = span_of source facts

      told : Each Yes (control_questions image table s.depth s.pc span (call i))
          → After image table (go_to (x * 256 + i) (s.depth + 1) (set s.returns s.depth (s.pc + 1)) s)
      told (also room (also one (also near e))) =
          let shallow : s.depth < stack_places = ltb-true _ _ room in
          let low = span_low source allowed.fits.0 in
          let high = span_high source allowed.fits.0 in
          let same : span.low ≡ x = omega (arith, low, high, eqb-true span.count 1 one) in
          let target : ltb (x * 256 + i) (word_count image) ≡ true =
          subst (λ n. ltb (n * 256 + i) (word_count image) ≡ true) same (and_first _ _ near) in
          record {
            running = safe.running;
            inside = arrives image table facts (go_to (x * 256 + i) (s.depth + 1) (set s.returns s.depth (s.pc + 1)) s)
                (omega arith) (ltb-true _ _ target)
                (each_over span.low span.count (λ v. true)
                (λ v. toward (word_count image) (s.depth + 1) (v * 256 + i) facts) x low high refl
                (each_picked (ltb s.depth stack_places) room allowed.passes))
                safe.inside.agrees;
            stack = pushed shallow (allowed.site refl);
            pending = λ h. absurd (omega arith);
          }

  -- ---- RET
  return_after : (source : Source) → Licensed image map table s.depth s.pc facts (go source return)
      → After image table (go_state return (value_of source s.values bus) s)
  unfolding go_state
  return_after source allowed = told (directed source return allowed)
    where
      place : ℕ
      place = s.depth - 1

      told : Each Yes (control_questions image table s.depth s.pc (span_of source facts) return)
          → After image table (go_to (get_or s.returns place 0) place (set s.returns place 0) s)
      told (also some (also below e)) =
          let deep : 0 < s.depth = ltb-true _ _ some in
          let popped : Returns image table place (get_or s.returns place 0) = safe.stack place (omega arith) in
          let near : popped.site + 1 < word_count image =
          ltb-true _ _
          (below_at (word_count image) (word_count image) _ popped.site below popped.in_code popped.calls) in
          let held : Each (Held table) (toward (word_count image) place (popped.site + 1) facts) =
          each-over_down (word_count image) (is_call_site image table place) (λ a. toward (word_count image) place (a + 1) facts)
          popped.site popped.in_code popped.calls (allowed.back refl deep) in
          record {
            running = safe.running;
            inside = arrives image table facts (go_to (get_or s.returns place 0) place (set s.returns place 0) s)
                (omega (arith, safe.inside.depth)) (omega (arith, popped.next))
                (subst (λ a. Each (Held table) (toward (word_count image) place a facts)) (sym popped.next) held)
                safe.inside.agrees;
            stack = λ k less. kept_place place 0 k (λ e. omega arith) (omega arith);
            pending = λ h. absurd (omega arith);
          }

  -- ---- any word
  pub word_after : (w : Shape) → Licensed image map table s.depth s.pc facts w → After image table (executed w bus s)
  unfolding go_state
  word_after (act source op target) allowed = act_after source op target allowed
  word_after (go source (jump a)) allowed = jump_after source a allowed
  word_after (go source (branch page i)) allowed = branch_after source page i allowed
  word_after (go source (defer page i)) allowed = defer_after source page i allowed
  word_after (go source (call i)) allowed = call_after source i allowed
  word_after (go source return) allowed = return_after source allowed
  word_after invalid allowed = absurd (false≢true (head allowed.answers))
