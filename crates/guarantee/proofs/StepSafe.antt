-- The core of demand 3: with any closed table without findings, a step from a safe state asks no question that is answered no,
-- and leaves a safe state.
use mathlib.Core.Path.{◌≡◌, refl, sym, ap, subst}
use mathlib.Core.Bool.{Bool, true, false}
use mathlib.Core.List.{List}
use Prim.Native.Nat.{ℕ, ◌<◌}
use lib.Dec.{eqb}
use lib.ListN.{get_or}
use borrow.Author.Tests.{eqb-true, lt-ltb}
use Rattle.choice.specs.Choice.{pick, first_no}
use Rattle.state.specs.declared.State.{State}
use Rattle.state.specs.State.{Sized, Formed}
use Rattle.machine.specs.Step.{word_count, shape_at, executed, fetch_address, step_questions, Outcome, went_on, came_to_stop, stepped}
use Rattle.flow.specs.Flow.{Closed}
use Rattle.flow.proofs.Each.{Each, also}
use Rattle.facts.specs.Record.{reset_cell, cell_at}
use Rattle.transfer.specs.Passes.{page_address, table_space}
use Rattle.transfer.specs.Findings.{NoFinding}
use Rattle.guarantee.specs.Safe.{Given, Safe, cell_index}
use Rattle.guarantee.proofs.Questions.{Yes, none_no}
use Rattle.machine.proofs.InRange.{shape_at_in_range}
use Rattle.guarantee.proofs.Cells.{Settled, settled}
use Rattle.guarantee.proofs.Licensed.{Licensed, direct_licensed, executed_licensed}
use Rattle.guarantee.proofs.Granted.{word_granted}
use Rattle.guarantee.proofs.WordSafe.{After, word_after}

-- without a no a step executes its word
pub step_executes : (image map bus : List ℕ) (s : State) → Each Yes (step_questions image map bus s)
    → (stepped image map bus s).state ≡ executed (shape_at image (fetch_address s)) bus s
unfolding stepped
step_executes image map bus s yes-all =
    let w = shape_at image (fetch_address s) in
    ap (λ (o : Outcome). o.state) (none_no (went_on w (executed w bus s)) (came_to_stop s) yes-all)

module _ (image map table : List ℕ) (closed : Closed (table_space image) reset_cell table) (clean : NoFinding image map table)
    (bytes : (k : ℕ) → get_or image k 0 < 256) where
  -- an address in the image, whose word is licensed where the state is
  record Fetched (s : State) (a : ℕ) : Type 0 where
    near : a < word_count image
    licensed : Licensed image map table s.depth s.pc (cell_at table (cell_index image s)).facts (shape_at image a)

  fetched : (s : State) → Safe image table s → Fetched s (fetch_address s)
  fetched s safe = told (eqb s.flag 1) refl
    where
      cell : Settled image map table s.depth s.pc (cell_at table (cell_index image s)).facts
      cell = settled image map table closed clean s.depth s.pc safe.inside.depth safe.inside.near safe.inside.reached

      pending : Given image table s → Fetched s s.pending
      pending g =
          let w =
          executed_licensed image map table s.depth s.pc safe.inside.reached cell
          g.source g.page g.i g.k g.is_xec g.place g.given
          (shape_at_in_range image bytes (page_address g.page s.pc g.k))
          in
          subst (Fetched s) (sym g.address) record { near = w.0; licensed = w.1 }

      told : (b : Bool) → eqb s.flag 1 ≡ b → Fetched s (pick b s.pending s.pc)
      told true e = pending (safe.pending (eqb-true s.flag 1 e))
      told false e =
          record {
            near = safe.inside.near;
            licensed =
                direct_licensed image map table s.depth s.pc safe.inside.reached cell (shape_at_in_range image bytes s.pc);
          }

  -- every question of the step is answered yes
  pub step_granted : (bus : List ℕ) (s : State) → Safe image table s → Each Yes (step_questions image map bus s)
  step_granted bus s safe =
      let f = fetched s safe in
      also (lt-ltb _ _ f.near)
      (word_granted image map table bus s _ (shape_at image (fetch_address s)) safe.inside.agrees f.licensed.answers)

  pub step_after : (bus : List ℕ) (s : State) → Safe image table s → After image table (stepped image map bus s).state
  step_after bus s safe =
      subst (After image table) (sym (step_executes image map bus s (step_granted bus s safe)))
      (word_after image map table bus s safe (shape_at image (fetch_address s)) (fetched s safe).licensed)

  pub step_safe : (bus : List ℕ)
      → ((s : State) → Formed s → Sized s → s.stop ≡ 0
      → Formed (stepped image map bus s).state × Sized (stepped image map bus s).state)
      → (s : State) → Safe image table s
      → (first_no (step_questions image map bus s) ≡ 0) × Safe image table (stepped image map bus s).state
  step_safe bus kept s safe =
      let fits = kept s safe.formed safe.sized safe.running in
      let after = step_after bus s safe in (
        none_no 0 (λ n. n) (step_granted bus s safe),
        record {
          running = after.running;
          sized = fits.1;
          formed = fits.0;
          inside = after.inside;
          stack = after.stack;
          pending = after.pending;
        },
      )
