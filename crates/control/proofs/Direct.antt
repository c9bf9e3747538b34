-- What the code of a word that directs PC leaves is the definition's outcome: one law for each way out.
use mathlib.Core.Path.{◌≡◌}
use mathlib.Core.Bool.{true, false}
use mathlib.Core.List.{List}
use Prim.Native.Nat.{ℕ, ◌+◌, ◌-◌, ◌*◌, ◌<◌, ◌≤◌}
use lib.ListN.{get_or, set}
use borrow.Author.Tests.{lt-ltb, le-ltb, eq-eqb, ne_eqb}
use Rattle.field.proofs.Laws.{whole_byte}
use Rattle.machine.specs.declared.Sequencer.{Sequencer}
use Rattle.machine.specs.declared.Effect.{Effect}
use Rattle.machine.specs.Shape.{Source, register, constant, go, branch, defer, call, return}
use Rattle.machine.specs.Step.{value_of, may_read, in_page, go_state, came_to_stop, word_step}
use Rattle.machine.specs.Parts.{whole, outcome, go_effect, defer_effect}

module _ (map bus : List ℕ) (source : Source) (q : Sequencer) (v l s : List ℕ) (page i x : ℕ) where
  pub unread_defer : may_read map source v ≡ false → came_to_stop (whole q v l s) 23 ≡ word_step map (go source (defer page i)) bus (whole q v l s)
  unread_defer hr = rw hr

  pub unread_branch : may_read map source v ≡ false → came_to_stop (whole q v l s) 23 ≡ word_step map (go source (branch page i)) bus (whole q v l s)
  unread_branch hr = rw hr

  pub deferred : (p : ℕ) (e : Effect) → may_read map source v ≡ true → x ≡ value_of source v bus → p ≡ in_page page q.pc (i + x) → e ≡ defer_effect q p
      → outcome e v l s ≡ word_step map (go source (defer page i)) bus (whole q v l s)
  unfolding go_state
  deferred p e hr hx hp he = rw (hr, he, hp, hx)

  pub branch_zero : (e : Effect) → may_read map source v ≡ true → x ≡ value_of source v bus → x ≡ 0 → e ≡ go_effect (q.pc + 1) q.depth
      → outcome e v l s ≡ word_step map (go source (branch page i)) bus (whole q v l s)
  unfolding go_state
  branch_zero e hr hx hz he = rw (hr, he, ← hx, eq-eqb x 0 hz)

  pub branch_taken : (p : ℕ) (e : Effect) → may_read map source v ≡ true → x ≡ value_of source v bus → (x ≡ 0 → ⊥) → p ≡ in_page page q.pc i → e ≡ go_effect p q.depth
      → outcome e v l s ≡ word_step map (go source (branch page i)) bus (whole q v l s)
  unfolding go_state
  branch_taken p e hr hx hz hp he = rw (hr, he, hp, ← hx, ne_eqb x 0 hz)

module _ (map bus : List ℕ) (q : Sequencer) (v l s : List ℕ) where
  pub called : (i x : ℕ) (e : Effect) → q.depth < 8 → x ≡ get_or v 0 0 → x < 256 → e ≡ go_effect (x * 256 + i) (q.depth + 1)
      → outcome e v l (set s q.depth (q.pc + 1)) ≡ word_step map (go (register 0 0 0) (call i)) bus (whole q v l s)
  unfolding go_state
  called i x e h hx hb he = rw (lt-ltb q.depth 8 h, he, ← hx, whole_byte hb)

  pub full : (i : ℕ) → 8 ≤ q.depth → came_to_stop (whole q v l s) 26 ≡ word_step map (go (register 0 0 0) (call i)) bus (whole q v l s)
  full i h = rw (le-ltb q.depth 8 h)

  pub returned : (e : Effect) → 0 < q.depth → e ≡ go_effect (get_or s (q.depth - 1) 0) (q.depth - 1)
      → outcome e v l (set s (q.depth - 1) 0) ≡ word_step map (go (constant 0) return) bus (whole q v l s)
  unfolding go_state
  returned e h he = rw (lt-ltb 0 q.depth h, he)

  pub empty : q.depth ≤ 0 → came_to_stop (whole q v l s) 27 ≡ word_step map (go (constant 0) return) bus (whole q v l s)
  empty h = rw (le-ltb 0 q.depth h)
