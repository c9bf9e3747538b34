-- Each page has one of the two sizes, and none has more addresses than a constant's low byte tells.
use mathlib.Core.List.{List, [], ◌∷◌}
use mathlib.Core.Path.{◌≡◌, refl, ap}
use Prim.Native.Nat.{ℕ, ◌+◌, ◌%◌}
use native.Mathlib.Decide.{ℕ_discrete}
use native.Mathlib.Omega.{arith}
use lib.Dec.{eqb}
use Rattle.choice.specs.Choice.{pick}
use Rattle.state.specs.declared.State.{State}
use Rattle.machine.specs.Shape.{Source, go, branch}
use Rattle.machine.specs.Step.{value_of, may_read, in_page, go_to, go_state, came_to_stop, word_step}
use Rattle.machine.specs.Parts.{IsPage}
use Rattle.control.specs.declared.Page.{Page}
use Rattle.control.specs.declared.Page.TheVariants.{Long, Short}
use Rattle.control.specs.Pages.{page_size}

pub is_page : (p : Page) → IsPage (page_size p)
is_page Long n = absurd (n refl)
is_page Short n = refl

pub low_in_page : (page pc i : ℕ) → IsPage page → in_page page pc (i % 256) ≡ in_page page pc i
low_in_page page pc i h = either (ℕ_discrete page 256)
  where
    either : Dec (page ≡ 256) → in_page page pc (i % 256) ≡ in_page page pc i
    either (yes e) = rw e (omega arith)
    either (no n) = rw (h n) (omega arith)

-- an NZT of any constant
pub low_branch : (page i : ℕ) (source : Source) → IsPage page → (map bus : List ℕ) (s : State)
    → word_step map (go source (branch page (i % 256))) bus s ≡ word_step map (go source (branch page i)) bus s
unfolding go_state
low_branch page i source h map bus s =
    ap (λ (a : ℕ).
    pick (may_read map source s.values)
    (record { state = go_to (pick (eqb (value_of source s.values bus) 0) (s.pc + 1) a) s.depth s.returns s; event = 0 ∷ 0 ∷ 0 ∷ 0 ∷ [] })
    (came_to_stop s 23)) (low_in_page page s.pc i h)
