-- An event tells of a stop, or has no stop number.
use mathlib.Core.Path.{◌≡◌, refl}
use native.Mathlib.Omega.{arith}
use Rattle.machine.specs.declared.Stop.{Stop}
use Rattle.machine.specs.declared.Stop.TheVariants.{Outside, Invalid, Unreadable, Unwritable, Unlisted, Full, Empty}
use Rattle.machine.specs.declared.Event.{Event}
use Rattle.machine.specs.declared.Event.TheVariants.{Quiet, Address, Data, Stopped}
use Rattle.machine.specs.Parts.{stop_number, event_stop}

pub stop_nonzero : (why : Stop) → stop_number why ≡ 0 → ⊥
stop_nonzero Outside h = omega arith
stop_nonzero Invalid h = omega arith
stop_nonzero Unreadable h = omega arith
stop_nonzero Unwritable h = omega arith
stop_nonzero Unlisted h = omega arith
stop_nonzero Full h = omega arith
stop_nonzero Empty h = omega arith

pub no_stop : (e : Event) → ((why : Stop) → e ≡ Stopped why → ⊥) → event_stop e ≡ 0
no_stop Quiet h = refl
no_stop (Address bank address) h = refl
no_stop (Data bank address byte) h = refl
no_stop (Stopped why) h = absurd (h why refl)
