-- `emulator::steps` meets its contract. The invariant: the steps so far and the run over what is left are the whole run.
-- Assumes nothing.
use mathlib.Core.Path.{◌≡◌, ap, ◌∙◌}
use Rattle.machine.specs.Parts.{event_stop}
use native.Mathlib.Omega.{arith}
use Prim.Native.Nat.{◌*◌}
use lib.ListN.{drop, length-drop}
use Rattle.machine.specs.Parts.{whole}
use Rattle.emulator.specs.Run.{pair_length, pair_count}
use Rattle.emulator.proofs.Going.{begins, ends, ran_none, room_second, room_first, event_fits, as_long, again, stops}
use Rattle.machine.proofs.Fetching.{near_pending}
use Rattle.machine.proofs.Stops.{stop_nonzero, no_stop}
use Rattle.emulator.proofs.steps.Goals as goal

pub loop-i-init : goal.loop-i-init
loop-i-init c = begins _ _ _ _ _ (record { formed = c.requires.formed; sized = c.requires.sized })

pub write_addresses-requires : goal.write_addresses-requires
write_addresses-requires c =
    let p = c.loop-i in
    room_second p.q p.values p.latches p.returns c.requires p.invariant c.loop-i-test.true

pub step-e-requires : goal.step-e-requires
step-e-requires c =
    let g = c.loop-i.invariant in
    record { words = c.requires.words; near = near_pending c.loop-i.q.pending c.loop-i.q.pc g.sound.formed.pc; shallow = g.sound.formed.depth }

pub write_event-requires : goal.write_event-requires
write_event-requires c =
    let p = c.loop-i in (
      room_first p.q p.values p.latches p.returns c.requires p.invariant c.loop-i-test.true c.write_addresses.ensures,
      event_fits p.q p.values p.latches p.returns c.requires p.invariant c.loop-i-test.true c.write_addresses.ensures
          c.step-e.result _ _ _ (λ k. (c.type_inv.image k).fits) (λ k. (c.type_inv.recording k).fits) c.step-e.ensures,
    )

pub shape_of-trace-in-Stopped : goal.shape_of-trace-in-Stopped
shape_of-trace-in-Stopped c =
    let p = c.loop-i in
    as_long p.q p.values p.latches p.returns c.requires p.invariant c.loop-i-test.true c.write_addresses.ensures
    c.step-e.result _ _ _ (λ k. (c.type_inv.image k).fits) (λ k. (c.type_inv.recording k).fits) c.step-e.ensures
    c.write_event.ensures

pub returns-in-Stopped : goal.returns-in-Stopped
returns-in-Stopped c =
    let p = c.loop-i in
    let told = c.from.ensures ∙ c.number.ensures in
    stops p.q p.values p.latches p.returns c.requires p.invariant c.loop-i-test.true c.write_addresses.ensures
    c.step-e.result _ _ _ (λ k. (c.type_inv.image k).fits) (λ k. (c.type_inv.recording k).fits) c.step-e.ensures
    c.write_event.ensures
    (omega (arith, told, ap event_stop c.in-Stopped.is)) (λ z. stop_nonzero c.in-Stopped.why (omega (arith, told, z)))

pub loop-i-preserved : goal.loop-i-preserved
loop-i-preserved c =
    let p = c.loop-i in
    again p.q p.values p.latches p.returns c.requires p.invariant c.loop-i-test.true c.write_addresses.ensures
    c.step-e.result _ _ _ (λ k. (c.type_inv.image k).fits) (λ k. (c.type_inv.recording k).fits) c.step-e.ensures
    c.write_event.ensures (no_stop c.step-e.result.event c.in_default.not-Stopped)

pub returns : goal.returns
returns c =
    let s = c in
    let p = c.loop-i in
    let all : p.i ≡ pair_count s.args.recording.now = omega arith in
    rw (← all) (ends _ _ _ _ _ p.i (whole p.q p.values p.latches p.returns) p.trace s.requires.room p.invariant
    (ran_none _ _ (drop (pair_length * p.i) s.args.recording.now) _ (simp length-drop (omega arith))))
