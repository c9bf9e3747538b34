-- `walking::pass_back` meets its contract. The invariant: the call sites from `end` on are passed on to. Assumes nothing.
use Prim.Native.Nat.{◌+◌}
use Rattle.machine.specs.Step.{word_count}
use Rattle.transfer.specs.Passes.{toward}
use Rattle.passing.proofs.Loans.{loans_same, loans_then, passed_on}
use Rattle.walking.proofs.Returning.{last_on, backing_begins, backing_next, backing_ends}
use Rattle.walking.proofs.pass_back.Goals as goal

pub loop-site-init : goal.loop-site-init
loop-site-init c =
    let a = c.args in
    (backing_begins a.t.now.image.now a.t.now.asked.now a.t.now.table.now a.t.now.marks.now a.depth a.facts c.requires.0, loans_same)

pub loop-site-preserved : goal.loop-site-preserved
loop-site-preserved c =
    let a = c.args in
    let p = c.loop-site in (
      backing_next a.t.now.image.now a.t.now.asked.now a.t.now.table.now a.t.now.marks.now a.depth a.facts p.end c.requires.1 c.requires.0 p.invariant.0 c.in-Some.site (last_on p.t.marks.now a.depth p.invariant.1 c.in-Some.ensures)
          (passed_on p.invariant.1 c.pass-changed.new.t (λ image _. toward (word_count image) a.depth (c.in-Some.site + 1) a.facts) c.pass-changed.ensures.passed),
      loans_then p.invariant.1 c.pass-changed.ensures.lent,
    )

pub returns-clause-passed : goal.returns-clause-passed
returns-clause-passed c =
    let a = c.args in
    let p = c.loop-site in
    backing_ends a.t.now.image.now a.t.now.asked.now a.t.now.table.now a.t.now.marks.now a.depth a.facts p.end c.requires.1 c.requires.0 p.invariant.0 (last_on p.t.marks.now a.depth p.invariant.1 c.in_default.ensures)
