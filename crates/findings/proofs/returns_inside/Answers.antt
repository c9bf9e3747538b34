-- `findings::returns_inside` meets its contract. Assumes nothing.
use Rattle.machine.specs.Step.{word_count}
use Rattle.transfer.specs.Passes.{is_call_site}
use Rattle.findings.proofs.Passing.{sites_inside}
use Rattle.findings.proofs.returns_inside.Goals as goal

pub returns : goal.returns
returns c =
    let start = c in
    let a = start.args in
    sites_inside (word_count a.image.now) (is_call_site a.image.now a.table.now a.depth) c.is_call_site.result start.requires.2 c.is_call_site.ensures
