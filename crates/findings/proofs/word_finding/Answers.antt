-- `findings::word_finding` meets its contract. Assumes nothing.
use Rattle.findings.specs.Findings.{finding_number}
use Rattle.findings.proofs.Words.{retold}
use Rattle.findings.proofs.word_finding.Goals as goal

pub returns-in-Act : goal.returns-in-Act
returns-in-Act c = λ table e.
    let a = c.args in
    retold a.q.now.image.now a.q.now.map.now table a.q.now.depth a.q.now.pc a.q.now.facts (finding_number c.act_finding.result) c.in-Act.is (c.act_finding.ensures table a.q.now.depth)

pub returns-in-Branch : goal.returns-in-Branch
returns-in-Branch c = λ table e.
    let a = c.args in
    retold a.q.now.image.now a.q.now.map.now table a.q.now.depth a.q.now.pc a.q.now.facts (finding_number c.branch_finding.result) c.in-Branch.is (c.branch_finding.ensures table a.q.now.depth)

pub returns-in-Call : goal.returns-in-Call
returns-in-Call c = λ table e.
    let a = c.args in
    retold a.q.now.image.now a.q.now.map.now table a.q.now.depth a.q.now.pc a.q.now.facts (finding_number c.call_finding.result) c.in-Call.is (c.call_finding.ensures a.q.now.map.now table)

pub returns-in-Return : goal.returns-in-Return
returns-in-Return c = λ table e.
    let a = c.args in
    retold a.q.now.image.now a.q.now.map.now table a.q.now.depth a.q.now.pc a.q.now.facts (finding_number c.return_finding.result) c.in-Return.is (c.return_finding.ensures a.q.now.image.now a.q.now.map.now table a.q.now.facts a.q.now.pc e)
