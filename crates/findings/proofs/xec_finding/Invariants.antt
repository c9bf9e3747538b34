use Rattle.control.specs.Pages.{page_size}
use Rattle.machine.specs.Shape.{source_of}
use Rattle.findings.proofs.Passing.{Going}
use Rattle.findings.proofs.xec_finding.Given as goal

abbrev pub invariant-loop-k : goal.invariant-loop-k
invariant-loop-k l = Going l.q.image.now l.q.map.now l.q.facts l.q.depth l.q.pc (page_size l.w.page) l.w.i (source_of l.w.s 0 0 l.w.l) l.q.back l.k
