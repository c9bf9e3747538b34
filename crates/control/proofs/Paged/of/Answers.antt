use Rattle.machine.specs.Shape.{source_of}
use Rattle.control.proofs.Pages.{low_branch}
use Rattle.control.proofs.Paged.of.Goals as goal

pub returns-clause-branch : goal.returns-clause-branch
returns-clause-branch c h map bus q =
    rw (c.of.ensures.1 h) (low_branch c.args.page c.args.i (source_of c.args.s 0 0 c.args.l) h map bus q)
