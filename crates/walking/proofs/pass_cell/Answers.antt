-- `walking::pass_cell` meets its contract. Assumes nothing.
use mathlib.Core.Bool.{◌&&◌}
use mathlib.Core.List.{[]}
use Prim.Native.Nat.{◌-◌}
use lib.Dec.{ltb}
use Rattle.choice.specs.Choice.{pick}
use Rattle.forms.specs.Forms.{shape_is}
use Rattle.transfer.specs.Passes.{is_return, some, words_at, return_passes}
use Rattle.passing.specs.Passing.{seen}
use Rattle.passing.proofs.Loans.{loans_then, passed_on}
use Rattle.walking.proofs.Returning.{cell_passed}
use Rattle.walking.proofs.pass_cell.Goals as goal

pub returns : goal.returns
returns c =
    let t = c.args.t.now in
    let p = c.args.p.now in
    let on = c.pass_words-on.ensures in
    record {
      passed =
          cell_passed t.image.now t.asked.now t.table.now t.marks.now p.depth p.pc p.facts c.form_at-form.ensures.0 on.passed
          (passed_on on.lent c.pass_returns-back.new.t
          (λ image asked. pick (ltb 0 p.depth && some is_return (words_at image p.pc p.facts (shape_is c.form_at-form.result))) (return_passes image (seen asked c.pass_words-on.new.t.table.now) (p.depth - 1) p.facts) [])
          c.pass_returns-back.ensures.passed);
      lent = loans_then on.lent c.pass_returns-back.ensures.lent;
    }
