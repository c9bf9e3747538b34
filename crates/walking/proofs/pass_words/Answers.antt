-- `walking::pass_words` meets its contract. Assumes nothing.
use mathlib.Core.Path.{◌∙◌, ap}
use Rattle.machine.specs.Step.{word_count}
use Rattle.forms.specs.Forms.{shape_is}
use Rattle.transfer.specs.Passes.{all_passes}
use Rattle.callers.proofs.Words.{itself}
use Rattle.transfer.proofs.Lists.{all_one}
use Rattle.passing.proofs.Passing.{passed_as}
use Rattle.walking.proofs.pass_words.Goals as goal

pub returns-in_default : goal.returns-in_default
returns-in_default c =
    let a = c.args in
    record {
      passed =
          passed_as
          (ap (all_passes (word_count a.t.now.image.now) a.p.now.depth a.p.now.pc a.p.now.facts) (itself a.t.now.image.now a.p.now.pc a.p.now.facts a.form c.in_default.not-Defer)
          ∙ all_one (word_count a.t.now.image.now) a.p.now.depth a.p.now.pc a.p.now.facts (shape_is a.form))
          c.pass_word.ensures.passed;
      lent = c.pass_word.ensures.lent;
    }
