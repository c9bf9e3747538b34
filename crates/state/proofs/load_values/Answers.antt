-- Value k is byte 5 + k.
use mathlib.Core.Path.{◌∙◌, ap}
use Prim.Native.Nat.{◌+◌}
use lib.ListN.{drop}
use lib.Seq.{get_or-take, get_or-drop}
use Rattle.std.proofs.lemmas.List.FromFn.{fill_by_all}
use Rattle.std.specs.Prelude.{get_or}
use Rattle.state.proofs.load_values.Goals as goal

pub returns : goal.returns
returns c =
    let b = c.args.b.now in
    let copied = c.copy_from_slice.ensures in
    fill_by_all (λ k. get_or b (5 + k) 0) c.copy_from_slice.new.self 11 0 copied.len
    (λ k lt. ap (λ v. get_or v k 0) copied.after ∙ get_or-take 11 (drop 5 b) k 0 lt ∙ get_or-drop 5 b k 0)
