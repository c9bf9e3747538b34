-- The form of a word as the code holds it, the shape that it stands for, and what the code relies on.
use Rattle.std.specs.Prelude.{◌<◌}
use Rattle.machine.specs.Shape.{register, constant, Shape, go, invalid, jump, call, return}
use Rattle.machine.specs.Parts.{shape_of_delivery}
use Rattle.control.specs.Pages.{branch_shape, defer_shape}
use Rattle.forms.specs.declared.Form.{Form}
use Rattle.forms.specs.declared.Form.TheVariants.{Act, Jump, Branch, Defer, Call, Return, Invalid}

-- the shape that a form stands for
abbrev pub shape_is : Form → Shape
shape_is (Act a) = shape_of_delivery a
shape_is (Jump a) = go (constant 0) (jump a)
shape_is (Branch w) = branch_shape w
shape_is (Defer w) = defer_shape w
shape_is (Call i) = go (register 0 0 0) (call i)
shape_is Return = go (constant 0) return
shape_is Invalid = invalid

-- what the code relies on: rotations and lengths are below 8
abbrev pub FormFits : Form → Type 0
FormFits (Act a) = a.l < 8
FormFits (Jump a) = Unit
FormFits (Branch w) = w.l < 8
FormFits (Defer w) = w.l < 8
FormFits (Call i) = Unit
FormFits Return = Unit
FormFits Invalid = Unit
